use Rattle.std.proofs.Common.{length, sym, ap, ◌∙◌}
use Rattle.rules.specs.Legal.{keeps}
use Rattle.record.specs.Phases.{is_open, is_over}
use Rattle.record.specs.Taking.{fault_by}
use Rattle.record.proofs.Restored.{no_fault}
use Rattle.count.specs.View.{marks_in}
use Rattle.count.specs.CountView.{kinds_of, signals_of}
use Rattle.count.proofs.counts.Count.standing.Goals as goal

pub invariant_of-result : goal.invariant_of-result
invariant_of-result g c =
    let d = c.args.self.now in
    let n = length (signals_of d) in
    let e = c.head.ensures in
    record {
      faultless = ap (λ h. fault_by h.phase n h) e
          ∙ no_fault d.phase n d.closed d.steps (g.B.Board.present d.board) d.room;
      legal = λ i l. ap (λ h. keeps (is_open h.phase) (kinds_of d) (marks_in d.rows) i) e
          ∙ d.legal i l;
      finished = λ o. d.finished (sym (ap (λ h. is_over h.phase) e) ∙ o);
    }
