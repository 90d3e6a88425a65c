use Rattle.std.proofs.Common.{sym, ap, ◌∙◌, subst}
use Rattle.record.specs.declared.phases.Phase.{Phase}
use Rattle.record.specs.Phases.{is_open, is_over, phase_of}
use Rattle.count.specs.View.{kinds_in, marks_in}
use Rattle.count.proofs.Sound.{Keeps, close_keeps, close_finished}
use Rattle.count.proofs.Presence.{within_empty}
use Rattle.count.proofs.counts.Count.end_instant.Goals as goal

pub invariant_of-self-clause-legal : goal.invariant_of-self-clause-legal
invariant_of-self-clause-legal g c =
    let s = c.args.self.now in
    let u = c.end.new.self in
    subst (λ (p : Phase). Keeps (is_open p) (kinds_in u) (marks_in u))
    (sym (c.from-self.ensures ∙ ap phase_of c.status.ensures))
    (close_keeps s.phase s.rows u _ c.requires s.legal c.end.ensures)

pub invariant_of-self-clause-finished : goal.invariant_of-self-clause-finished
invariant_of-self-clause-finished g c =
    let s = c.args.self.now in
    let e = c.from-self.ensures ∙ ap phase_of c.status.ensures in
    λ h. close_finished s.phase s.rows c.end.new.self _ c.requires s.legal c.end.ensures
    (sym (ap is_over e) ∙ h)

pub invariant_of-self-clause-within : goal.invariant_of-self-clause-within
invariant_of-self-clause-within g c = within_empty _ _ c.wipe.ensures
