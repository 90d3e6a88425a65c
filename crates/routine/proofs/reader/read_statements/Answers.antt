use Rattle.std.proofs.Common.{ℕ, ap, ◌∙◌, rules, arith}
use Rattle.arrayvec.specs.ArrayVec.{array_vec_len}
use Rattle.routine.specs.Layout.{fits}
use Rattle.routine.proofs.Entries.{records_more}
use Rattle.routine.proofs.reader.read_statements.Goals as goal

pub loop-left-preserved : goal.loop-left-preserved
loop-left-preserved c =
    let h = c.args.header in
    let e = c.push.ensures in
    let kind = c.in_ok-kind.kind in
    let fit = c.if-not-fits.ensures
    ∙ ap (λ (m : ℕ). fits h.signals h.statements m kind) c.len-statement.ensures.value in (
      records_more h.signals h.statements _ c.loop-left.left.now (search rules) _ _
          c.loop-left.invariant.0 c.push.new.self.items kind c.new.result
          (array_vec_len c.push.new.self) (search rules) fit c.new.ensures e.items e.len,
      search (rules, arith),
    )
