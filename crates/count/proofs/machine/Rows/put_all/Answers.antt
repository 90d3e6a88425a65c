use Rattle.std.proofs.Common.{◌≡◌, subst, ◌∙◌, arith, refl}
use Rattle.count.proofs.RowLists.{Filled, filled_none, filled_more, filled_all}
use Rattle.count.proofs.machine.Rows.put_all.Goals as goal

pub loop-i-init : goal.loop-i-init
loop-i-init c = filled_none _ _

pub loop-i-preserved : goal.loop-i-preserved
loop-i-preserved c = filled_more _ _ _ _ _ _
    (omega (
      arith,
      c.loop-i-test.true,
      c.count-i-end.ensures.rows,
    )) refl c.loop-i.invariant c.put.ensures

pub returns : goal.returns
returns c =
    let t = c.args.self.now in
    let n = c.count-i-end.ensures.rows in
    let ended : c.loop-i.i ≡ c.count-i-end.result =
    omega (arith, c.loop-i-test.false, c.loop-i.auto.i-end) in
    filled_all _ _ _ (omega (arith, t.routine.table.most, c.told-marks))
    (subst (Filled c.args.marks.now t c.loop-i.self) (ended ∙ n) c.loop-i.invariant)
