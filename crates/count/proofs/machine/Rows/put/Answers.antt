use Rattle.std.proofs.Common.{vec_items, refl, arith}
use Rattle.count.proofs.RowLists.{kinds_kept, marks_set, formed_kept, passes_kept, guards_kept}
use Rattle.count.proofs.RowLists.{waiters_kept}
use Rattle.count.proofs.machine.Rows.put.Goals as goal

pub invariant_of-self : goal.invariant_of-self
invariant_of-self c =
    let r = c.args.self.now.routine in
    let t = r.table in
    let v = t.statements in
    let row = c.in-Some.ensures in
    let within = row.variant.0 refl in
    let e = kinds_kept (vec_items v) c.args.i _ _
    (omega (arith, v.ok.0)) row.value c.set_mark.ensures.kept in (
      (
        (t.few, (t.some, (t.most, (formed_kept _ _ _ e t.formed, tt)))),
        (passes_kept _ _ _ e r.passed, tt),
      ),
      (
        guards_kept _ _ _ e c.args.self.now.guarded,
        (waiters_kept _ _ _ e c.args.self.now.awaited, tt),
      ),
    )

pub returns-in-Some : goal.returns-in-Some
returns-in-Some c =
    let v = c.args.self.now.routine.table.statements in
    let row = c.in-Some.ensures in
    let within = row.variant.0 refl in
    record {
      kinds = kinds_kept (vec_items v) c.args.i _ _
          (omega (arith, v.ok.0)) row.value c.set_mark.ensures.kept;
      signals = refl;
      len = refl;
      marks = marks_set (vec_items v) c.args.i _ _ c.set_mark.ensures.after;
    }
