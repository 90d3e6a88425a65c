use Rattle.std.proofs.Common.{inl, inr, ap, ◌++◌, Err, ◌∙◌, sym, subst, vec_items}
use Rattle.std.proofs.lemmas.Result.{err_from_is_err_and}
use Rattle.routine.specs.View.{load_of, routine_content}
use Rattle.device.specs.Closings.{Reply, IsOrMemory}
use Rattle.device.proofs.Going.{told_new, told_next, told_there, same_routine}
use Rattle.device.proofs.Going.{not_loaded, as_refused, not_refused}
use Rattle.device.proofs.devices.react_on_two.Goals as goal

pub returns-in_err-load-clause-answers : goal.returns-in_err-load-clause-answers
returns-in_err-load-clause-answers g c =
    let f = c.from_residual in
    let r = err_from_is_err_and f.result f.ensures.1 in
    rw (r.1, r.2)
    (not_loaded (load_of c.args.table.now) routine_content _
    (c.args.before.now ++ c.args.later.now) c.in_err-load.ensures)

pub returns-in_err-react_all-clause-answers : goal.returns-in_err-react_all-clause-answers
returns-in_err-react_all-clause-answers g c =
    let f = c.from_residual-in_err-react_all in
    let r = err_from_is_err_and f.result f.ensures.1 in
    let h = c.new-here.ensures in
    let later = c.args.later.now in
    let told = told_new g.A.Board.present c.args.table.now _ c.new-here.result _
    c.new-closings.ensures.items c.in_ok-load.ensures h.kinds h.signals h.state
    (c.args.before.now ++ later) in
    rw (r.1, r.2)
    (elim c.in_err-react_all.ensures [ inl m ↦ inl m | inr why ↦ inr (told ∙ why later) ])

pub returns-in_err-load-2-clause-answers : goal.returns-in_err-load-2-clause-answers
returns-in_err-load-2-clause-answers g c =
    let f = c.from_residual-in_err-load-2 in
    let r = err_from_is_err_and f.result f.ensures.1 in
    rw (r.1, r.2)
    (not_loaded (load_of c.args.table.now) routine_content _
    (c.args.before.now ++ c.args.later.now) c.in_err-load-2.ensures)

-- what the first device is to answer to the later words the second answers
pub returns-clause-answers : goal.returns-clause-answers
returns-clause-answers g c =
    let here = c.react_all.new.count in
    let there = c.new-there.result in
    let h = c.new-here.ensures in
    let t = c.new-there.ensures in
    let gone = c.in_ok-react_all.ensures in
    let handed = c.into_record-record.ensures in
    let same = same_routine c.args.table.now _ _ c.new-here.result here there
    c.in_ok-load.ensures c.in_ok-load-2.ensures gone.routine h.kinds h.signals t.kinds t.signals in
    let first = told_next g.A.Board.present c.args.table.now _ c.new-here.result _
    c.new-closings.ensures.items c.in_ok-load.ensures h.kinds h.signals h.state
    c.args.before.now c.args.later.now here _ gone in
    let then = told_there g.A.Board.present here there _ handed.accepted handed.says same _
    c.args.later.now in
    subst (λ (d : Reply). IsOrMemory d vec_items c.go_on.result) (sym (first ∙ then))
    c.go_on.ensures

pub returns-in_err-load-clause-refused : goal.returns-in_err-load-clause-refused
returns-in_err-load-clause-refused g c =
    let f = c.from_residual in
    let r = err_from_is_err_and f.result f.ensures.1 in
    as_refused (load_of c.args.table.now) routine_content _ _
    (r.1 ∙ ap Err r.2) c.in_err-load.ensures

pub returns-in_err-react_all-clause-refused : goal.returns-in_err-react_all-clause-refused
returns-in_err-react_all-clause-refused g c =
    not_refused (load_of c.args.table.now) routine_content _ _ c.in_ok-load.ensures

pub returns-in_err-load-2-clause-refused : goal.returns-in_err-load-2-clause-refused
returns-in_err-load-2-clause-refused g c =
    not_refused (load_of c.args.table.now) routine_content _ _ c.in_ok-load.ensures

pub returns-clause-refused : goal.returns-clause-refused
returns-clause-refused g c =
    not_refused (load_of c.args.table.now) routine_content _ _ c.in_ok-load.ensures
