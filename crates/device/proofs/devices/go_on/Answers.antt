use Rattle.std.proofs.Common.{inl, inr, ◌∙◌, []}
use Rattle.std.proofs.lemmas.Result.{err_from_is_err_and}
use Rattle.device.proofs.Going.{record_refused, record_taken, told_all}
use Rattle.device.proofs.devices.go_on.Goals as goal

pub returns-in_err-take_over : goal.returns-in_err-take_over
returns-in_err-take_over g c =
    let f = c.from_residual in
    let r = err_from_is_err_and f.result f.ensures.1 in
    rw (r.1, r.2)
    (inr (record_refused g.B.Board.present c.args.there c.take_over.new.self _ _ _
    c.in_err-take_over.ensures.exact c.args.words.now))

pub returns-in_err-react_all : goal.returns-in_err-react_all
returns-in_err-react_all g c =
    let f = c.from_residual-in_err-react_all in
    let r = err_from_is_err_and f.result f.ensures.1 in
    let taken = record_taken g.B.Board.present c.args.there c.take_over.new.self _ _
    c.in_ok-take_over.ensures.exact c.args.words.now in
    rw (r.1, r.2)
    (elim c.in_err-react_all.ensures [ inl m ↦ inl m | inr why ↦ inr (taken ∙ why []) ])

pub returns : goal.returns
returns g c =
    told_all g.B.Board.present _ c.take_over.new.self c.react_all.new.count c.args.words.now _ _
    c.in_ok-react_all.ensures
    (record_taken g.B.Board.present c.args.there c.take_over.new.self _ _
    c.in_ok-take_over.ensures.exact c.args.words.now)
