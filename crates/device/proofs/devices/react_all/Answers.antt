use Rattle.std.proofs.Common.{vec_items, inr}
use Rattle.std.proofs.lemmas.Result.{err_from_is_err_and}
use Rattle.device.proofs.Going.{going_next, going_refused}
use Rattle.device.proofs.devices.react_all.Goals as goal

pub returns-in_err-react : goal.returns-in_err-react
returns-in_err-react g c =
    let f = c.from_residual in
    let r = err_from_is_err_and f.result f.ensures.1 in
    rw (r.1, r.2)
    (inr (going_refused g.B.Board.present c.args.count.now c.loop-word.count c.react.new.self
    c.args.words.now (vec_items c.args.closings.now) (vec_items c.loop-word.closings)
    c.loop-word.word-index c.loop-word-test.true c.loop-word.invariant _ c.in_err-react.ensures))

pub loop-word-preserved : goal.loop-word-preserved
loop-word-preserved g c =
    going_next g.B.Board.present c.args.count.now c.loop-word.count c.react.new.self
    c.args.words.now (vec_items c.args.closings.now) (vec_items c.loop-word.closings)
    c.loop-word.word-index c.loop-word-test.true c.loop-word.invariant _ _ c.in_ok-react.ensures
    c.in_ok-push.ensures.items
