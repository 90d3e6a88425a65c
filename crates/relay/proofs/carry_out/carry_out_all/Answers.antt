use Rattle.std.proofs.Common.{List, map, subst}
use Rattle.std.proofs.lemmas.List.{at_drop_all}
use Rattle.relay.specs.declared.call.Call.{Call}
use Rattle.relay.specs.Asked.{asked}
use Rattle.relay.proofs.Telling.{Telling, telling_next, telling_all}
use Rattle.relay.proofs.carry_out.carry_out_all.Goals as goal

pub loop-call-preserved : goal.loop-call-preserved
loop-call-preserved g c =
    let s = c.args.count.now in
    let calls = c.args.calls.now in
    let ear = g.L.Listener.ear in
    telling_next g.B.Board.present s c.loop-call.count c.carry_out.new.count
    (map asked calls) calls c.loop-call.call-index _ (ear c.args.listener.now)
    (ear c.loop-call.listener) (ear c.carry_out.new.listener)
    c.loop-call-test.true c.loop-call.invariant c.carry_out.ensures

pub returns : goal.returns
returns g c =
    let s = c.args.count.now in
    let ear = g.L.Listener.ear in
    let calls = c.args.calls.now in
    let old = ear c.args.listener.now in
    let new = ear c.loop-call.listener in
    let none = at_drop_all (λ xs. xs) calls c.loop-call.call-index c.loop-call-test.false in
    telling_all g.B.Board.present s c.loop-call.count (map asked calls) old new
    (subst (λ (xs : List Call).
    Telling g.B.Board.present s c.loop-call.count (map asked calls) (map asked xs) old new)
    none c.loop-call.invariant)
