use Rattle.std.proofs.Common.{drop, map}
use Rattle.relay.specs.Asked.{asked}
use Rattle.relay.proofs.Telling.{Telling}
use Rattle.relay.proofs.carry_out.carry_out_all.Given as goal

abbrev pub invariant-loop-call : goal.invariant-loop-call
invariant-loop-call g l =
    Telling g.B.Board.present l.initial.count l.count (map asked l.calls)
    (map asked (drop l.call-index l.calls)) (g.L.Listener.ear l.initial.listener)
    (g.L.Listener.ear l.listener)
