use Rattle.std.proofs.Common.{◌-◌, map, vec_items}
use Rattle.relay.specs.Asked.{asked}
use Rattle.handover.specs.CallLists.{list_of}
use Rattle.handover.proofs.CallByCall.{Reads}
use Rattle.handover.proofs.call_lists.list.Given as goal

abbrev pub invariant-loop : goal.invariant-loop
invariant-loop l = Reads (map asked (vec_items l.calls)) (l.count - l.counter) l.rest
    (list_of l.bytes)
