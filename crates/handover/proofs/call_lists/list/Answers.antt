use Rattle.std.proofs.Common.{map, vec_items}
use Rattle.relay.specs.Asked.{asked}
use Rattle.handover.specs.CallLists.{list_of}
use Rattle.handover.proofs.CallByCall.{reads_more, reads_cut, reads_all}
use Rattle.handover.proofs.call_lists.list.Goals as goal

pub returns-in_default-call : goal.returns-in_default-call
returns-in_default-call c =
    reads_cut (map asked (vec_items c.loop.calls)) c.in-Some.count c.loop.counter c.loop.rest.now
    (list_of c.args.bytes.now) c.loop-test.true c.loop.invariant c.in_default-call.ensures

pub loop-preserved : goal.loop-preserved
loop-preserved c =
    reads_more (vec_items c.loop.calls) (vec_items c.push.new.self) c.in-Some.count c.loop.counter
    c.loop.rest.now c.in-Some-call.next.now (list_of c.args.bytes.now) c.in-Some-call.call
    c.loop-test.true c.loop.invariant c.in-Some-call.ensures c.in_ok-push.ensures.items

pub returns : goal.returns
returns c =
    reads_all (map asked (vec_items c.loop.calls)) c.in-Some.count c.loop.counter c.loop.rest.now
    (list_of c.args.bytes.now) c.loop-test.false c.loop.invariant
