use Rattle.std.proofs.Common.{map}
use Rattle.relay.specs.KeptEvents.{tells}
use Rattle.handover.proofs.EventByEvent.{growing_next, growing_all}
use Rattle.handover.proofs.transcripts.Transcript.write_all.Goals as goal

pub loop-event-preserved : goal.loop-event-preserved
loop-event-preserved c =
    let e = c.in_ok-write.ensures in
    growing_next c.args.statements c.args.self.now c.loop-event.self c.write.new.self
    (map tells c.args.events.now) c.args.events.now c.loop-event.event-index c.event-item.result
    c.loop-event-test.true c.event-item.is c.loop-event.invariant e.text e.instants e.stepped

pub returns : goal.returns
returns c =
    growing_all c.args.statements c.args.self.now c.loop-event.self (map tells c.args.events.now)
    c.args.events.now c.loop-event.event-index c.loop-event-test.false c.loop-event.invariant
