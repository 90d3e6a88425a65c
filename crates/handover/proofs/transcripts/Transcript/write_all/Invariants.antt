use Rattle.std.proofs.Common.{map, drop}
use Rattle.relay.specs.KeptEvents.{tells}
use Rattle.handover.proofs.EventByEvent.{Growing}
use Rattle.handover.proofs.transcripts.Transcript.write_all.Given as goal

abbrev pub invariant-loop-event : goal.invariant-loop-event
invariant-loop-event l =
    Growing l.statements l.initial.self l.self (map tells l.events)
    (map tells (drop l.event-index l.events))
