use Rattle.std.proofs.Common.{map, refl}
use Rattle.relay.specs.KeptEvents.{tells}
use Rattle.handover.proofs.EventByEvent.{writes_relay}
use Rattle.handover.proofs.transcripts.transcribe.Goals as goal

pub returns : goal.returns
returns c =
    let s = c.new-transcript.ensures in
    writes_relay c.args.statements c.new-transcript.result c.write_all.new.self _
    c.write_all-2.new.self (map tells c.args.before.now) (map tells c.args.later.now)
    c.args.handed.now s.text s.instants s.stepped c.in_ok-write_all.ensures
    c.in_ok-write_handed.ensures refl refl c.in_ok-write_all-2.ensures
