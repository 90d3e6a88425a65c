use Rattle.std.proofs.Common.{string_bytes}
use Rattle.handover.specs.RelayTexts.{byte_text}
use Rattle.handover.proofs.ItemByItem.{Writes}
use Rattle.handover.proofs.relay_texts.write_bytes.Given as goal

abbrev pub invariant-loop-byte : goal.invariant-loop-byte
invariant-loop-byte l = Writes byte_text l.bytes l.byte-index (string_bytes l.initial.out)
    (string_bytes l.out)
