use Rattle.std.proofs.Common.{string_bytes}
use Rattle.handover.specs.RelayTexts.{number_text}
use Rattle.handover.proofs.ItemByItem.{Writes}
use Rattle.handover.proofs.relay_texts.write_numbers.Given as goal

abbrev pub invariant-loop-number : goal.invariant-loop-number
invariant-loop-number l =
    Writes number_text l.numbers l.number-index (string_bytes l.initial.out) (string_bytes l.out)
