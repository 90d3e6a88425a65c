use Rattle.std.proofs.Common.{string_bytes}
use Rattle.handover.specs.RelayTexts.{letter}
use Rattle.handover.proofs.ItemByItem.{Writes}
use Rattle.handover.proofs.relay_texts.write_marks.Given as goal

abbrev pub invariant-loop-mark : goal.invariant-loop-mark
invariant-loop-mark l = Writes letter l.marks l.mark-index (string_bytes l.initial.out)
    (string_bytes l.out)
