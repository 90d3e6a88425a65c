use Rattle.std.proofs.Common.{◌≡◌, ◌++◌, string_bytes}
use Rattle.rules.specs.Model.{times_of}
use Rattle.handover.specs.RelayTexts.{numbers_text}
use Rattle.handover.proofs.relay_texts.write_times.Given as goal

abbrev pub invariant-loop-statement : goal.invariant-loop-statement
invariant-loop-statement l =
    string_bytes l.out ≡ string_bytes l.initial.out
    ++ numbers_text (times_of l.statement l.stepped)
