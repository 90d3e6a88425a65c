use Rattle.std.proofs.Common.{◌≡◌, drop}
use Rattle.arrayvec.specs.ArrayVec.{array_vec_len}
use Rattle.routine.specs.Layout.{signals_from}
use Rattle.routine.proofs.Entries.{after}
use Rattle.routine.proofs.reader.read_signals.Given as goal

abbrev pub invariant-loop-signal : goal.invariant-loop-signal
invariant-loop-signal l =
    (after l.made.items (signals_from l.signal (drop l.signal l.bytes))
    ≡ signals_from 0 l.bytes)
    × (array_vec_len l.made ≡ l.signal)
