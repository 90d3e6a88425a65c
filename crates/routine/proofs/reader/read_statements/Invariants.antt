use Rattle.std.proofs.Common.{◌≡◌, ◌+◌, ◌*◌, ◌≤◌, length}
use Rattle.arrayvec.specs.ArrayVec.{array_vec_len}
use Rattle.routine.specs.declared.tables.TheConstants.{STATEMENT_BYTES, MOST_STATEMENTS}
use Rattle.routine.specs.Layout.{records_from}
use Rattle.routine.proofs.Entries.{after}
use Rattle.routine.proofs.reader.read_statements.Given as goal

abbrev pub invariant-loop-left : goal.invariant-loop-left
invariant-loop-left l =
    (after l.made.items (records_from l.header.signals l.header.statements
    (array_vec_len l.made) l.left)
    ≡ records_from l.header.signals l.header.statements 0 l.bytes)
    × (STATEMENT_BYTES * array_vec_len l.made + length l.left ≤ STATEMENT_BYTES * MOST_STATEMENTS)

abbrev pub decreases-loop-left : goal.decreases-loop-left
decreases-loop-left l = length l.left
