use Rattle.routine.specs.View.{table_kinds}
use Rattle.count.proofs.Guarding.{Waited}
use Rattle.count.proofs.guides.waiters_of.Given as goal

abbrev pub invariant-loop-i : goal.invariant-loop-i
invariant-loop-i l = Waited (table_kinds l.routine.table) l.waiters l.i
