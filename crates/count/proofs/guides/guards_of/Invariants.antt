use Rattle.routine.specs.View.{table_kinds}
use Rattle.count.proofs.Guarding.{Guarded}
use Rattle.count.proofs.guides.guards_of.Given as goal

abbrev pub invariant-loop-i : goal.invariant-loop-i
invariant-loop-i l = Guarded (table_kinds l.routine.table) l.guards l.i
