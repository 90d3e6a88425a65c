use Rattle.count.proofs.RowLists.{Filled}
use Rattle.count.proofs.machine.Rows.put_all.Given as goal

abbrev pub invariant-loop-i : goal.invariant-loop-i
invariant-loop-i l = Filled l.marks l.initial.self l.self l.i
