use Rattle.std.proofs.Common.{◌-◌, length}
use Rattle.routine.proofs.rows.Rows.+can_end.Given as goal

abbrev pub decreases-can_end : goal.decreases-can_end
decreases-can_end l = length l.self.now.statements.now - l.i
