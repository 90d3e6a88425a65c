use Rattle.std.proofs.Common.{◌+◌, ◌-◌, ◌*◌, length}
use Rattle.routine.proofs.rows.Rows.+contains_inside.Given as goal

abbrev pub decreases-contains : goal.decreases-contains
decreases-contains l = 2 * (length l.self.now.statements.now - l.i) + 1

abbrev pub decreases-inside : goal.decreases-inside
decreases-inside l = 2 * (length l.self.now.statements.now - l.i)
