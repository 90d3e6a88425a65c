use Rattle.std.proofs.Common.{◌-◌}
use Rattle.count.specs.View.{count_in}
use Rattle.count.proofs.counts.Count.+is_ready_inside.Given as goal

abbrev pub decreases-is_ready_inside : goal.decreases-is_ready_inside
decreases-is_ready_inside g l = count_in l.self.now.rows - l.i
