use Rattle.std.proofs.Common.{◌-◌}
use Rattle.count.specs.View.{count_in}
use Rattle.count.proofs.machine.Rows.+idle.Given as goal

abbrev pub decreases-idle : goal.decreases-idle
decreases-idle l = count_in l.self.now - l.i
