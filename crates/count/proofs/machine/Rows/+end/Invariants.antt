use Rattle.std.proofs.Common.{◌-◌}
use Rattle.count.specs.View.{count_in}
use Rattle.count.proofs.machine.Rows.+end.Given as goal

abbrev pub decreases-end : goal.decreases-end
decreases-end l = count_in l.self.now - l.i
