use Rattle.std.proofs.Common.{◌-◌}
use Rattle.count.specs.View.{count_in}
use Rattle.count.proofs.machine.Rows.+over.Given as goal

abbrev pub decreases-over : goal.decreases-over
decreases-over l = count_in l.self.now - l.i
