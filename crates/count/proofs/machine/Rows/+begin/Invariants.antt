use Rattle.std.proofs.Common.{◌-◌}
use Rattle.count.specs.View.{count_in}
use Rattle.count.proofs.machine.Rows.+begin.Given as goal

abbrev pub decreases-begin : goal.decreases-begin
decreases-begin l = count_in l.self.now - l.i
