use Rattle.std.proofs.Common.{◌-◌}
use Rattle.routine.specs.View.{count_of}
use Rattle.tablecheck.proofs.outline.+write_outline.Given as goal

abbrev pub decreases-write_outline : goal.decreases-write_outline
decreases-write_outline l = count_of l.routine.now.table - l.number
