use Rattle.routine.specs.View.{table_signals, table_kinds}
use Rattle.rules.proofs.TestsPassed.{of_routine}
use Rattle.rules.proofs.TakesTime.{takes_time}
use Rattle.rules.proofs.theorems.takes_time.Goals as goal

pub returns : goal.returns
returns c =
    let r = c.args.routine.now in
    takes_time (table_signals r.table) (table_kinds r.table) (of_routine r)
