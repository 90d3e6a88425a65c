use Rattle.routine.specs.View.{table_signals, table_kinds}
use Rattle.rules.proofs.TestsPassed.{of_routine}
use Rattle.rules.proofs.NothingReadyInside.{nothing_ready_inside}
use Rattle.rules.proofs.theorems.nothing_ready_inside.Goals as goal

pub returns : goal.returns
returns c =
    let r = c.args.routine.now in
    nothing_ready_inside (table_signals r.table) (table_kinds r.table) (of_routine r)
