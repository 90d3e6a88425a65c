use Rattle.routine.specs.View.{table_signals, table_kinds}
use Rattle.rules.proofs.TestsPassed.{of_routine}
use Rattle.rules.proofs.EitherOrder.{either_order}
use Rattle.rules.proofs.theorems.either_order.Goals as goal

pub returns : goal.returns
returns c =
    let r = c.args.routine.now in
    either_order (table_signals r.table) (table_kinds r.table) (of_routine r)
