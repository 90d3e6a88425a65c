use Rattle.routine.specs.View.{table_signals, table_kinds}
use Rattle.rules.proofs.TestsPassed.{of_routine}
use Rattle.rules.proofs.OrderNeverShows.{order_never_shows}
use Rattle.rules.proofs.StepsAddUp.{same_outcome}
use Rattle.rules.proofs.theorems.order_never_shows.Goals as goal

pub returns : goal.returns
returns c =
    let r = c.args.routine.now in
    record {
      outcome = same_outcome (table_signals r.table) (table_kinds r.table) (of_routine r);
      order = order_never_shows (table_signals r.table) (table_kinds r.table) (of_routine r);
    }
