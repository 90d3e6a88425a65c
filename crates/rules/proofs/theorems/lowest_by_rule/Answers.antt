use Rattle.routine.specs.View.{table_signals, table_kinds}
use Rattle.rules.proofs.TestsPassed.{of_routine}
use Rattle.rules.proofs.LowestByRule.{lowest_by_rule}
use Rattle.rules.proofs.theorems.lowest_by_rule.Goals as goal

pub returns : goal.returns
returns c =
    let r = c.args.routine.now in
    lowest_by_rule (table_signals r.table) (table_kinds r.table) (of_routine r)
