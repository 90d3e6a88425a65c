use Rattle.routine.specs.View.{table_signals, table_kinds}
use Rattle.rules.proofs.TestsPassed.{of_routine}
use Rattle.rules.proofs.MarksStayLegal.{marks_stay_legal}
use Rattle.rules.proofs.theorems.marks_stay_legal.Goals as goal

pub returns : goal.returns
returns c =
    let r = c.args.routine.now in
    marks_stay_legal (table_signals r.table) (table_kinds r.table) (of_routine r)
