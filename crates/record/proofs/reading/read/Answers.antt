use Rattle.std.proofs.Common.{false, refl}
use Rattle.routine.specs.View.{table_kinds, table_signals}
use Rattle.record.proofs.Forms.{misfit, taken_by}
use Rattle.record.proofs.reading.read.Goals as goal

pub returns-in-None : goal.returns-in-None
returns-in-None c =
    let t = c.args.routine.now.table in
    taken_by (table_signals t) (table_kinds t) c.args.bytes.now false _ _
    (misfit _ _ c.in-None.ensures.cases) refl refl
