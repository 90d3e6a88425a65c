use Rattle.routine.specs.View.{table_kinds, table_signals}
use Rattle.relay.proofs.Observed.{observed_alike, same_model}
use Rattle.relay.proofs.two_boards.relay_twice.Goals as goal

-- the second relay is of the routine that the first gave back
pub returns-clause-law : goal.returns-clause-law
returns-clause-law g c =
    let t = c.args.routine.table in
    let r = c.relay-relayed.ensures.routine in
    observed_alike (table_signals t) (table_kinds t) _ _ _ _ _ _ _ _ c.relay-relayed.ensures.model
    (same_model (table_signals t) _
    (table_kinds t) _ _ _ _ _ r.signals r.kinds c.relay-once_more.ensures.model)
