use Rattle.std.proofs.Common.{rules}
use Rattle.std.proofs.lemmas.Option.{unwrap_or-slice_get}
use Rattle.routine.proofs.rows.Rows.signal_or_input.Goals as goal

pub returns : goal.returns
returns c = search (rules, unwrap_or-slice_get)
