use Rattle.std.proofs.Common.{rules}
use Rattle.record.proofs.Lists.{few_kinds}
use Rattle.count.specs.CountView.{kinds_of, signals_of, state_of}
use Rattle.count.proofs.Passing.{sound_count}
use Rattle.count.proofs.TakenOver.{few_signals}
use Rattle.device.proofs.Going.{says_it}
use Rattle.device.proofs.devices.into_record.Goals as goal

pub returns-clause-says : goal.returns-clause-says
returns-clause-says g c =
    let d = c.args.count in
    says_it (signals_of d) (kinds_of d) (state_of g.B.Board.present d) _
    (few_kinds d.rows.routine.table) (few_signals d.rows)
    (sound_count g.met.B.Board.size d (search rules) (search rules)) c.hand_over.ensures.record
