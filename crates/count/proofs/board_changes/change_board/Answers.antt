use Rattle.std.proofs.Common.{ap, ◌∙◌, rules}
use Rattle.routine.specs.declared.checked.Routine.{Routine}
use Rattle.routine.specs.View.{table_kinds, table_signals}
use Rattle.record.proofs.Lists.{few_kinds}
use Rattle.count.specs.CountView.{kinds_of, signals_of, state_of}
use Rattle.count.proofs.TakenOver.{few_signals}
use Rattle.count.proofs.Passing.{comes_back, sound_count}
use Rattle.count.proofs.board_changes.change_board.Goals as goal

pub returns-clause-state : goal.returns-clause-state
returns-clause-state g c =
    let d = c.args.count in
    let present = g.A.Board.present in
    let n = c.new-count.ensures in
    let h = c.hand_over-routine.ensures in
    comes_back (signals_of d) _ (kinds_of d) _ (state_of present d) _ _ _
    (few_kinds d.rows.routine.table) (few_signals d.rows)
    (sound_count g.met.A.Board.size d (search rules) (search rules)) h.record
    (n.signals ∙ ap (λ (r : Routine). table_signals r.table) h.routine)
    (n.kinds ∙ ap (λ (r : Routine). table_kinds r.table) h.routine) c.take_over.ensures.exact.leaves
