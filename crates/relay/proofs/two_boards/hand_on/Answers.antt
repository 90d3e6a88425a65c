use Rattle.std.proofs.Common.{map, rules, ap, ◌∙◌}
use Rattle.routine.specs.declared.checked.Routine.{Routine}
use Rattle.routine.specs.View.{table_kinds, table_signals}
use Rattle.record.proofs.Lists.{few_kinds}
use Rattle.record.specs.State.{State}
use Rattle.count.specs.CountView.{kinds_of, signals_of, state_of}
use Rattle.count.proofs.TakenOver.{few_signals}
use Rattle.relay.specs.Asked.{asked}
use Rattle.count.proofs.Passing.{sound_count}
use Rattle.relay.proofs.HandedOn.{later_heard, left_at, left_record, left_routine}
use Rattle.relay.proofs.two_boards.hand_on.Goals as goal

pub returns : goal.returns
returns g c =
    let a = c.args.count in
    let A = g.A.Board.present in
    let B = g.B.Board.present in
    let gs = signals_of a in
    let ks = kinds_of a in
    let s = state_of A a in
    let ds = map asked c.args.later.now in
    let h = c.hand_over-released.ensures in
    let n = c.new-count.ensures in
    let e = n.signals ∙ ap (λ (r : Routine). table_signals r.table) h.routine in
    let f = n.kinds ∙ ap (λ (r : Routine). table_kinds r.table) h.routine in
    let S = sound_count g.met.A.Board.size a (search rules) (search rules) in
    let k = few_kinds a.rows.routine.table in
    let m = few_signals a.rows in
    let b = c.new-count.result in
    let d = c.resume.new.count in
    let t = c.resume.ensures.tells in
    let l = c.hand_over-released-2.ensures in
    record {
      tells = record {
        handed = h.record;
        later = later_heard gs ks k m s S _ h.record ds B b d e f _ _ t;
        left = left_record gs ks k m s S _ h.record ds B b d e f _ _ t _ l.record;
        first_board = ap A h.board;
        second_board = ap B l.board
            ∙ ap (λ (x : State). x.present) (left_at gs ks k m s S _ h.record ds B b d e f _ _ t);
      };
      routine = left_routine gs ks k m s S _ h.record ds B b d e f _ _ t _ l.routine;
    }
