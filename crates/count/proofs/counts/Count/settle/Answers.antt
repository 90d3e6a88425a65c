use Rattle.std.proofs.Common.{length, refl, ap, ◌∙◌, arith, rules}
use Rattle.record.specs.State.{State}
use Rattle.record.specs.Phases.{is_open}
use Rattle.rules.specs.Rules.{ready}
use Rattle.count.specs.View.{marks_in, tree_in}
use Rattle.count.specs.CountView.{kinds_of, signals_of, state_of}
use Rattle.count.proofs.Sound.{checked, many}
use Rattle.count.proofs.Settling.{turned_none, turned_more, some_ready, settled_here}
use Rattle.count.proofs.Settling.{settled_at_last}
use Rattle.count.proofs.Front.{quiet_start, quiet_after, quiet_moved}
use Rattle.count.proofs.counts.Count.settle.Goals as goal

pub loop-turn-init : goal.loop-turn-init
loop-turn-init g c =
    let s = c.args.self.now in
    let present = g.B.Board.present in
    record {
      live = c.requires.live;
      routine = record { kinds = refl; signals = refl };
      turned = turned_none (kinds_of s) (state_of present s)
          (g.T.Tracer.trace c.args.tracer.now) c.requires.fresh;
      quiet = quiet_start (kinds_of s) (marks_in s.rows) (present s.board) 0;
    }

pub act-requires-clause-ready : goal.act-requires-clause-ready
act-requires-clause-ready g c =
    let s = c.loop-turn.self in
    some_ready (ready (tree_in s.rows 0) (marks_in s.rows) (g.B.Board.present s.board))
    (length (kinds_of s)) {k = c.in-Some.k} c.in-Some.ensures

pub loop-turn-preserved : goal.loop-turn-preserved
loop-turn-preserved g c =
    let s = c.loop-turn.self in
    let i = c.loop-turn.invariant in
    let r = c.act.ensures.routine in
    record {
      live = ap (λ (u : State). is_open u.phase) c.act.ensures.leaves ∙ i.live;
      routine = record {
        kinds = r.kinds ∙ i.routine.kinds;
        signals = r.signals ∙ i.routine.signals;
      };
      turned = turned_more (kinds_of c.args.self.now) i.turned (kinds_of s) c.in-Some.k
          (state_of g.B.Board.present c.act.new.self) _ i.routine.kinds
          (omega arith) (omega arith) c.in-Some.ensures c.act.ensures.leaves c.step.ensures;
      quiet = quiet_moved (kinds_of s) (kinds_of c.act.new.self) _ _ _ _ _ _ _ _ r.kinds
          (ap (λ (u : State). u.marks) c.act.ensures.leaves)
          (ap (λ (u : State). u.present) c.act.ensures.leaves)
          c.front_after-front.ensures.from c.front_after-front.ensures.guard
          (quiet_after (signals_of s) (kinds_of s)
          (checked s.rows) s.rows.guards s.rows.waiters s.rows.guarded s.rows.awaited
          (marks_in s.rows) (g.B.Board.present s.board) _
          c.loop-turn.front.from c.loop-turn.front.guard c.in-Some.k
          (many s.rows) i.quiet c.own_signal_present.ensures c.in-Some.ensures);
    }

pub returns-in_default : goal.returns-in_default
returns-in_default g c =
    let i = c.loop-turn.invariant in
    let s = settled_here (kinds_of c.args.self.now) i.turned
    (kinds_of c.loop-turn.self) i.routine.kinds c.in_default.ensures in
    record { leaves = s.leaves; told = s.told; turns = s.turns; routine = i.routine }

pub returns : goal.returns
returns g c =
    let i = c.loop-turn.invariant in
    let s = settled_at_last (kinds_of c.args.self.now) i.turned
    (omega (arith, c.count-most.ensures.value)) in
    record { leaves = s.leaves; told = s.told; turns = search rules; routine = i.routine }
