use Rattle.std.proofs.Common.{◌≡◌, true}
use Rattle.record.specs.Phases.{is_open}
use Rattle.count.specs.View.{marks_in}
use Rattle.count.specs.Front.{QuietBelow}
use Rattle.count.specs.CountView.{kinds_of, state_of, SameRoutine}
use Rattle.count.proofs.Settling.{Turned}
use Rattle.count.proofs.counts.Count.settle.Given as goal

abbrev pub invariant-loop-turn : goal.invariant-loop-turn
invariant-loop-turn g l = record {
  live : is_open l.self.phase ≡ true;
  routine : SameRoutine l.initial.self l.self;
  turned : Turned (kinds_of l.initial.self) (state_of g.B.Board.present l.initial.self)
      (state_of g.B.Board.present l.self) (g.T.Tracer.trace l.initial.tracer)
      (g.T.Tracer.trace l.tracer) l.turn;
  quiet : QuietBelow (kinds_of l.self) (marks_in l.self.rows)
      (g.B.Board.present l.self.board) l.front.from l.front.guard;
}
