use Rattle.count.specs.Calls.{bit}
use Rattle.count.proofs.Shown.{Shown}
use Rattle.count.proofs.words.show.Given as goal

abbrev pub invariant-loop-s : goal.invariant-loop-s
invariant-loop-s g l = Shown (bit l.word) l.s (g.B.Board.present l.board)
