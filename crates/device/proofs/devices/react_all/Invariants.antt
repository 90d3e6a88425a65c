use Rattle.std.proofs.Common.{drop, vec_items}
use Rattle.device.proofs.Going.{Going}
use Rattle.device.proofs.devices.react_all.Given as goal

abbrev pub invariant-loop-word : goal.invariant-loop-word
invariant-loop-word g l =
    Going g.B.Board.present l.initial.count l.count l.words (drop l.word-index l.words)
    (vec_items l.initial.closings) (vec_items l.closings)
