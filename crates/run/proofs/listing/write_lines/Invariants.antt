use Rattle.std.proofs.Common.{◌≡◌, ◌++◌, string_bytes}
use Rattle.run.specs.InputWords.{words_of}
use Rattle.run.proofs.InputWords.{words_after}
use Rattle.run.proofs.WordLines.{to_come}
use Rattle.run.proofs.listing.write_lines.Given as goal

abbrev pub invariant-loop-word : goal.invariant-loop-word
invariant-loop-word g l =
    string_bytes l.out ++ to_come g.B.Board.present l.count (words_after l.words l.word-index)
    ≡ string_bytes l.initial.out ++ to_come g.B.Board.present l.initial.count (words_of l.bytes)
