use Rattle.std.proofs.Common.{refl}
use Rattle.std.proofs.lemmas.Result.{on_ok_weaker}
use Rattle.run.proofs.InputWords.{words_more, words_done}
use Rattle.run.proofs.WordLines.{line_more, line_last, line_none}
use Rattle.run.proofs.listing.write_lines.Goals as goal

pub returns-in-Err : goal.returns-in-Err
returns-in-Err g c =
    let more =
    words_more c.as_chunks.result.0.now c.loop-word.word-index c.from_le_bytes.result
    c.loop-word-test.true c.from_le_bytes.ensures in
    on_ok_weaker c.writeln-in-Err.result
    (line_last _ _ _ _ _ _ _ _ (rw more at c.loop-word.invariant) c.in-Err.refusal
    c.in-Err.ensures) c.writeln-in-Err.ensures.bytes

pub loop-word-init : goal.loop-word-init
loop-word-init g c = rw c.as_chunks.ensures.front refl

pub loop-word-preserved : goal.loop-word-preserved
loop-word-preserved g c =
    let more =
    words_more c.as_chunks.result.0.now c.loop-word.word-index c.from_le_bytes.result
    c.loop-word-test.true c.from_le_bytes.ensures in
    line_more _ _ _ _ _ _ _ _ (rw more at c.loop-word.invariant) c.in-Ok.closing
    c.in-Ok.ensures c.in_ok-writeln-in-Ok.ensures.bytes

pub returns : goal.returns
returns g c = line_none g.B.Board.present c.loop-word.count _ _
    (rw (words_done _ _ c.loop-word-test.false) at c.loop-word.invariant)
