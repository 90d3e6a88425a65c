use Rattle.handover.specs.RelayTexts.{letter}
use Rattle.handover.proofs.ItemByItem.{writes_none, writes_more, writes_all}
use Rattle.handover.proofs.relay_texts.write_marks.Goals as goal

pub loop-mark-init : goal.loop-mark-init
loop-mark-init c = writes_none letter _ _

pub loop-mark-preserved : goal.loop-mark-preserved
loop-mark-preserved c =
    writes_more letter _ _ _ _ _ _ c.loop-mark-test.true c.loop-mark.invariant
    c.in_ok-write_letter.ensures

pub returns : goal.returns
returns c = writes_all letter _ _ _ _ c.loop-mark-test.false c.loop-mark.invariant
