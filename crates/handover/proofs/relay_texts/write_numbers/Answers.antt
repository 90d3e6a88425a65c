use Rattle.handover.specs.RelayTexts.{number_text}
use Rattle.handover.proofs.ItemByItem.{writes_none, writes_more, writes_all}
use Rattle.handover.proofs.relay_texts.write_numbers.Goals as goal

pub loop-number-init : goal.loop-number-init
loop-number-init c = writes_none number_text _ _

pub loop-number-preserved : goal.loop-number-preserved
loop-number-preserved c =
    writes_more number_text _ _ _ _ _ _ c.loop-number-test.true c.loop-number.invariant
    c.in_ok-write.ensures.bytes

pub returns : goal.returns
returns c = writes_all number_text _ _ _ _ c.loop-number-test.false c.loop-number.invariant
