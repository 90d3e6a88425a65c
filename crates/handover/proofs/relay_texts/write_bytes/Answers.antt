use Rattle.handover.specs.RelayTexts.{byte_text}
use Rattle.handover.proofs.ItemByItem.{writes_none, writes_more, writes_all}
use Rattle.handover.proofs.relay_texts.write_bytes.Goals as goal

pub loop-byte-init : goal.loop-byte-init
loop-byte-init c = writes_none byte_text _ _

pub loop-byte-preserved : goal.loop-byte-preserved
loop-byte-preserved c =
    writes_more byte_text _ _ _ _ _ _ c.loop-byte-test.true c.loop-byte.invariant
    c.in_ok-write_byte.ensures

pub returns : goal.returns
returns c = writes_all byte_text _ _ _ _ c.loop-byte-test.false c.loop-byte.invariant
