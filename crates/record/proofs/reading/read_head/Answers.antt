use Rattle.std.proofs.Common.{rules}
use Rattle.record.specs.Taking.{head_in, head_fault}
use Rattle.record.proofs.reading.read_head.Goals as goal

pub returns-in_default : goal.returns-in_default
unfolding head_fault
returns-in_default c = search rules

pub returns-in-Some-fault : goal.returns-in-Some-fault
unfolding head_fault head_in
returns-in-Some-fault c = search rules

pub returns-in-None : goal.returns-in-None
unfolding head_fault head_in
returns-in-None c = search rules
