use Rattle.std.proofs.Common.{rules}
use Rattle.signals.proofs.Boards.{boards}
use Rattle.signals.proofs.tests.at_last_stamp.Goals as goal

pub invariant_of-result : goal.invariant_of-result
invariant_of-result c = search (rules, boards)
