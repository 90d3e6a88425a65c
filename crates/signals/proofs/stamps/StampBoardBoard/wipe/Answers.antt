use Rattle.std.proofs.Common.{rules}
use Rattle.signals.proofs.Boards.{boards}
use Rattle.signals.proofs.stamps.StampBoardBoard.wipe.Goals as goal

pub invariant_of-self-else-self-lt-LAST_STAMP : goal.invariant_of-self-else-self-lt-LAST_STAMP
invariant_of-self-else-self-lt-LAST_STAMP c = search (rules, boards)

pub returns-else-self-lt-LAST_STAMP : goal.returns-else-self-lt-LAST_STAMP
returns-else-self-lt-LAST_STAMP c = search (rules, boards)
