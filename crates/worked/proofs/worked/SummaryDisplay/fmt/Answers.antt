use Rattle.std.proofs.Common.{rules}
use Rattle.rules.proofs.Hexadecimal.{written_hex}
use Rattle.worked.proofs.worked.SummaryDisplay.fmt.Goals as goal

pub returns-clause-writes : goal.returns-clause-writes
returns-clause-writes g c = search (rules, written_hex)
