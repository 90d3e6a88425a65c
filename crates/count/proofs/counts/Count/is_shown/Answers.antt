use Rattle.std.proofs.Common.{arith}
use Rattle.std.proofs.lemmas.Grind.{common_steps}
use Rattle.std.proofs.lemmas.Option.{gets}
use Rattle.count.proofs.counts.Count.is_shown.Goals as goal

pub returns-else-eq : goal.returns-else-eq
returns-else-eq g c = grind (arith, common_steps, gets)
