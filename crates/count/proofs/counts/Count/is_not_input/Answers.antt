use Rattle.std.proofs.Common.{arith}
use Rattle.std.proofs.lemmas.Grind.{common_steps}
use Rattle.std.proofs.lemmas.Option.{gets}
use Rattle.count.proofs.counts.Count.is_not_input.Goals as goal

pub returns-then-has_bit : goal.returns-then-has_bit
returns-then-has_bit g c = grind (arith, common_steps, gets)
