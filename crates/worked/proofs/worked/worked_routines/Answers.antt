use Rattle.std.proofs.Common.{refl}
use native.Mathlib.Decide.{ℕ_discrete}
use Rattle.signals.specs.Sets.{word_set}
use Rattle.routine.specs.Tree.{tree, tree_at}
use Rattle.rules.specs.Model.{settled, path}
use Rattle.worked.proofs.Held.{all_hold, unprinted_hold}
use Rattle.worked.proofs.worked.worked_routines.Goals as goal

pub returns : goal.returns
unfolding word_set tree tree_at settled path ℕ_discrete
returns c = record { lines = refl; claims = all_hold; unprinted = unprinted_hold }
