-- marks of a list read into a tree, and the step of a statement that is found from the root
use Rattle.std.proofs.Common.{List, ℕ, set, ◌≡◌, refl, ap, ap₂}
use Rattle.std.proofs.Math.Decide.{ℕ_discrete}
use Rattle.rules.specs.Rules.{Tree, Mark, leaf, at, one, two, pick, Done, one_fired, two_fired}
use Rattle.rules.specs.Rules.{Effect, no_effect, raises, drops, leaf_effect, one_effect}
use Rattle.rules.proofs.MarkedTrees.{Marked, mleaf, mone, mtwo, unmarked}

-- a tree with the marks of a list
abbrev pub marked : Tree → List Mark → Marked
marked (leaf n k) ms = mleaf n k (at ms n)
marked (one n k p) ms = mone n k (at ms n) (marked p ms)
marked (two n k p q) ms = mtwo n k (at ms n) (marked p ms) (marked q ms)

-- the marks after the step of statement i, found from the root
abbrev pub fired : Tree → List Mark → ℕ → List Mark
fired (leaf n k) ms i = pick (ℕ_discrete i n) (set ms n Done) ms
fired (one n k p) ms i = pick (ℕ_discrete i n) (one_fired n (at ms n) k p ms) (fired p ms i)
fired (two n k p q) ms i = pick (ℕ_discrete i n) (two_fired n k p q ms) (fired q (fired p ms i) i)

-- the first of two effects, if it is one
abbrev pub either : Effect → Effect → Effect
either no_effect g = g
either (raises s) g = raises s
either (drops s) g = drops s

-- the effect of that step
abbrev pub effect : Tree → ℕ → Effect
effect (leaf n k) i = pick (ℕ_discrete i n) (leaf_effect k) no_effect
effect (one n k p) i = pick (ℕ_discrete i n) (one_effect k) (effect p i)
effect (two n k p q) i = pick (ℕ_discrete i n) no_effect (either (effect p i) (effect q i))

-- a tree with marks is that tree without them
pub unmarked_marked : (t : Tree) (ms : List Mark) → unmarked (marked t ms) ≡ t
unmarked_marked (leaf n k) ms = refl
unmarked_marked (one n k p) ms = ap (one n k) (unmarked_marked p ms)
unmarked_marked (two n k p q) ms = ap₂ (two n k) (unmarked_marked p ms) (unmarked_marked q ms)
