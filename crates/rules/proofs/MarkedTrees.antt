-- the rules on statement trees that carry their marks: a step is told by its position
use Rattle.std.proofs.Common.{ℕ, ◌⊎◌, Bool, ◌||◌, get_or, false, ◌≡◌, true}
use Rattle.rules.specs.Legal.{leaf_legal, one_legal, two_legal}
use Rattle.rules.specs.Rules.{Leaf, Mark, One, Two, Tree, leaf, one, two, leaf_begun, loop, Waiting}
use Rattle.rules.specs.Rules.{kill, UnderWay, local, sequence, parallel, when, Idle, Done, is_done}
use Rattle.rules.specs.Rules.{two_over, Signals, nothing, stop, emit, wait, Effect, leaf_effect}
use Rattle.rules.specs.Rules.{no_effect, one_effect, is_live}

-- n: the number, k: what stands there, m: its mark
pub data Marked : Type 0 where
  mleaf : ℕ → Leaf → Mark → Marked
  mone : ℕ → One → Mark → Marked → Marked
  mtwo : ℕ → Two → Mark → Marked → Marked → Marked

-- the tree without its marks
abbrev pub unmarked : Marked → Tree
unmarked (mleaf n k m) = leaf n k
unmarked (mone n k m p) = one n k (unmarked p)
unmarked (mtwo n k m p q) = two n k (unmarked p) (unmarked q)

-- where a node stands in a tree
pub data Pos : Type 0 where
  here : Pos
  left right : Pos → Pos

-- to begin a tree, and to idle it
abbrev pub begin : Marked → Marked
begin (mleaf n k m) = mleaf n k (leaf_begun k)
begin (mone n loop m p) = mone n loop Waiting p
begin (mone n (kill s) m p) = mone n (kill s) UnderWay (begin p)
begin (mone n (local s) m p) = mone n (local s) Waiting (begin p)
begin (mtwo n sequence m p q) = mtwo n sequence UnderWay (begin p) q
begin (mtwo n parallel m p q) = mtwo n parallel UnderWay (begin p) (begin q)
begin (mtwo n (when s) m p q) = mtwo n (when s) Waiting p q

abbrev pub rest : Marked → Marked
rest (mleaf n k m) = mleaf n k Idle
rest (mone n k m p) = mone n k Idle (rest p)
rest (mtwo n k m p q) = mtwo n k Idle (rest p) (rest q)

-- what is over, by its marks
abbrev pub IsDone : Mark → Type 0
IsDone Idle = ⊥
IsDone Waiting = ⊥
IsDone UnderWay = ⊥
IsDone Done = Unit {0}

abbrev pub Over : Marked → Type 0
Over (mleaf n k m) = IsDone m
Over (mone n k m p) = IsDone m
Over (mtwo n sequence m p q) = Over q
Over (mtwo n parallel m p q) = Over p × Over q
Over (mtwo n (when s) m p q) = Over p ⊎ Over q

-- the same as a test
abbrev pub is_over : Marked → Bool
is_over (mleaf n k m) = is_done m
is_over (mone n k m p) = is_done m
is_over (mtwo n k m p q) = is_done m || two_over k (is_over p) (is_over q)

-- signal s is present
abbrev pub Present : Signals → ℕ → Type 0
Present e s = get_or e s false ≡ true

-- the mark is matched first, so that each computes at a mark whatever the kind
abbrev pub ReadyLeaf : Signals → Mark → Leaf → Type 0
ReadyLeaf e Idle k = ⊥
ReadyLeaf e Waiting nothing = ⊥
ReadyLeaf e Waiting stop = ⊥
ReadyLeaf e Waiting (emit s) = Unit {0}
ReadyLeaf e Waiting (wait s) = Present e s
ReadyLeaf e UnderWay k = ⊥
ReadyLeaf e Done k = ⊥

-- of one part p
abbrev pub ReadyOne : Mark → One → Marked → Type 0
ReadyOne Idle k p = ⊥
ReadyOne Waiting loop p = Unit {0}
ReadyOne Waiting (kill s) p = ⊥
ReadyOne Waiting (local s) p = Unit {0}
ReadyOne UnderWay k p = Over p
ReadyOne Done k p = ⊥

-- of two parts, p the first
abbrev pub ReadyTwo : Signals → Mark → Two → Marked → Type 0
ReadyTwo e Idle k p = ⊥
ReadyTwo e Waiting sequence p = ⊥
ReadyTwo e Waiting parallel p = ⊥
ReadyTwo e Waiting (when s) p = Present e s
ReadyTwo e UnderWay sequence p = Over p
ReadyTwo e UnderWay parallel p = ⊥
ReadyTwo e UnderWay (when s) p = ⊥
ReadyTwo e Done k p = ⊥

-- a local that waits is shut
abbrev pub Opened : Mark → One → Type 0
Opened Idle k = Unit {0}
Opened Waiting loop = Unit {0}
Opened Waiting (kill s) = Unit {0}
Opened Waiting (local s) = ⊥
Opened UnderWay k = Unit {0}
Opened Done k = Unit {0}

-- what stands at a position is ready
abbrev pub ReadyAt : Signals → Marked → Pos → Type 0
ReadyAt e (mleaf n k m) here = ReadyLeaf e m k
ReadyAt e (mleaf n k m) (left x) = ⊥
ReadyAt e (mleaf n k m) (right x) = ⊥
ReadyAt e (mone n k m p) here = ReadyOne m k p
ReadyAt e (mone n k m p) (left x) = Opened m k × ReadyAt e p x
ReadyAt e (mone n k m p) (right x) = ⊥
ReadyAt e (mtwo n k m p q) here = ReadyTwo e m k p
ReadyAt e (mtwo n k m p q) (left x) = ReadyAt e p x
ReadyAt e (mtwo n k m p q) (right x) = ReadyAt e q x

-- the step at a position: the tree after it
abbrev pub after_one : ℕ → Mark → One → Marked → Marked
after_one n Idle k p = mone n k Idle p
after_one n Waiting loop p = mone n loop UnderWay (begin p)
after_one n Waiting (kill s) p = mone n (kill s) Waiting p
after_one n Waiting (local s) p = mone n (local s) UnderWay p
after_one n UnderWay loop p = mone n loop Waiting (rest p)
after_one n UnderWay (kill s) p = mone n (kill s) Done (rest p)
after_one n UnderWay (local s) p = mone n (local s) Done (rest p)
after_one n Done k p = mone n k Done p

abbrev pub after_two : ℕ → Mark → Two → Marked → Marked → Marked
after_two n m sequence p q = mtwo n sequence m (rest p) (begin q)
after_two n m parallel p q = mtwo n parallel m p q
after_two n m (when s) p q = mtwo n (when s) UnderWay (begin p) q

abbrev pub after : Marked → Pos → Marked
after (mleaf n k m) here = mleaf n k Done
after (mleaf n k m) (left x) = mleaf n k m
after (mleaf n k m) (right x) = mleaf n k m
after (mone n k m p) here = after_one n m k p
after (mone n k m p) (left x) = mone n k m (after p x)
after (mone n k m p) (right x) = mone n k m p
after (mtwo n k m p q) here = after_two n m k p q
after (mtwo n k m p q) (left x) = mtwo n k m (after p x) q
after (mtwo n k m p q) (right x) = mtwo n k m p (after q x)

-- and its effect
abbrev pub effect_at : Marked → Pos → Effect
effect_at (mleaf n k m) here = leaf_effect k
effect_at (mleaf n k m) (left x) = no_effect
effect_at (mleaf n k m) (right x) = no_effect
effect_at (mone n k m p) here = one_effect k
effect_at (mone n k m p) (left x) = effect_at p x
effect_at (mone n k m p) (right x) = no_effect
effect_at (mtwo n k m p q) here = no_effect
effect_at (mtwo n k m p q) (left x) = effect_at p x
effect_at (mtwo n k m p q) (right x) = effect_at q x

-- whether it is live, and whether its marks are legal
abbrev pub live : Marked → Bool
live (mleaf n k m) = is_live m
live (mone n k m p) = is_live m
live (mtwo n k m p q) = is_live m

-- each mark is legal for the marks of its parts
abbrev pub LegalTree : Marked → Type 0
LegalTree (mleaf n k m) = leaf_legal m k ≡ true
LegalTree (mone n k m p) = (one_legal m k (live p) ≡ true) × LegalTree p
LegalTree (mtwo n k m p q) = (two_legal m k (live p) (live q) ≡ true) × LegalTree p × LegalTree q
