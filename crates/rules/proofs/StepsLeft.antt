-- how many steps an instant can still take, as the marks of a tree stand
use Rattle.std.proofs.Common.{ℕ, ◌+◌, Bool, false, true, cond, ◌&&◌, ◌||◌, ◌≡◌}
use Rattle.routine.specs.Tree.{leaf_can_end, one_can_end, can_end}
use Rattle.rules.specs.Rules.{Leaf, nothing, stop, emit, wait, One, loop, kill, local, Two}
use Rattle.rules.specs.Rules.{sequence, parallel, when, Tree, leaf, one, two, Mark, Idle, Waiting}
use Rattle.rules.specs.Rules.{UnderWay, Done}
use Rattle.rules.proofs.MarkedTrees.{Marked, mleaf, mone, mtwo, unmarked}

-- the most steps of a tree that is begun afresh
abbrev pub most_leaf : Leaf → ℕ
most_leaf nothing = 0
most_leaf stop = 0
most_leaf (emit s) = 1
most_leaf (wait s) = 1

abbrev pub most_one : One → ℕ
most_one loop = 1
most_one (kill s) = 1
most_one (local s) = 2

abbrev pub most_two : Two → ℕ → ℕ → ℕ
most_two sequence b c = b + 1 + c
most_two parallel b c = b + c
most_two (when s) b c = 1 + b

abbrev pub most : Tree → ℕ
most (leaf n k) = most_leaf k
most (one n k p) = most_one k + most p
most (two n k p q) = most_two k (most p) (most q)

-- whether a tree may still end in this instant, as its marks stand
abbrev pub may_leaf : Mark → Leaf → Bool
may_leaf Idle k = false
may_leaf Waiting k = leaf_can_end k
may_leaf UnderWay k = false
may_leaf Done k = true

abbrev pub may_one : Mark → One → Bool → Bool
may_one Idle k b = false
may_one Waiting k b = one_can_end k b
may_one UnderWay k b = one_can_end k b
may_one Done k b = true

-- b and c: whether the parts may end as they stand; f and g: whether they can end, fresh
abbrev pub may_two : Mark → Two → Bool → Bool → Bool → Bool → Bool
may_two Idle k b c f g = false
may_two Waiting k b c f g = f
may_two UnderWay sequence b c f g = cond b g c
may_two UnderWay parallel b c f g = b && c
may_two UnderWay (when s) b c f g = b || c
may_two Done k b c f g = true

-- m: the mark
abbrev pub may : Marked → Bool
may (mleaf n k m) = may_leaf m k
may (mone n k m p) = may_one m k (may p)
may (mtwo n k m p q) = may_two m k (may p) (may q) (can_end (unmarked p)) (can_end (unmarked q))

-- the steps that are left, as its marks stand
abbrev pub left_leaf : Mark → Leaf → ℕ
left_leaf Idle k = 0
left_leaf Waiting k = most_leaf k
left_leaf UnderWay k = 0
left_leaf Done k = 0

-- r: what is left of the part; e: whether it may end; b: its most
abbrev pub left_one : Mark → One → ℕ → Bool → ℕ → ℕ
left_one Idle k r e b = 0
left_one Waiting loop r e b = 1 + b
left_one Waiting (kill s) r e b = 0
left_one Waiting (local s) r e b = r + cond e 2 1
left_one UnderWay loop r e b = r + cond e (2 + b) 0
left_one UnderWay (kill s) r e b = r + cond e 1 0
left_one UnderWay (local s) r e b = r + cond e 1 0
left_one Done k r e b = 0

abbrev pub left_two : Mark → Two → ℕ → Bool → ℕ → ℕ → ℕ → ℕ
left_two Idle k r e b u c = 0
left_two Waiting k r e b u c = 1 + b
left_two UnderWay sequence r e b u c = r + cond e (1 + c) 0 + u
left_two UnderWay parallel r e b u c = r + u
left_two UnderWay (when s) r e b u c = r + u
left_two Done k r e b u c = 0

abbrev pub steps_left : Marked → ℕ
steps_left (mleaf n k m) = left_leaf m k
steps_left (mone n k m p) = left_one m k (steps_left p) (may p) (most (unmarked p))
steps_left (mtwo n k m p q) =
    left_two m k (steps_left p) (may p) (most (unmarked p)) (steps_left q) (most (unmarked q))

-- no loop's first part can end at once
abbrev pub Loops : One → Bool → Type 0
Loops loop b = b ≡ false
Loops (kill s) b = Unit {0}
Loops (local s) b = Unit {0}

-- so it is throughout the tree
abbrev pub Turns : Tree → Type 0
Turns (leaf n k) = Unit {0}
Turns (one n k p) = Loops k (can_end p) × Turns p
Turns (two n k p q) = Turns p × Turns q
