-- the tree of a table: statement 0 and, below each statement, its parts
use Rattle.std.specs.Prelude.{ℕ, zero, suc, ◌+◌, Bool, true, false, cond, ◌&&◌, ◌||◌, List, length}
use Rattle.std.specs.Prelude.{◌==◌}
use Rattle.routine.specs.declared.kinds.Kind.{Kind}
use Rattle.routine.specs.Kinds.{Leaf, nothing, stop, emit, wait, One, loop, kill, local, Two}
use Rattle.routine.specs.Kinds.{sequence, parallel, when, Shape, no_part, one_part, two_parts}
use Rattle.routine.specs.Kinds.{shape_at}

-- a statement's number, what it is, and the trees of its parts
pub data Tree : Type 0 where
  leaf : ℕ → Leaf → Tree
  one : ℕ → One → Tree → Tree
  two : ℕ → Two → Tree → Tree → Tree

-- one level: the parts' trees come from `sub`
abbrev pub node : ℕ → Shape → (ℕ → Tree) → Tree
node i (no_part k) sub = leaf i k
node i (one_part k a) sub = one i k (sub a)
node i (two_parts k a b) sub = two i k (sub a) (sub b)

-- the tree of statement i, down to `fuel` levels
unfoldable pub tree : List Kind → ℕ → ℕ → Tree
tree ks zero i = leaf i nothing
tree ks (suc fuel) i = node i (shape_at ks i) (tree ks fuel)

-- as many levels as there are statements: no tree is deeper, since parts have higher numbers
unfoldable pub tree_at : List Kind → ℕ → Tree
tree_at ks i = tree ks (length ks) i

-- i is the tree's own statement or lies inside it
abbrev pub contains : Tree → ℕ → Bool
contains (leaf n k) i = i == n
contains (one n k p) i = i == n || contains p i
contains (two n k p q) i = i == n || (contains p i || contains q i)

-- inside a statement lie its parts and all that lies inside them
abbrev pub inside : Tree → ℕ → Bool
inside (leaf n k) i = false
inside (one n k p) i = contains p i
inside (two n k p q) i = contains p i || contains q i

-- how often i occurs in the tree
abbrev pub occurs : Tree → ℕ → ℕ
occurs (leaf n k) i = cond (i == n) 1 0
occurs (one n k p) i = cond (i == n) 1 0 + occurs p i
occurs (two n k p q) i = cond (i == n) 1 0 + (occurs p i + occurs q i)

-- how many statements the tree has
abbrev pub size : Tree → ℕ
size (leaf n k) = 1
size (one n k p) = 1 + size p
size (two n k p q) = 1 + (size p + size q)

-- the statement can end at once
abbrev pub leaf_can_end : Leaf → Bool
leaf_can_end nothing = true
leaf_can_end stop = false
leaf_can_end (emit s) = true
leaf_can_end (wait s) = true

-- p: whether the first can; below, q: whether the second can
abbrev pub one_can_end : One → Bool → Bool
one_can_end loop p = false
one_can_end (kill s) p = p
one_can_end (local s) p = p

abbrev pub two_can_end : Two → Bool → Bool → Bool
two_can_end sequence p q = p && q
two_can_end parallel p q = p && q
two_can_end (when s) p q = p

abbrev pub can_end : Tree → Bool
can_end (leaf n k) = leaf_can_end k
can_end (one n k p) = one_can_end k (can_end p)
can_end (two n k p q) = two_can_end k (can_end p) (can_end q)
