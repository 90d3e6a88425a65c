-- which marks are legal, statement by statement
use Rattle.std.specs.Prelude.{◌≡◌, ℕ, ◌<◌, Bool, true, false, cond, not, ◌&&◌, ◌||◌, List, length}
use Rattle.std.specs.Prelude.{◌==◌}
use Rattle.routine.specs.declared.kinds.Kind.{Kind}
use Rattle.routine.specs.Kinds.{Shape, no_part, one_part, two_parts, shape_at}
use Rattle.routine.specs.Tree.{tree_at}
use Rattle.rules.specs.Rules.{Mark, Idle, Waiting, UnderWay, Done, Leaf, nothing, stop, emit, wait}
use Rattle.rules.specs.Rules.{One, loop, kill, local, Two, sequence, parallel, when}
use Rattle.rules.specs.Rules.{at, is_live, reached}

-- nothing may be idle or done; stop, emit and wait idle, waiting or done
abbrev pub leaf_legal : Mark → Leaf → Bool
leaf_legal Idle k = true
leaf_legal Waiting nothing = false
leaf_legal Waiting stop = true
leaf_legal Waiting (emit s) = true
leaf_legal Waiting (wait s) = true
leaf_legal UnderWay k = false
leaf_legal Done k = true

-- b: whether its first is live. A loop may be idle, waiting or under way, a kill idle, under way or
-- done, a local anything. Where it is idle or done its first is idle, as where a loop waits; else
-- its first is live
abbrev pub one_legal : Mark → One → Bool → Bool
one_legal Idle k b = not b
one_legal Waiting loop b = not b
one_legal Waiting (kill s) b = false
one_legal Waiting (local s) b = b
one_legal UnderWay k b = b
one_legal Done loop b = false
one_legal Done (kill s) b = not b
one_legal Done (local s) b = not b

-- b, c: whether first and second are live. A sequence or parallel may be idle or under way, a when
-- idle, waiting or under way. Where it is idle, or a when waits, both are idle; under way a
-- sequence or when has exactly one live part, a parallel two
abbrev pub two_legal : Mark → Two → Bool → Bool → Bool
two_legal Idle k b c = not b && not c
two_legal Waiting sequence b c = false
two_legal Waiting parallel b c = false
two_legal Waiting (when s) b c = not b && not c
two_legal UnderWay sequence b c = cond b (not c) c
two_legal UnderWay parallel b c = b && c
two_legal UnderWay (when s) b c = cond b (not c) c
two_legal Done k b c = false

-- the marks of statement i and of its parts go together
abbrev pub row_legal : List Mark → ℕ → Shape → Bool
row_legal ms i (no_part k) = leaf_legal (at ms i) k
row_legal ms i (one_part k a) = one_legal (at ms i) k (is_live (at ms a))
row_legal ms i (two_parts k a b) = two_legal (at ms i) k (is_live (at ms a)) (is_live (at ms b))

abbrev pub is_local : Shape → Bool
is_local (no_part k) = false
is_local (one_part loop a) = false
is_local (one_part (kill s) a) = false
is_local (one_part (local s) a) = true
is_local (two_parts k a b) = false

abbrev pub is_underway : Mark → Bool
is_underway Idle = false
is_underway Waiting = false
is_underway UnderWay = true
is_underway Done = false

-- a local that is open: only in an open instant, and not inside one that is shut
abbrev pub open_legal : Bool → List Kind → List Mark → ℕ → Bool
open_legal in_instant ks ms i =
    not (is_local (shape_at ks i) && is_underway (at ms i))
    || (in_instant && reached (tree_at ks 0) ms i)

-- statement i keeps its rule; in_instant: whether an instant is open. Statement 0 is live
abbrev pub keeps : Bool → List Kind → List Mark → ℕ → Bool
keeps in_instant ks ms i =
    (not (i == 0) || is_live (at ms 0))
    && (row_legal ms i (shape_at ks i) && open_legal in_instant ks ms i)

-- legal marks: one for each statement, and each keeps its rule
pub record Legal (in_instant : Bool) (ks : List Kind) (ms : List Mark) : Type 0 where
  pub many : length ms ≡ length ks
  pub each : (i : ℕ) → i < length ks → keeps in_instant ks ms i ≡ true
