-- where the search for the lowest ready statement may go on after a step: from its front, a number
-- below which no statement's own rule applies, but maybe that of one, the guard of the statement
-- that was stepped last
use Rattle.std.specs.Prelude.{◌≡◌, ℕ, ◌<◌, ◌≤◌, min, Bool, false, cond, ◌⊎◌, List, length}
use Rattle.std.specs.Prelude.{slice_index_or, slice_set}
use Rattle.routine.specs.declared.kinds.Kind.{Kind}
use Rattle.routine.specs.Kinds.{nothing, stop, emit, wait, loop, kill, local, sequence, parallel}
use Rattle.routine.specs.Kinds.{when, Shape, no_part, one_part, two_parts, shape_at}
use Rattle.routine.specs.Tree.{tree_at}
use Rattle.rules.specs.Rules.{Mark, Signals, rule}

-- the number at place i, 0 where there is none
abbrev pub entry : List ℕ → ℕ → ℕ
entry ns i = slice_index_or ns i 0

-- the statement's rule looks at whether its part a is over
abbrev pub LooksAt : Shape → ℕ → Type 0
LooksAt (no_part k) a = ⊥
LooksAt (one_part k p) a = a ≡ p
LooksAt (two_parts sequence p q) a = a ≡ p
LooksAt (two_parts parallel p q) a = ⊥
LooksAt (two_parts (when s) p q) a = ⊥

-- it does not, and is itself over by its part a
abbrev pub OverBy : Shape → ℕ → Type 0
OverBy (no_part k) a = ⊥
OverBy (one_part k p) a = ⊥
OverBy (two_parts sequence p q) a = a ≡ q
OverBy (two_parts parallel p q) a = (a ≡ p) ⊎ (a ≡ q)
OverBy (two_parts (when s) p q) a = (a ≡ p) ⊎ (a ≡ q)

-- the guard of a statement is the nearest one above it that looks at whether a part around it is
-- over, if there is one: a loop, kill or local, or a sequence of which that part is the first
abbrev pub Guards : List Kind → List ℕ → Type 0
Guards ks vs =
    (i : ℕ) → i < length ks → (a : ℕ)
    → (LooksAt (shape_at ks i) a → entry vs a ≡ i)
    × (OverBy (shape_at ks i) a → entry vs a ≡ entry vs i)

-- a wait or a when of signal s
abbrev pub Awaits : Shape → ℕ → Type 0
Awaits (no_part nothing) s = ⊥
Awaits (no_part stop) s = ⊥
Awaits (no_part (emit t)) s = ⊥
Awaits (no_part (wait t)) s = s ≡ t
Awaits (one_part k a) s = ⊥
Awaits (two_parts sequence a b) s = ⊥
Awaits (two_parts parallel a b) s = ⊥
Awaits (two_parts (when t) a b) s = s ≡ t

-- at place s no more than the lowest of them
abbrev pub Waiters : List Kind → List ℕ → Type 0
Waiters ks ws = (i : ℕ) → i < length ks → (s : ℕ) → Awaits (shape_at ks i) s → entry ws s ≤ i

-- after the step of statement k: b, the part that k began, k itself for a loop or a local, or the
-- lowest that awaits what k raised; h: whether the signal of k was present before, so that raising
-- it wakes nothing
abbrev pub front_after : Shape → List ℕ → Bool → ℕ → ℕ → ℕ
front_after (no_part nothing) ws h b k = b
front_after (no_part stop) ws h b k = b
front_after (no_part (emit s)) ws h b k = cond h b (min b (entry ws s))
front_after (no_part (wait s)) ws h b k = b
front_after (one_part loop a) ws h b k = k
front_after (one_part (kill s) a) ws h b k = b
front_after (one_part (local s) a) ws h b k = k
front_after (two_parts sequence a c) ws h b k = min b c
front_after (two_parts parallel a c) ws h b k = b
front_after (two_parts (when s) a c) ws h b k = min b a

-- below the front f no rule applies, but maybe that of the guard g
pub record QuietBelow (ks : List Kind) (ms : List Mark) (e : Signals) (f g : ℕ) : Type 0 where
  pub within : f ≤ length ks
  pub quiet : (j : ℕ) → j < f → ¬ (j ≡ g) → rule (tree_at ks j) ms e ≡ false

-- with the guards of the parts of statement i
abbrev pub with_guards : List ℕ → ℕ → Shape → List ℕ
with_guards vs i (no_part k) = vs
with_guards vs i (one_part k a) = slice_set vs a i
with_guards vs i (two_parts sequence a b) = slice_set (slice_set vs a i) b (entry vs i)
with_guards vs i (two_parts parallel a b) = slice_set (slice_set vs a (entry vs i)) b (entry vs i)
with_guards vs i (two_parts (when s) a b) = slice_set (slice_set vs a (entry vs i)) b (entry vs i)

-- statement i among those that await its signal
abbrev pub with_waiter : List ℕ → ℕ → Shape → List ℕ
with_waiter ws i (no_part nothing) = ws
with_waiter ws i (no_part stop) = ws
with_waiter ws i (no_part (emit s)) = ws
with_waiter ws i (no_part (wait s)) = slice_set ws s (min (entry ws s) i)
with_waiter ws i (one_part k a) = ws
with_waiter ws i (two_parts sequence a b) = ws
with_waiter ws i (two_parts parallel a b) = ws
with_waiter ws i (two_parts (when s) a b) = slice_set ws s (min (entry ws s) i)
