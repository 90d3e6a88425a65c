-- a step that is found from the root of a tree stays inside that tree
use Rattle.std.proofs.Common.{ℕ, List, set, arith, length-set, get_or-set_other, ◌⊎◌, inl, inr, ◌≡◌}
use Rattle.std.proofs.Common.{true, false}
use Rattle.std.proofs.lemmas.Bool.{false_from_ne_true}
use Rattle.std.proofs.Math.Decide.{ℕ_discrete}
use Rattle.routine.proofs.Trees.{In}
use Rattle.rules.specs.Rules.{Mark, One, Tree, one, one_fired, UnderWay, Waiting, Done, Two, two}
use Rattle.rules.specs.Rules.{two_fired, idled, leaf, at, Signals, ready, no_effect}
use Rattle.rules.proofs.MarksIntoTrees.{fired, effect}
use Rattle.rules.proofs.Frames.{Kept, begun_kept, idled_kept}

one_fired_kept : (n : ℕ) (m : Mark) (k : One) (p : Tree) (ms : List Mark)
    → Kept (In (one n k p)) ms (one_fired n m k p ms)
one_fired_kept n m k p ms =
    let a = begun_kept p (set ms n UnderWay) in
    let b = idled_kept p (set ms n Waiting) in
    let c = idled_kept p (set ms n Done) in
    grind (arith, length-set, get_or-set_other)

two_fired_kept : (n : ℕ) (k : Two) (p q : Tree) (ms : List Mark)
    → Kept (In (two n k p q)) ms (two_fired n k p q ms)
two_fired_kept n k p q ms =
    let a = begun_kept p (set ms n UnderWay) in
    let b = idled_kept p ms in
    let c = begun_kept q (idled p ms) in
    grind (arith, length-set, get_or-set_other)

-- a step changes marks inside the tree alone
pub fired_kept : (t : Tree) (ms : List Mark) (i : ℕ) → Kept (In t) ms (fired t ms i)
fired_kept (leaf n k) ms i = grind (arith, length-set, get_or-set_other)
fired_kept (one n k p) ms i =
    let h = one_fired_kept n (at ms n) k p ms in
    let g = fired_kept p ms i in
    grind arith
fired_kept (two n k p q) ms i =
    let h = two_fired_kept n k p q ms in
    let g = fired_kept p ms i in
    let f = fired_kept q (fired p ms i) i in
    grind arith

-- whether a number is in a tree
pub In-dec : (t : Tree) (i : ℕ) → (In t i) ⊎ (¬ (In t i))
In-dec (leaf n k) i = elim (ℕ_discrete i n) [ yes a ↦ inl a | no d ↦ inr d ]
In-dec (one n k p) i = elim (ℕ_discrete i n) [
  | yes a ↦ inl (inl a)
  | no d ↦ elim (In-dec p i) [
    | inl h ↦ inl (inr h)
    | inr g ↦ inr (elim [ inl a ↦ d a | inr h ↦ g h ])
  ]
]
In-dec (two n k p q) i = elim (ℕ_discrete i n) [
  | yes a ↦ inl (inl a)
  | no d ↦ elim (In-dec p i) [
    | inl h ↦ inl (inr (inl h))
    | inr g ↦ elim (In-dec q i) [
      | inl h ↦ inl (inr (inr h))
      | inr f ↦ inr (elim [ inl a ↦ d a | inr h ↦ elim h [ inl x ↦ g x | inr y ↦ f y ] ])
    ]
  ]
]

-- what is ready in a tree is in it
pub ready_in : (t : Tree) (ms : List Mark) (e : Signals) (i : ℕ) → ready t ms e i ≡ true → In t i
ready_in (leaf n k) ms e i h = grind arith
ready_in (one n k p) ms e i h = let f = ready_in p ms e i in grind arith
ready_in (two n k p q) ms e i h = let f = ready_in p ms e i in let g = ready_in q ms e i in
    grind arith

-- a number that is not in a tree: no step, not ready, no effect
pub missed : (t : Tree) (ms : List Mark) (i : ℕ) → ¬ (In t i) → fired t ms i ≡ ms
missed (leaf n k) ms i d = grind arith
missed (one n k p) ms i d = let h = missed p ms i in grind arith
missed (two n k p q) ms i d = let h = missed p ms i in let g = missed q ms i in grind arith

pub unready : (t : Tree) (ms : List Mark) (e : Signals) (i : ℕ) → ¬ (In t i)
    → ready t ms e i ≡ false
unready t ms e i d = false_from_ne_true (ready t ms e i) (λ r. d (ready_in t ms e i r))

pub uneffective : (t : Tree) (i : ℕ) → ¬ (In t i) → effect t i ≡ no_effect
uneffective (leaf n k) i d = grind arith
uneffective (one n k p) i d = let h = uneffective p i in grind arith
uneffective (two n k p q) i d = let h = uneffective p i in let g = uneffective q i in grind arith
