-- searches that go up from 0
use Rattle.std.proofs.Common.{◌≡◌, ℕ, zero, suc, ◌<◌, ◌≤◌, Bool, true, false, Some, None, Option}
use Rattle.std.proofs.Common.{MatchOption, get_or, refl, sym, ap₂, ◌∙◌, subst, arith}
use native.Mathlib.Decide.{ℕ_discrete}
use Rattle.std.specs.List.{list_any, range_with_len}
use Rattle.std.proofs.lemmas.Bool.{false_from_ne_true, true≢false}
use Rattle.std.proofs.lemmas.List.Folds.{Any-from_list_any, list_any_at, list_any_none}
use Rattle.std.proofs.lemmas.List.FromFn.{length-range_with_len, get_or-range_with_len}
use Rattle.routine.specs.Search.{or_last, lowest, FindsLowest}

-- nothing is found where P holds of no number
pub lowest_none : (P : ℕ → Bool) (n : ℕ) → ((k : ℕ) → k < n → P k ≡ false) → lowest P n ≡ None
lowest_none P zero h = refl
lowest_none P (suc n) h =
    ap₂ (λ (o : Option ℕ) (b : Bool). or_last o b n) (lowest_none P n (λ k l. h k (omega arith)))
    (h n (omega arith))

-- the first number that P holds of is found
pub lowest_here : (P : ℕ → Bool) (n i : ℕ) → lowest P i ≡ None → P i ≡ true → i < n
    → lowest P n ≡ Some i
lowest_here P zero i h e l = absurd (omega arith)
lowest_here P (suc n) i h e l =
    elim (ℕ_discrete i n) [
      | yes x ↦ let a = rw x at h in let b = rw x at e in grind arith
      | no d ↦ let a = lowest_here P n i h e (omega arith) in grind arith
    ]

-- what was found is below the bound
pub lowest_below : (P : ℕ → Bool) (n i : ℕ) → lowest P n ≡ Some i → i < n
lowest_below P zero i h = grind arith
lowest_below P (suc n) i h = let g = lowest_below P n i in grind arith

-- what P is of each number below the bound where nothing is found, and of the number that is found
abbrev pub Found : (ℕ → Bool) → ℕ → Option ℕ → Type 0
Found P n None = (k : ℕ) → k < n → P k ≡ false
Found P n (Some i) = P i ≡ true

next_found : (P : ℕ → Bool) (n : ℕ) (o : Option ℕ) (b : Bool) → P n ≡ b → Found P n o
    → Found P (suc n) (or_last o b n)
next_found P n (Some i) b e h = h
next_found P n None true e h = e
next_found P n None false e h =
    λ k l. elim (ℕ_discrete k n) [
      | yes x ↦ subst (λ j. P j ≡ false) (sym x) e
      | no d ↦ h k (omega arith)
    ]

-- the search finds such a number or none
pub found : (P : ℕ → Bool) (n : ℕ) → Found P n (lowest P n)
found P zero = λ k l. absurd (omega arith)
found P (suc n) = next_found P n (lowest P n) (P n) refl (found P n)

-- where nothing is found, P holds of no number below the bound
pub none_below : (P : ℕ → Bool) (n : ℕ) → lowest P n ≡ None → (k : ℕ) → k < n → P k ≡ false
none_below P n h = subst (Found P n) h (found P n)

-- number k of those from 0 on is k
nth : (n k d : ℕ) → k < n → get_or (range_with_len 0 n) k d ≡ k
nth n k d l = get_or-range_with_len 0 n k d l ∙ omega arith

-- some number below n passes the test
pub some_passes : (P : ℕ → Bool) (n : ℕ) → list_any P (range_with_len 0 n) ≡ true
    → (k : ℕ) × (k < n) × (P k ≡ true)
some_passes P n h =
    let a = Any-from_list_any P (range_with_len 0 n) h in
    let l : a.0 < n = omega (arith, a.2, length-range_with_len 0 n) in
    (a.0, l, subst (λ j. P j ≡ true) (sym a.3 ∙ nth n a.0 a.1 l) a.4)

-- no number below n passes it
pub none_passes : (P : ℕ → Bool) (n : ℕ) → list_any P (range_with_len 0 n) ≡ false → (k : ℕ) → k < n
    → P k ≡ false
none_passes P n h k l =
    false_from_ne_true (P k) (λ e. true≢false (sym (list_any_at P (range_with_len 0 n) k 0
    (rw (length-range_with_len 0 n) l) (subst (λ j. P j ≡ true) (sym (nth n k 0 l)) e)) ∙ h))

-- the converse of `none_passes`
pub list_any-none_passes : (P : ℕ → Bool) (n : ℕ) → ((k : ℕ) → k < n → P k ≡ false)
    → list_any P (range_with_len 0 n) ≡ false
list_any-none_passes P n h =
    list_any_none P (range_with_len 0 n)
    (λ k d l. let m : k < n = rw (← length-range_with_len 0 n) l in
    subst (λ j. P j ≡ false) (sym (nth n k d m)) (h k m))

-- what `find` over a range from 0 says
pub finds : (says : ℕ → Bool → Type 0) (n m : ℕ) (r : Option ℕ) → n ≡ m
    → MatchOption r ((k : ℕ) → 0 ≤ k → k < n → says k false)
    (λ i. (0 ≤ i) × (i < n) × says i true × ((k : ℕ) → 0 ≤ k → k < i → says k false))
    → FindsLowest says m r
finds says n m None e h = record { none = λ k l. h k (omega arith) (omega arith); some = tt }
finds says n m (Some i) e h =
    record { none = tt; some = (omega (arith, h.1), h.2, λ k l. h.3 k (omega arith) l) }

-- a search by a test that answers as P does finds the lowest number that P holds of
pub lowest_by : {says : ℕ → Bool → Type 0} (P : ℕ → Bool) {n : ℕ} {r : Option ℕ}
    → FindsLowest says n r → ((k : ℕ) (b : Bool) → k < n → says k b → b ≡ P k) → r ≡ lowest P n
lowest_by P {n} {r = None} h f = sym (lowest_none P n (λ k l. sym (f k false l (h.none k l))))
lowest_by P {n} {r = Some i} h f =
    let l = h.some.0 in
    sym (lowest_here P n i (lowest_none P i (λ k m. sym (f k false (omega arith) (h.some.2 k m))))
    (sym (f i true l h.some.1)) l)
