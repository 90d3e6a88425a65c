-- the signals of a word, shown from 0 on
use Rattle.std.proofs.Common.{◌≡◌, ℕ, zero, suc, ◌+◌, ◌%◌, ◌^◌, ◌<◌, ◌≤◌, ◌≢◌, Bool, true, false}
use Rattle.std.proofs.Common.{◌==◌, List, Option, length, get_or, set, sym, ap, ◌∙◌, arith}
use Rattle.std.proofs.lemmas.List.{get_or-set_same, get_or-set_other}
use native.Mathlib.Decide.{ℕ_discrete}
use Rattle.std.proofs.Math.Nat.{pow-le-pow_right, div-eq_of_lt}
use Rattle.routine.specs.Search.{or_last, lowest}
use Rattle.signals.specs.declared.board.TheConstants.{SIGNALS}
use Rattle.count.specs.Calls.{bit}

-- below i the set has what f says, and from i on nothing
pub record Shown (f : ℕ → Bool) (i : ℕ) (p : List Bool) : Type 0 where
  pub done : (k : ℕ) → k < i → get_or p k false ≡ f k
  pub ahead : (k : ℕ) → i ≤ k → get_or p k false ≡ false

-- signal i stays absent
pub shown_keep : (f : ℕ → Bool) (i : ℕ) (p : List Bool) → f i ≡ false → Shown f i p
    → Shown f (i + 1) p
shown_keep f i p e h =
    record {
      done = λ k l. elim (ℕ_discrete k i) [
        | yes x ↦ ap (λ j. get_or p j false) x
            ∙ h.ahead i (omega arith) ∙ sym (ap f x ∙ e)
        | no d ↦ h.done k (omega arith)
      ];
      ahead = λ k l. h.ahead k (omega arith);
    }

-- it is raised
pub shown_set : (f : ℕ → Bool) (i : ℕ) (p : List Bool) → length p ≡ SIGNALS → i < SIGNALS
    → f i ≡ true → Shown f i p → Shown f (i + 1) (set p i true)
shown_set f i p n l e h =
    record {
      done = λ k m. elim (ℕ_discrete k i) [
        | yes x ↦ ap (λ j. get_or (set p i true) j false) x
            ∙ get_or-set_same p i true false (omega arith) ∙ sym (ap f x ∙ e)
        | no d ↦ get_or-set_other p i k true false d ∙ h.done k (omega arith)
      ];
      ahead = λ k m. let d : k ≢ i = λ x. omega arith in
          get_or-set_other p i k true false d ∙ h.ahead k (omega arith);
    }

-- above a word's highest set bit there is none
pub no_bit : (w n k : ℕ) → w < 2 ^ n → n ≤ k → bit w k ≡ false
no_bit w n k l m =
    let p = pow-le-pow_right {n = 2} (omega arith) {i = n} {j = k} m in
    let b : w < 2 ^ k = omega (arith, p) in
    ap (λ (d : ℕ). d % 2 == 1) (div-eq_of_lt {n = w} {m = 2 ^ k} b)

last_not : (o : Option ℕ) (b : Bool) (n : ℕ) → b ≡ false → or_last o b n ≡ o
last_not o b n e = grind arith

-- a search needs not go on where there is nothing
pub lowest_longer : (P : ℕ → Bool) (n m : ℕ) → n ≤ m → ((k : ℕ) → n ≤ k → P k ≡ false)
    → lowest P m ≡ lowest P n
lowest_longer P n zero l h = let e : 0 ≡ n = omega arith in ap (lowest P) e
lowest_longer P n (suc m) l h =
    elim (ℕ_discrete n (suc m)) [
      | yes e ↦ ap (lowest P) (sym e)
      | no d ↦ last_not (lowest P m) (P m) m (h m (omega arith))
          ∙ lowest_longer P n m (omega arith) h
    ]
