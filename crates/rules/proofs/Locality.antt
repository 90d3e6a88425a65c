-- a statement's rule looks at the marks of its own tree alone; where all of that is idle no rule
-- applies
use Rattle.std.proofs.Common.{List, ℕ, get_or, set, ◌≡◌, [], zero, arith, suc, ◌∷◌, subst, sym, inl}
use Rattle.std.proofs.Common.{inr, ◌∙◌, ◌⊎◌, false, ap, refl, Bool, ◌||◌, ap₂}
use Rattle.routine.proofs.Trees.{In}
use Rattle.rules.specs.Rules.{Tree, Mark, at, idled, Idle, leaf, one, two, over, is_done, Two}
use Rattle.rules.specs.Rules.{two_over, Signals, rule, Leaf, leaf_rule, One, one_rule, two_rule}
use Rattle.rules.proofs.Frames.{idled_kept}
use Rattle.rules.proofs.StepsFromRoot.{In-dec}

-- what is set to the default is the default there, also past the end
pub set_default : {A : Type 0} (d : A) (xs : List A) (n : ℕ) → get_or (set xs n d) n d ≡ d
set_default d [] zero = grind arith
set_default d [] (suc n) = grind arith
set_default d (x ∷ xs) zero = grind arith
set_default d (x ∷ xs) (suc n) = let h = set_default d xs n in grind arith

-- what is idled is idle
pub idled_idle : (t : Tree) (ms : List Mark) (j : ℕ) → In t j → at (idled t ms) j ≡ Idle
idled_idle (leaf n k) ms j e =
    subst (λ (i : ℕ). at (set ms n Idle) i ≡ Idle) (sym e) (set_default Idle ms n)
idled_idle (one n k p) ms j u =
    elim (In-dec p j) [
      | inl v ↦ idled_idle p (set ms n Idle) j v
      | inr d ↦ (idled_kept p (set ms n Idle)).other j d ∙ own u d
    ]
  where
    own : (j ≡ n) ⊎ In p j → ¬ (In p j) → at (set ms n Idle) j ≡ Idle
    own (inl e) d = subst (λ (i : ℕ). at (set ms n Idle) i ≡ Idle) (sym e) (set_default Idle ms n)
    own (inr v) d = absurd (d v)
idled_idle (two n k p q) ms j u =
    elim (In-dec q j) [
      | inl v ↦ idled_idle q (idled p (set ms n Idle)) j v
      | inr d ↦ (idled_kept q (idled p (set ms n Idle))).other j d
          ∙ elim (In-dec p j) [
            | inl v ↦ idled_idle p (set ms n Idle) j v
            | inr d' ↦ (idled_kept p (set ms n Idle)).other j d' ∙ own u d' d
          ]
    ]
  where
    own : (j ≡ n) ⊎ (In p j ⊎ In q j) → ¬ (In p j) → ¬ (In q j) → at (set ms n Idle) j ≡ Idle
    own (inl e) d d' = subst (λ (i : ℕ). at (set ms n Idle) i ≡ Idle) (sym e)
        (set_default Idle ms n)
    own (inr (inl v)) d d' = absurd (d v)
    own (inr (inr v)) d d' = absurd (d' v)

-- where all is idle nothing is over, and no rule applies
pub over_idle : (t : Tree) (ms : List Mark) → ((j : ℕ) → In t j → at ms j ≡ Idle)
    → over t ms ≡ false
over_idle (leaf n k) ms h = ap is_done (h n refl)
over_idle (one n k p) ms h = ap is_done (h n (inl refl))
over_idle (two n k p q) ms h =
    none k (at ms n) (over p ms) (over q ms) (h n (inl refl))
    (over_idle p ms (λ j u. h j (inr (inl u)))) (over_idle q ms (λ j u. h j (inr (inr u))))
  where
    none : (k : Two) (m : Mark) (b c : Bool) → m ≡ Idle → b ≡ false → c ≡ false
        → (is_done m || two_over k b c) ≡ false
    none k m b c x y z = grind arith

-- nor does its rule apply
pub rule_idle : (t : Tree) (ms : List Mark) (e : Signals) → ((j : ℕ) → In t j → at ms j ≡ Idle)
    → rule t ms e ≡ false
rule_idle (leaf n k) ms e h = none k (at ms n) (h n refl)
  where
    none : (k : Leaf) (m : Mark) → m ≡ Idle → leaf_rule e m k ≡ false
    none k m x = grind arith
rule_idle (one n k p) ms e h =
    none k (at ms n) (over p ms) (h n (inl refl)) (over_idle p ms (λ j u. h j (inr u)))
  where
    none : (k : One) (m : Mark) (b : Bool) → m ≡ Idle → b ≡ false → one_rule m k b ≡ false
    none k m b x y = grind arith
rule_idle (two n k p q) ms e h =
    none k (at ms n) (over p ms) (h n (inl refl)) (over_idle p ms (λ j u. h j (inr (inl u))))
  where
    none : (k : Two) (m : Mark) (b : Bool) → m ≡ Idle → b ≡ false → two_rule e m k b ≡ false
    none k m b x y = grind arith

-- equal marks inside: equally over, and the same rule
pub over_local : (t : Tree) (ms ns : List Mark) → ((j : ℕ) → In t j → at ns j ≡ at ms j)
    → over t ns ≡ over t ms
over_local (leaf n k) ms ns h = ap is_done (h n refl)
over_local (one n k p) ms ns h = ap is_done (h n (inl refl))
over_local (two n k p q) ms ns h =
    let a = h n (inl refl) in
    let b = over_local p ms ns (λ j u. h j (inr (inl u))) in
    let c = over_local q ms ns (λ j u. h j (inr (inr u))) in
    cc

-- and the same rule applies
pub rule_local : (t : Tree) (ms ns : List Mark) (e : Signals)
    → ((j : ℕ) → In t j → at ns j ≡ at ms j) → rule t ns e ≡ rule t ms e
rule_local (leaf n k) ms ns e h = ap (λ (m : Mark). leaf_rule e m k) (h n refl)
rule_local (one n k p) ms ns e h =
    ap₂ (λ (m : Mark) (b : Bool). one_rule m k b) (h n (inl refl))
    (over_local p ms ns (λ j u. h j (inr u)))
rule_local (two n k p q) ms ns e h =
    ap₂ (λ (m : Mark) (b : Bool). two_rule e m k b) (h n (inl refl))
    (over_local p ms ns (λ j u. h j (inr (inl u))))
