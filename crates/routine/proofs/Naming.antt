-- only a statement below another names it as a part
use Rattle.std.proofs.Common.{◌≡◌, ℕ, zero, suc, ◌<◌, ◌≤◌, min, sum_by, take, List, length, refl}
use Rattle.std.proofs.Common.{sym, ap, ◌∙◌, arith, ⊎_elim}
use Rattle.std.proofs.lemmas.Bool.{cases_lt}
use native.Mathlib.Decide.{ℕ_discrete, dec_lt}
use Rattle.routine.specs.declared.kinds.Kind.{Kind}
use Rattle.routine.specs.declared.kinds.Statement.{Statement}
use Rattle.routine.specs.Kinds.{kinds, shape, shape_at}
use Rattle.routine.specs.Meaning.{names, named}
use Rattle.routine.proofs.Trees.{Rising}
use Rattle.routine.proofs.Once.{some_names}
use Rattle.routine.proofs.Lists.{kinds_length, summed}

module _ (ks : List Kind) (S : Rising ks) (a : ℕ) where
  -- neither it nor one above it names it
  unnamed : (n : ℕ) → a ≤ n → n < length ks → names (shape_at ks n) a ≡ 0
  unnamed n l b =
      elim (dec_lt 0 (names (shape_at ks n) a)) [
        | yes h ↦ let r = S n b a (some_names (shape_at ks n) a (omega arith)) in
            absurd (omega (arith, r.0))
        | no d ↦ omega arith
      ]

  -- so its names are counted below it
  below : (n : ℕ) → a ≤ n → n ≤ length ks → named ks n a ≡ named ks a a
  below zero l b = let e : 0 ≡ a = omega arith in ap (λ (m : ℕ). named ks m a) e
  below (suc n) l b =
      elim (ℕ_discrete a (suc n)) [
        | yes e ↦ ap (λ (m : ℕ). named ks m a) (sym e)
        | no d ↦ let h = below n (omega arith) (omega arith) in
            let u = unnamed n (omega arith) (omega arith) in omega (arith, h, u)
      ]

  -- or below the end, where it lies beyond
  pub named_below : (m : ℕ) → m ≡ min a (length ks) → named ks m a ≡ named ks (length ks) a
  named_below m e =
      ⊎_elim
      (λ (l : a < length ks).
      let f : m ≡ a = omega arith in
      ap (λ (n : ℕ). named ks n a) f ∙ sym (below (length ks) (omega arith) (omega arith)))
      (λ (l : length ks ≤ a).
      let f : m ≡ length ks = omega arith in ap (λ (n : ℕ). named ks n a) f)
      (cases_lt a (length ks))

-- the same, summed over the rows below it
pub named_sum_below : (ss : List Statement) (a m : ℕ) → Rising (kinds ss) → m ≡ min a (length ss)
    → sum_by (λ (x : Statement). names (shape x.kind) a) (take m ss)
    ≡ named (kinds ss) (length (kinds ss)) a
named_sum_below ss a m S e =
    let n : length (kinds ss) ≡ length ss = kinds_length ss (length ss) refl in
    summed ss a m (omega arith) ∙ named_below (kinds ss) S a m (omega arith)
