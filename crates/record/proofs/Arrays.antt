-- an array that is made place by place
use Rattle.std.proofs.Common.{◌≡◌, ℕ, zero, suc, ◌+◌, ◌<◌, ◌≤◌, List, map, sym, ◌∙◌, subst, ap}
use Rattle.std.proofs.Common.{get_or, arith}
use Rattle.std.specs.List.{range_with_len}
use Rattle.std.specs.Array.{IsFromFnResult, IsFromFnResultFrom}
use Rattle.std.specs.Fn.{Mut, Called}
use Rattle.std.proofs.lemmas.List.FromFn.{fill_by_all}
use native.Mathlib.Decide.{ℕ_discrete}

-- (by a closure that answers as h)
module _ {F X : Type 0} (g : Mut F (ℕ × Unit {0}) X) (f : F) (h : ℕ → X)
    (calls : (k : ℕ) (y : X) (q : F) → Called g f (k, tt) y q → (q ≡ f) × (y ≡ h k)) (ys : List X)
    (d : X) where
  each_made : (n i k : ℕ) → IsFromFnResultFrom g f ys i n → i ≤ k → k < i + n → get_or ys k d ≡ h k
  each_made zero i k e l m = absurd (omega arith)
  each_made (suc n) i k e l m =
      let c = calls i e.1 e.0 e.3 in
      elim (ℕ_discrete i k) [
        | yes x ↦ ap (λ (j : ℕ). get_or ys j d) (sym x) ∙ e.2.1 d ∙ c.1 ∙ ap h x
        | no x ↦ each_made n (i + 1) k (subst (λ q. IsFromFnResultFrom g q ys (i + 1) n) c.0 e.4)
            (omega arith) (omega arith)
      ]

  -- the array is the list of those answers
  pub made : (n : ℕ) → IsFromFnResult g f ys n → ys ≡ map h (range_with_len 0 n)
  made n r = fill_by_all h ys n d r.long (λ k l. each_made n 0 k r.each (omega arith) (omega arith))
