-- any labelled steps of which two can be taken in either order: all runs until nothing is ready end
-- in one state, by the same steps in another order
use Rattle.std.proofs.Common.{◌≡◌, List, IsPermutation, ◌∷◌, subst, sym, [], refl}
use Rattle.std.proofs.lemmas.List.Sorted.{IsPermutation-refl, IsPermutation-trans}
use Rattle.std.proofs.lemmas.List.Sorted.{IsPermutation-cons, IsPermutation-middle}
use Rattle.std.proofs.lemmas.List.Sorted.{IsPermutation-sym}
use Rattle.rules.specs.Runs.{Run, Quiet, still, then}

-- steps keep Inv, and from states that have it two ready steps can be taken in either order
pub record Diamond {S L : Type 0} (Ready : S → L → Type 0) (next : S → L → S)
    (Inv : S → Type 0) : Type 0 where
  pub keep : (s : S) (i : L) → Inv s → Ready s i → Inv (next s i)
  pub join : (s : S) (i j : L) → Inv s → ¬ (i ≡ j) → Ready s i → Ready s j
      → Ready (next s i) j × (next (next s i) j ≡ next (next s j) i)

module _ {S L : Type 0} (same : (i j : L) → Dec (i ≡ j)) (Ready : S → L → Type 0) (next : S → L → S)
    (Inv : S → Type 0)
    (D : Diamond Ready next Inv) where
  -- a step that is ready at first is taken in every run to quiet, and can be taken first
  pull : {s z : S} {i : L} {w : List L} → Inv s → Ready s i → Run Ready next s w z → Quiet Ready z
      → (v : List L) × IsPermutation w (i ∷ v) × Run Ready next (next s i) v z
  pull {i = i} inv p still q = absurd (q i p)
  pull {s = s} {z = z} {i = i} inv p (then {i = j} {w = w} p' r) q =
      elim (same i j) [
        | yes e ↦ (
          w,
          subst (λ k. IsPermutation (k ∷ w) (i ∷ w)) e (IsPermutation-refl (i ∷ w)),
          rw (← e) at r,
        )
        | no d ↦
            let c = D.join s i j inv d p p' in
            let c' = D.join s j i inv (λ e. d (sym e)) p' p in
            let h = pull {i = i} (D.keep s j inv p') c'.0 r q in (
              j ∷ h.0,
              IsPermutation-trans (j ∷ w) (j ∷ i ∷ h.0) (i ∷ j ∷ h.0)
                  (IsPermutation-cons j w (i ∷ h.0) h.1) (IsPermutation-middle (j ∷ []) i h.0),
              then c.0 (rw c'.1 at h.2),
            )
      ]

  -- all runs to quiet end in one state, by the same steps in another order
  pub unique : {s z y : S} {w u : List L} → Inv s → Run Ready next s w z → Quiet Ready z
      → Run Ready next s u y → Quiet Ready y
      → (z ≡ y) × IsPermutation w u
  unique inv still q still q' = (refl, IsPermutation-refl [])
  unique inv still q (then p r) q' = absurd (q _ p)
  unique {s = s} {u = u} inv (then {i = i} {w = w} p r) q r' q' =
      let h = pull inv p r' q' in
      let g = unique (D.keep s i inv p) r q h.2 q' in (
        g.0,
        IsPermutation-trans (i ∷ w) (i ∷ h.0) u (IsPermutation-cons i w h.0 g.1)
            (IsPermutation-sym u (i ∷ h.0) h.1),
      )
