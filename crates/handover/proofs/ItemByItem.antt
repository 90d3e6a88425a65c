-- a list written item by item
use Rattle.std.proofs.Common.{◌≡◌, ℕ, ◌+◌, ◌<◌, ◌≤◌, List, ◌++◌, length, drop, get_or, append_assoc}
use Rattle.std.proofs.Common.{refl, sym, ap, ◌∙◌}
use Rattle.std.proofs.lemmas.List.{append-nil, at_drop_more, at_drop_all}
use Rattle.std.specs.List.{flat_map}

module _ {X : Type 0} (f : X → List ℕ) where
  -- what is written so far, and what is still to be written, the items from i on, are together what
  -- stood there before and then all items
  pub record Writes (xs : List X) (i : ℕ) (old so_far : List ℕ) : Type 0 where
    pub is : so_far ++ flat_map f (drop i xs) ≡ old ++ flat_map f xs

  -- nothing is written yet
  pub writes_none : (xs : List X) (old : List ℕ) → Writes xs 0 old old
  writes_none xs old = record { is = refl }

  -- one item more
  pub writes_more : (xs : List X) (i : ℕ) (x : X) (old so_far next : List ℕ) → i < length xs
      → Writes xs i old so_far → next ≡ so_far ++ f (get_or xs i x) → Writes xs (i + 1) old next
  writes_more xs i x old so_far next l h e =
      record {
        is = ap (λ t. t ++ flat_map f (drop (i + 1) xs)) e
            ∙ append_assoc so_far (f (get_or xs i x)) (flat_map f (drop (i + 1) xs))
            ∙ sym (at_drop_more (λ ys. so_far ++ flat_map f ys) xs i x l) ∙ h.is;
      }

  -- all is written
  pub writes_all : (xs : List X) (i : ℕ) (old so_far : List ℕ) → length xs ≤ i
      → Writes xs i old so_far → so_far ≡ old ++ flat_map f xs
  writes_all xs i old so_far l h =
      sym (append-nil so_far) ∙ sym (at_drop_all (λ ys. so_far ++ flat_map f ys) xs i l) ∙ h.is
