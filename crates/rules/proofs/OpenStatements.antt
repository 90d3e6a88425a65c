-- open locals, statement by statement
use Rattle.std.proofs.Common.{List, ℕ, Bool, ◌&&◌, ◌≡◌, arith, ap, ◌<◌, length, subst, true, false}
use Rattle.std.proofs.Common.{inl, inr, refl, not, ◌||◌, ◌∙◌, sym}
use Rattle.std.proofs.lemmas.Bool.{and_parts, both_ways, or_left, or_right, false_from_ne_true}
use Rattle.std.proofs.lemmas.Bool.{not-true}
use Rattle.std.proofs.Math.Decide.{ℕ_discrete}
use Rattle.routine.specs.declared.kinds.Kind.{Kind}
use Rattle.routine.specs.Kinds.{shape_at, one_part, Shape, no_part, two_parts}
use Rattle.routine.specs.Tree.{node, tree_at}
use Rattle.routine.proofs.Once.{Once, Distinct, distinct}
use Rattle.routine.proofs.Trees.{Rising, Part, unroll, In, trees}
use Rattle.rules.specs.Legal.{is_local, is_underway}
use Rattle.rules.specs.Rules.{Mark, at, One, reached, shut, one}
use Rattle.rules.proofs.MarksIntoTrees.{marked}
use Rattle.rules.proofs.RuleFromRoot.{pick_yes, pick_no, unreached}
use Rattle.rules.proofs.OpenLocals.{opens, no_open, nested}

-- statement i is a local that is open
abbrev pub open_at : List Kind → List Mark → ℕ → Bool
open_at ks ms i = is_local (shape_at ks i) && is_underway (at ms i)

opens_is : (m : Mark) (k : One) (a : ℕ) → opens m k ≡ (is_local (one_part k a) && is_underway m)
opens_is m k a = grind arith

module _ (ks : List Kind) (S : Rising ks) (O : Once ks) (ms : List Mark) where
  abbrev Own : ℕ → Shape → ℕ → Type 0
  Own a r i = i ≡ a → open_at ks ms i ≡ (is_local r && is_underway (at ms a))

  own : (a i : ℕ) → Own a (shape_at ks a) i
  own a i e = ap (open_at ks ms) e

  abbrev PartOf : ℕ → Shape → Type 0
  PartOf a r = (p : ℕ) → Part r p → p < length ks

  apart : (a : ℕ) → a < length ks → Distinct (node a (shape_at ks a) (tree_at ks))
  apart a l = subst Distinct (unroll ks S a l) (distinct ks S O a l)

  -- where no local of a tree is open, none of its statements is an open local
  pub none_open : (i a : ℕ) → a < length ks → In (tree_at ks a) i
      → no_open (marked (tree_at ks a) ms) ≡ true → open_at ks ms i ≡ false
  none_open i = trees ks S (λ a t. In t i → no_open (marked t ms) ≡ true → open_at ks ms i ≡ false)
      (λ a l g. at_shape a (shape_at ks a) (own a i) g)
    where
      at_shape : (a : ℕ) (r : Shape) → Own a r i
          → ((p : ℕ) → Part r p → In (tree_at ks p) i → no_open (marked (tree_at ks p) ms) ≡ true
          → open_at ks ms i ≡ false)
          → In (node a r (tree_at ks)) i → no_open (marked (node a r (tree_at ks)) ms) ≡ true
          → open_at ks ms i ≡ false
      at_shape a (no_part k) w g u h = w u
      at_shape a (one_part k p) w g (inl u) h = let x = w u in let y = opens_is (at ms a) k p in
          grind arith
      at_shape a (one_part k p) w g (inr u) h = g p refl u (and_parts _ _ h).1
      at_shape a (two_parts k p q) w g (inl u) h = w u
      at_shape a (two_parts k p q) w g (inr (inl u)) h = g p (inl refl) u (and_parts _ _ h).0
      at_shape a (two_parts k p q) w g (inr (inr u)) h = g q (inr refl) u (and_parts _ _ h).1

  -- and back
  all_shut : (a : ℕ) → a < length ks → ((i : ℕ) → In (tree_at ks a) i → open_at ks ms i ≡ false)
      → no_open (marked (tree_at ks a) ms) ≡ true
  all_shut = trees ks S (λ a t. ((i : ℕ) → In t i → open_at ks ms i ≡ false)
      → no_open (marked t ms) ≡ true) (λ a l g. at_shape a (shape_at ks a) (own a a refl) g)
    where
      at_shape : (a : ℕ) (r : Shape) → open_at ks ms a ≡ (is_local r && is_underway (at ms a))
          → ((p : ℕ) → Part r p → ((i : ℕ) → In (tree_at ks p) i → open_at ks ms i ≡ false)
          → no_open (marked (tree_at ks p) ms) ≡ true)
          → ((i : ℕ) → In (node a r (tree_at ks)) i → open_at ks ms i ≡ false)
          → no_open (marked (node a r (tree_at ks)) ms) ≡ true
      at_shape a (no_part k) w g h = refl
      at_shape a (one_part k p) w g h =
          let x = g p refl (λ i u. h i (inr u)) in let y = h a (inl refl) in
          let z = opens_is (at ms a) k p in grind arith
      at_shape a (two_parts k p q) w g h =
          let x = g p (inl refl) (λ i u. h i (inr (inl u))) in
          let y = g q (inr refl) (λ i u. h i (inr (inr u))) in grind arith

  -- where no open local of a tree lies inside a shut one, each is reached
  pub open_reached : (i a : ℕ) → a < length ks → In (tree_at ks a) i
      → nested (marked (tree_at ks a) ms) ≡ true → open_at ks ms i ≡ true
      → reached (tree_at ks a) ms i ≡ true
  open_reached i = trees ks S
      (λ a t. In t i → nested (marked t ms) ≡ true → open_at ks ms i ≡ true → reached t ms i ≡ true)
      (λ a l g. at_shape a (shape_at ks a) (apart a l) (λ p h. (S a l p h).1) g)
    where
      at_shape : (a : ℕ) (r : Shape) → Distinct (node a r (tree_at ks)) → PartOf a r
          → ((p : ℕ) → Part r p → In (tree_at ks p) i → nested (marked (tree_at ks p) ms) ≡ true
          → open_at ks ms i ≡ true → reached (tree_at ks p) ms i ≡ true)
          → In (node a r (tree_at ks)) i → nested (marked (node a r (tree_at ks)) ms) ≡ true
          → open_at ks ms i ≡ true → reached (node a r (tree_at ks)) ms i ≡ true
      at_shape a (no_part k) d m g u h o = pick_yes (ℕ_discrete i a) true false u
      at_shape a (one_part k p) d m g (inl u) h o = pick_yes (ℕ_discrete i a) true _ u
      at_shape a (one_part k p) d m g (inr u) h o =
          let ne : ¬ (i ≡ a) = λ z. d.0 (subst (In (tree_at ks p)) z u) in
          let x = g p refl u (and_parts _ _ h).0 o in
          let y : no_open (marked (tree_at ks p) ms) ≡ true
          → ⊥ = λ c. both_ways _ (none_open i p (m p refl) u c) o in
          let w = (and_parts (nested (marked (tree_at ks p) ms))
          (not (shut (at ms a) k) || no_open (marked (tree_at ks p) ms)) h).1 in
          pick_no (ℕ_discrete i a) true _ ne
          ∙ both (shut (at ms a) k) (no_open (marked (tree_at ks p) ms))
          (reached (tree_at ks p) ms i) w y x
        where
          both : (s c b : Bool) → (not s || c) ≡ true → (c ≡ true → ⊥) → b ≡ true
              → (not s && b) ≡ true
          both s c b w y x = grind arith
      at_shape a (two_parts k p q) d m g (inl u) h o = pick_yes (ℕ_discrete i a) true _ u
      at_shape a (two_parts k p q) d m g (inr (inl u)) h o =
          let ne : ¬ (i ≡ a) = λ z. d.0 (subst (In (tree_at ks p)) z u) in
          let x = g p (inl refl) u (and_parts _ _ h).0 o in
          pick_no (ℕ_discrete i a) true _ ne
          ∙ or_left (reached (tree_at ks p) ms i) (reached (tree_at ks q) ms i) x
      at_shape a (two_parts k p q) d m g (inr (inr u)) h o =
          let ne : ¬ (i ≡ a) = λ z. d.1 (subst (In (tree_at ks q)) z u) in
          let x = g q (inr refl) u (and_parts _ _ h).1 o in
          pick_no (ℕ_discrete i a) true _ ne
          ∙ or_right (reached (tree_at ks p) ms i) (reached (tree_at ks q) ms i) x

  -- and back
  pub all_nested : (a : ℕ) → a < length ks
      → ((i : ℕ) → In (tree_at ks a) i → open_at ks ms i ≡ true
      → reached (tree_at ks a) ms i ≡ true) → nested (marked (tree_at ks a) ms) ≡ true
  all_nested = trees ks S (λ a t.
      ((i : ℕ) → In t i → open_at ks ms i ≡ true → reached t ms i ≡ true)
      → nested (marked t ms) ≡ true)
      (λ a l g. at_shape a (shape_at ks a) (apart a l) (λ p h. (S a l p h).1) g)
    where
      one_part_nested : (a : ℕ) (k : One) (p : ℕ) → Distinct (one a k (tree_at ks p))
          → p < length ks
          → (((i : ℕ) → In (tree_at ks p) i → open_at ks ms i ≡ true
          → reached (tree_at ks p) ms i ≡ true) → nested (marked (tree_at ks p) ms) ≡ true)
          → ((i : ℕ) → In (one a k (tree_at ks p)) i → open_at ks ms i ≡ true
          → reached (one a k (tree_at ks p)) ms i ≡ true)
          → (s : Bool) → shut (at ms a) k ≡ s
          → (nested (marked (tree_at ks p) ms) && (not s || no_open (marked (tree_at ks p) ms)))
          ≡ true
      one_part_nested a k p d l g h s e =
          let off = λ (i : ℕ) (u : In (tree_at ks p) i) (o : open_at ks ms i ≡ true).
          let ne : ¬ (i ≡ a) = λ z. d.0 (subst (In (tree_at ks p)) z u) in
          and_parts (not (shut (at ms a) k)) (reached (tree_at ks p) ms i)
          (sym (pick_no (ℕ_discrete i a) true _ ne) ∙ h i (inr u) o) in
          let x = g (λ i u o. (off i u o).1) in
          joined s x (λ z. all_shut p l
          (λ i u. false_from_ne_true (open_at ks ms i)
          (λ o. both_ways _ (not-true (shut (at ms a) k) (off i u o).0) (e ∙ z))))
        where
          joined : (s : Bool) {b c : Bool} → b ≡ true → (s ≡ true → c ≡ true)
              → (b && (not s || c)) ≡ true
          joined true x f = let y = f refl in grind arith
          joined false x f = grind arith

      at_shape : (a : ℕ) (r : Shape) → Distinct (node a r (tree_at ks)) → PartOf a r
          → ((p : ℕ) → Part r p → ((i : ℕ) → In (tree_at ks p) i → open_at ks ms i ≡ true
          → reached (tree_at ks p) ms i ≡ true) → nested (marked (tree_at ks p) ms) ≡ true)
          → ((i : ℕ) → In (node a r (tree_at ks)) i → open_at ks ms i ≡ true
          → reached (node a r (tree_at ks)) ms i ≡ true)
          → nested (marked (node a r (tree_at ks)) ms) ≡ true
      at_shape a (no_part k) d m g h = refl
      at_shape a (one_part k p) d m g h =
          one_part_nested a k p d (m p refl) (g p refl) h (shut (at ms a) k) refl
      at_shape a (two_parts k p q) d m g h =
          let x = g p (inl refl) (λ i u o.
          let ne : ¬ (i ≡ a) = λ z. d.0 (subst (In (tree_at ks p)) z u) in
          let y = sym (pick_no (ℕ_discrete i a) true _ ne) ∙ h i (inr (inl u)) o in
          let w = unreached (tree_at ks q) ms i (d.2 i u) in
          grind arith) in
          let x' = g q (inr refl) (λ i u o.
          let ne : ¬ (i ≡ a) = λ z. d.1 (subst (In (tree_at ks q)) z u) in
          let y = sym (pick_no (ℕ_discrete i a) true _ ne) ∙ h i (inr (inr u)) o in
          let w = unreached (tree_at ks p) ms i (λ z. d.2 i z u) in
          grind arith) in
          grind arith
