-- the tree of a table that has its form: it does not depend on the fuel, and what holds of it is
-- shown from the parts up
use Rattle.std.proofs.Common.{◌≡◌, ℕ, zero, suc, ◌+◌, ◌<◌, ◌≤◌, true, ◌⊎◌, List, length, sym, refl}
use Rattle.std.proofs.Common.{ap, subst, ap₂, inl, inr, arith}
use Rattle.routine.specs.declared.kinds.Kind.{Kind}
use Rattle.routine.specs.Kinds.{Shape, no_part, one_part, two_parts, shape, kind_at, shape_at}
use Rattle.routine.specs.Tree.{Tree, leaf, one, two, node, tree, tree_at, contains}
use Rattle.routine.specs.Layout.{fits, Formed}

-- a is a part of the statement
abbrev pub Part : Shape → ℕ → Type 0
Part (no_part k) a = ⊥
Part (one_part k p) a = a ≡ p
Part (two_parts k p q) a = (a ≡ p) ⊎ (a ≡ q)

-- every part of statement i is above i and below n
abbrev pub Rising : List Kind → Type 0
Rising ks = (i : ℕ) → i < length ks → (a : ℕ) → Part (shape_at ks i) a → (i < a) × (a < length ks)

fits_rises : (g n i : ℕ) (k : Kind) → fits g n i k ≡ true → (a : ℕ) → Part (shape k) a
    → (i < a) × (a < n)
fits_rises g n i k h a p = grind arith

-- in a table that has its form, parts lie above their statement
pub rising : (g : ℕ) (ks : List Kind) → Formed g ks → Rising ks
rising g ks f i l a p = fits_rises g (length ks) i (kind_at ks i) (f i l) a p

-- i is a number of the tree
abbrev pub In : Tree → ℕ → Type 0
In (leaf n k) i = i ≡ n
In (one n k p) i = (i ≡ n) ⊎ In p i
In (two n k p q) i = (i ≡ n) ⊎ (In p i ⊎ In q i)

-- the test and the fact: a number of the tree is contained in it
pub contains_in : (t : Tree) (i : ℕ) → contains t i ≡ true → In t i
contains_in (leaf n k) i h = grind arith
contains_in (one n k p) i h = let g = contains_in p i in grind arith
contains_in (two n k p q) i h = let g = contains_in p i in let f = contains_in q i in grind arith

-- and the other way round
pub in_contains : (t : Tree) (i : ℕ) → In t i → contains t i ≡ true
in_contains (leaf n k) i h = grind arith
in_contains (one n k p) i h = let g = in_contains p i in grind arith
in_contains (two n k p q) i h = let g = in_contains p i in let f = in_contains q i in grind arith

node_same : (i : ℕ) (r : Shape) (f g : ℕ → Tree) → ((a : ℕ) → Part r a → f a ≡ g a)
    → node i r f ≡ node i r g
node_same i (no_part k) f g h = refl
node_same i (one_part k a) f g h = ap (one i k) (h a refl)
node_same i (two_parts k a b) f g h = ap₂ (two i k) (h a (inl refl)) (h b (inr refl))

-- j is i or lies inside i
pub data Under (ks : List Kind) (i : ℕ) : ℕ → Type 0 where
  self : Under ks i i
  part : {j a : ℕ} → Under ks i j → Part (shape_at ks j) a → Under ks i a

module _ (ks : List Kind) (S : Rising ks) where
  -- more fuel gives the same tree
  pub fuel : (f g i : ℕ) → i < length ks → length ks ≤ i + f → length ks ≤ i + g
      → tree ks f i ≡ tree ks g i
  unfolding tree
  fuel zero g i l a b = absurd (omega arith)
  fuel (suc f) zero i l a b = absurd (omega arith)
  fuel (suc f) (suc g) i l a b =
      node_same i (shape_at ks i) (tree ks f) (tree ks g)
      (λ p h. let u = S i l p h in fuel f g p u.1 (omega arith) (omega arith))

  -- a statement's tree is one level over those of its parts
  pub unroll : (i : ℕ) → i < length ks → tree_at ks i ≡ node i (shape_at ks i) (tree_at ks)
  unfolding tree tree_at
  unroll i l = fuel (length ks) (suc (length ks)) i l (omega arith) (omega arith)

  -- induction from the parts to the whole
  climb : (P : ℕ → Type 0)
      → ((i : ℕ) → i < length ks → ((a : ℕ) → Part (shape_at ks i) a → P a) → P i) → (f i : ℕ)
      → i < length ks → length ks ≤ i + f → P i
  climb P h zero i l b = absurd (omega arith)
  climb P h (suc f) i l b = h i l (λ a p. let u = S i l a p in climb P h f a u.1 (omega arith))

  -- what holds of a node by its parts holds of the tree of each statement
  pub trees : (P : ℕ → Tree → Type 0)
      → ((i : ℕ) → i < length ks → ((a : ℕ) → Part (shape_at ks i) a → P a (tree_at ks a))
      → P i (node i (shape_at ks i) (tree_at ks)))
      → (i : ℕ) → i < length ks → P i (tree_at ks i)
  trees P h i l =
      climb (λ i. P i (tree_at ks i)) (λ i l g. subst (P i) (sym (unroll i l)) (h i l g))
      (length ks) i l (omega arith)

  -- what is under a statement has no lower number
  pub under_below : {i j : ℕ} → i < length ks → Under ks i j → (i ≤ j) × (j < length ks)
  under_below l self = (omega arith, l)
  under_below l (part {j = j} {a = a} u h) = let g = under_below l u in let s = S j g.1 a h in
      (omega arith, s.1)

  -- what is under a part is under the statement
  pub under_first : {i a j : ℕ} → Part (shape_at ks i) a → Under ks a j → Under ks i j
  under_first h self = part self h
  under_first h (part u g) = part (under_first h u) g

  -- what is under what is under a statement is under it
  pub under_trans : {i j m : ℕ} → Under ks i j → Under ks j m → Under ks i m
  under_trans u self = u
  under_trans u (part v h) = part (under_trans u v) h

  -- a tree's numbers are those under its statement
  pub in_under : (i : ℕ) → i < length ks → (j : ℕ) → In (tree_at ks i) j → Under ks i j
  in_under = trees (λ i t. (j : ℕ) → In t j → Under ks i j)
      (λ i l g j h. at_shape i j (shape_at ks i) (λ a e u. under_first {i = i} e (g a e j u)) h)
    where
      at_shape : (i j : ℕ) (r : Shape) → ((a : ℕ) → Part r a → In (tree_at ks a) j → Under ks i j)
          → In (node i r (tree_at ks)) j → Under ks i j
      at_shape i j (no_part k) g h = subst (Under ks i) (sym h) self
      at_shape i j (one_part k a) g (inl h) = subst (Under ks i) (sym h) self
      at_shape i j (one_part k a) g (inr h) = g a refl h
      at_shape i j (two_parts k a b) g (inl h) = subst (Under ks i) (sym h) self
      at_shape i j (two_parts k a b) g (inr (inl h)) = g a (inl refl) h
      at_shape i j (two_parts k a b) g (inr (inr h)) = g b (inr refl) h

  root_in : (i : ℕ) → i < length ks → In (tree_at ks i) i
  root_in i l = subst (λ t. In t i) (sym (unroll i l)) (root (shape_at ks i))
    where
      root : (r : Shape) → In (node i r (tree_at ks)) i
      root (no_part k) = refl
      root (one_part k a) = inl refl
      root (two_parts k a b) = inl refl

  -- what a part has, the whole has
  in_part : (i j : ℕ) (r : Shape) (a : ℕ) → Part r a → In (tree_at ks a) j
      → In (node i r (tree_at ks)) j
  in_part i j (no_part k) a h g = absurd h
  in_part i j (one_part k p) a h g = inr (rw h at g)
  in_part i j (two_parts k p q) a (inl h) g = inr (inl (rw h at g))
  in_part i j (two_parts k p q) a (inr h) g = inr (inr (rw h at g))

  in_grows : (i : ℕ) → i < length ks → (j a : ℕ) → In (tree_at ks i) j → Part (shape_at ks j) a
      → In (tree_at ks i) a
  in_grows = trees (λ i t. (j a : ℕ) → In t j → Part (shape_at ks j) a → In t a)
      (λ i l g j a h e. at_shape i j a (shape_at ks i) refl (λ x. root_in a (S i l a x).1)
      (λ b x u. g b x j a u e) e h)
    where
      own : (i j a : ℕ) (r : Shape) → r ≡ shape_at ks i
          → (Part (shape_at ks i) a → In (tree_at ks a) a) → Part (shape_at ks j) a → j ≡ i
          → In (node i r (tree_at ks)) a
      own i j a r x f e h = let y : Part (shape_at ks i) a = rw h at e in
          in_part i a r a (rw (← x) at y) (f y)

      at_shape : (i j a : ℕ) (r : Shape) → r ≡ shape_at ks i
          → (Part (shape_at ks i) a → In (tree_at ks a) a)
          → ((b : ℕ) → Part r b → In (tree_at ks b) j → In (tree_at ks b) a)
          → Part (shape_at ks j) a → In (node i r (tree_at ks)) j → In (node i r (tree_at ks)) a
      at_shape i j a (no_part k) x f g e h = own i j a (no_part k) x f e h
      at_shape i j a (one_part k p) x f g e (inl h) = own i j a (one_part k p) x f e h
      at_shape i j a (one_part k p) x f g e (inr h) = inr (g p refl h)
      at_shape i j a (two_parts k p q) x f g e (inl h) = own i j a (two_parts k p q) x f e h
      at_shape i j a (two_parts k p q) x f g e (inr (inl h)) = inr (inl (g p (inl refl) h))
      at_shape i j a (two_parts k p q) x f g e (inr (inr h)) = inr (inr (g q (inr refl) h))

  -- what is under a statement is a number of its tree
  pub under_in : {i j : ℕ} → i < length ks → Under ks i j → In (tree_at ks i) j
  under_in {i = i} l self = root_in i l
  under_in {i = i} l (part {j = j} {a = a} u h) = in_grows i l j a (under_in l u) h
