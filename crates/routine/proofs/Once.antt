-- where each statement but the first is named once, every number occurs once in the tree
use Rattle.std.proofs.Common.{◌≡◌, ℕ, zero, suc, ◌+◌, ◌<◌, ◌≤◌, cond, eqb, ltb, ◌⊎◌, List, length}
use Rattle.std.proofs.Common.{sym, refl, ap, ◌∙◌, subst, inl, inr, arith}
use native.Mathlib.Decide.{ℕ_discrete, dec_lt}
use Rattle.routine.specs.declared.kinds.Kind.{Kind}
use Rattle.routine.specs.Kinds.{Two, Shape, no_part, one_part, two_parts, shape_at}
use Rattle.routine.specs.Tree.{Tree, leaf, one, two, node, tree_at, occurs, size}
use Rattle.routine.specs.Meaning.{names, named}
use Rattle.routine.proofs.Trees.{Part, Rising, In, Under, self, part, trees, under_below, in_under}
use Rattle.routine.proofs.Trees.{under_in}

-- each statement but the first is named once
abbrev pub Once : List Kind → Type 0
Once ks = (a : ℕ) → 1 ≤ a → a < length ks → named ks (length ks) a ≡ 1

-- the numbers of a tree are distinct
abbrev pub Distinct : Tree → Type 0
Distinct (leaf n k) = Unit {0}
Distinct (one n k p) = ¬ (In p n) × Distinct p
Distinct (two n k p q) =
    ¬ (In p n) × ¬ (In q n) × ((i : ℕ) → In p i → ¬ (In q i)) × Distinct p × Distinct q

names_some : (r : Shape) (a : ℕ) → Part r a → 1 ≤ names r a
names_some r a h = grind arith

pub some_names : (r : Shape) (a : ℕ) → 1 ≤ names r a → Part r a
some_names r a h = grind arith

module _ (ks : List Kind) where
  named_more : (n i a : ℕ) → i < n → names (shape_at ks i) a ≤ named ks n a
  named_more zero i a l = absurd (omega arith)
  named_more (suc n) i a l =
      elim (ℕ_discrete i n) [
        | yes e ↦ let h : names (shape_at ks i) a ≡ names (shape_at ks n) a =
            ap (λ j. names (shape_at ks j) a) e in omega arith
        | no d ↦ let h = named_more n i a (omega arith) in omega arith
      ]

  named_both : (n i j a : ℕ) → i < j → j < n
      → names (shape_at ks i) a + names (shape_at ks j) a ≤ named ks n a
  named_both zero i j a b l = absurd (omega arith)
  named_both (suc n) i j a b l =
      elim (ℕ_discrete j n) [
        | yes e ↦ let h : names (shape_at ks j) a ≡ names (shape_at ks n) a =
            ap (λ j. names (shape_at ks j) a) e in let g = named_more n i a (omega arith) in
            omega arith
        | no d ↦ let h = named_both n i j a b (omega arith) in omega arith
      ]

  -- what is named has a statement whose part it is
  owner : (n a : ℕ) → 1 ≤ named ks n a → (i : ℕ) × (i < n) × Part (shape_at ks i) a
  owner zero a h = absurd (omega arith)
  owner (suc n) a h =
      elim (dec_lt 0 (names (shape_at ks n) a)) [
        | yes b ↦ (n, omega arith, some_names (shape_at ks n) a (omega arith))
        | no d ↦ let g = owner n a (omega arith) in (g.0, (let b = g.1 in omega arith), g.2)
      ]

module _ (ks : List Kind) (S : Rising ks) (O : Once ks) where
  not_before : (i j a : ℕ) → i < length ks → j < length ks → Part (shape_at ks i) a
      → Part (shape_at ks j) a → ¬ (i < j)
  not_before i j a l m h g b =
      let u = S i l a h in
      let o = O a (omega arith) u.1 in
      let x = named_both ks (length ks) i j a b m in
      let y = names_some (shape_at ks i) a h in
      let z = names_some (shape_at ks j) a g in
      omega arith

  -- a part has one owner
  pub one_owner : (i j a : ℕ) → i < length ks → j < length ks → Part (shape_at ks i) a
      → Part (shape_at ks j) a → i ≡ j
  one_owner i j a l m h g = let x = not_before i j a l m h g in let y = not_before j i a m l g h in
      omega arith

  other_parts : (i : ℕ) → i < length ks → (k : Two) (a b : ℕ) → shape_at ks i ≡ two_parts k a b
      → ¬ (a ≡ b)
  other_parts i l k a b e h =
      let p : Part (shape_at ks i) a = rw e (inl refl) in
      let u = S i l a p in
      let o = O a (omega arith) u.1 in
      let x = named_more ks (length ks) i a l in
      let y : names (shape_at ks i) a ≡ names (two_parts k a b) a = ap (λ r. names r a) e in
      let z : names (two_parts k a b) a ≡ 2 = grind arith in
      omega arith

  -- of two statements that have a third under them, one is under the other
  comparable : (n p q a : ℕ) → a < n → p < length ks → q < length ks → Under ks p a → Under ks q a
      → Under ks p q ⊎ Under ks q p
  comparable zero p q a b lp lq u v = absurd (omega arith)
  comparable (suc n) p q a b lp lq self v = inr v
  comparable (suc n) p q a b lp lq (part u h) self = inl (part u h)
  comparable (suc n) p q a b lp lq (part {j = j} u h) (part {j = j'} v g) =
      let x = under_below ks S lp u in
      let y = under_below ks S lq v in
      let e = one_owner j j' a x.1 y.1 h g in
      let z = S j x.1 a h in
      comparable n p q j (omega arith) lp lq u (rw (← e) at v)

  beside : (i p q : ℕ) → i < length ks → Part (shape_at ks i) p → Part (shape_at ks i) q → ¬ (p ≡ q)
      → ¬ (Under ks p q)
  beside i p q l h g d self = d refl
  beside i p q l h g d (part {j = j} u x) =
      let b = S i l p h in
      let c = under_below ks S b.1 u in
      let e = one_owner i j q l c.1 g x in
      omega arith

  apart : (i p q a : ℕ) → i < length ks → Part (shape_at ks i) p → Part (shape_at ks i) q
      → ¬ (p ≡ q) → Under ks p a → Under ks q a → ⊥
  apart i p q a l h g d u v =
      let lp = (S i l p h).1 in
      let lq = (S i l q g).1 in
      elim (comparable (suc a) p q a (omega arith) lp lq u v) [
        | inl x ↦ beside i p q l h g d x
        | inr x ↦ beside i q p l g h (λ e. d (sym e)) x
      ]

  not_above : (i a : ℕ) → i < length ks → Part (shape_at ks i) a → ¬ (In (tree_at ks a) i)
  not_above i a l h u = let b = S i l a h in
      let c = under_below ks S b.1 (in_under ks S a b.1 i u) in omega arith

  -- two parts of one statement have nothing in common
  pub disjoint : (i : ℕ) → i < length ks → (k : Two) (a b : ℕ) → shape_at ks i ≡ two_parts k a b
      → (j : ℕ) → Under ks a j → ¬ (Under ks b j)
  disjoint i l k a b e j u v =
      let h : Part (shape_at ks i) a = rw e (inl refl) in
      let g : Part (shape_at ks i) b = rw e (inr refl) in
      apart i a b j l h g (other_parts i l k a b e) u v

  -- no number is twice in a tree
  pub distinct : (i : ℕ) → i < length ks → Distinct (tree_at ks i)
  distinct = trees ks S (λ i t. Distinct t)
      (λ i l g. at_shape i (shape_at ks i) refl (λ a h. (S i l a h).1) (λ a. not_above i a l)
      (disjoint i l) g)
    where
      at_shape : (i : ℕ) (r : Shape) → shape_at ks i ≡ r → ((a : ℕ) → Part r a → a < length ks)
          → ((a : ℕ) → Part r a → ¬ (In (tree_at ks a) i))
          → ((k : Two) (a b : ℕ) → shape_at ks i ≡ two_parts k a b → (j : ℕ) → Under ks a j
          → ¬ (Under ks b j))
          → ((a : ℕ) → Part r a → Distinct (tree_at ks a)) → Distinct (node i r (tree_at ks))
      at_shape i (no_part k) e m f d g = tt
      at_shape i (one_part k a) e m f d g = (f a refl, g a refl)
      at_shape i (two_parts k a b) e m f d g = (
        f a (inl refl),
        f b (inr refl),
        λ j h h'. d k a b e j (in_under ks S a (m a (inl refl)) j h)
            (in_under ks S b (m b (inr refl)) j h'),
        g a (inl refl),
        g b (inr refl),
      )

  -- every statement is under the first
  pub every : (n a : ℕ) → 0 < length ks → a < n → a < length ks → Under ks 0 a
  every zero a z b l = absurd (omega arith)
  every (suc n) a z b l =
      elim (ℕ_discrete a 0) [
        | yes e ↦ subst (Under ks 0) (sym e) self
        | no d ↦
            let o = owner ks (length ks) a (let x = O a (omega arith) l in omega arith) in
            let s = S o.0 o.1 a o.2 in
            part (every n o.0 z (omega arith) o.1) o.2
      ]

-- how often a number occurs
misses : (t : Tree) (i : ℕ) → ¬ (In t i) → occurs t i ≡ 0
misses (leaf n k) i d = grind arith
misses (one n k p) i d = let h = misses p i in grind arith
misses (two n k p q) i d = let h = misses p i in let g = misses q i in grind arith

at_most : (t : Tree) → Distinct t → (i : ℕ) → occurs t i ≤ 1
at_most (leaf n k) d i = grind arith
at_most (one n k p) d i = let h = at_most p d.1 i in let g = misses p i in grind arith
at_most (two n k p q) d i =
    let h = at_most p d.3 i in let h' = at_most q d.4 i in let g = misses p i in
    let g' = misses q i in
    let e = d.2 i in
    grind arith

at_least : (t : Tree) (i : ℕ) → In t i → 1 ≤ occurs t i
at_least (leaf n k) i h = grind arith
at_least (one n k p) i h = let g = at_least p i in grind arith
at_least (two n k p q) i h = let g = at_least p i in let f = at_least q i in grind arith

-- the sum of f over the numbers below n
abbrev sum_below : (ℕ → ℕ) → ℕ → ℕ
sum_below f zero = 0
sum_below f (suc n) = f n + sum_below f n

sum_plus : (f g h : ℕ → ℕ) → ((i : ℕ) → f i ≡ g i + h i) → (n : ℕ)
    → sum_below f n ≡ sum_below g n + sum_below h n
sum_plus f g h e zero = refl
sum_plus f g h e (suc n) = let a = e n in let b = sum_plus f g h e n in omega arith

sum_ones : (f : ℕ → ℕ) (n : ℕ) → ((i : ℕ) → i < n → f i ≡ 1) → sum_below f n ≡ n
sum_ones f zero h = refl
sum_ones f (suc n) h = let a = h n (omega arith) in
    let b = sum_ones f n (λ i l. h i (omega arith)) in omega arith

sum_none : (m n : ℕ) → n ≤ m → sum_below (λ i. cond (eqb i m) 1 0) n ≡ 0
sum_none m zero h = refl
sum_none m (suc n) h = let a = sum_none m n (omega arith) in grind arith

sum_one : (m n : ℕ) → m < n → sum_below (λ i. cond (eqb i m) 1 0) n ≡ 1
sum_one m zero h = absurd (omega arith)
sum_one m (suc n) h =
    elim (ℕ_discrete n m) [
      | yes e ↦ let a = sum_none m n (omega arith) in grind arith
      | no d ↦ let a = sum_one m n (omega arith) in grind arith
    ]

total : (t : Tree) (n : ℕ) → ((i : ℕ) → In t i → i < n) → sum_below (occurs t) n ≡ size t
total (leaf m k) n h = sum_one m n (h m refl)
total (one m k p) n h =
    let a = sum_plus (occurs (one m k p)) (λ i. cond (eqb i m) 1 0) (occurs p) (λ i. refl) n in
    let b = sum_one m n (h m (inl refl)) in
    let c = total p n (λ i g. h i (inr g)) in
    omega arith
total (two m k p q) n h =
    let a = sum_plus (occurs (two m k p q)) (λ i. cond (eqb i m) 1 0) (λ i. occurs p i + occurs q i)
    (λ i. refl) n in
    let a' = sum_plus (λ i. occurs p i + occurs q i) (occurs p) (occurs q) (λ i. refl) n in
    let b = sum_one m n (h m (inl refl)) in
    let c = total p n (λ i g. h i (inr (inl g))) in
    let c' = total q n (λ i g. h i (inr (inr g))) in
    omega arith

module _ (ks : List Kind) (S : Rising ks) (O : Once ks) (z : 0 < length ks) where
  once_in : (i : ℕ) → i < length ks → occurs (tree_at ks 0) i ≡ 1
  once_in i l =
      let a = at_least (tree_at ks 0) i
      (under_in ks S z (every ks S O (suc i) i z (omega arith) l)) in
      let b = at_most (tree_at ks 0) (distinct ks S O 0 z) i in
      omega arith

  -- each number below n occurs once, and no other
  pub occurs_once : (i : ℕ) → occurs (tree_at ks 0) i ≡ cond (ltb i (length ks)) 1 0
  occurs_once i =
      elim (dec_lt i (length ks)) [
        | yes l ↦ let a = once_in i l in grind arith
        | no d ↦ let a = misses (tree_at ks 0) i
            (λ h. let b = under_below ks S z (in_under ks S 0 z i h) in omega arith) in grind arith
      ]

  -- the tree has as many statements as the table
  pub whole_size : size (tree_at ks 0) ≡ length ks
  whole_size =
      sym (total (tree_at ks 0) (length ks) (λ i h. (under_below ks S z (in_under ks S 0 z i h)).1))
      ∙ sum_ones (occurs (tree_at ks 0)) (length ks) once_in
