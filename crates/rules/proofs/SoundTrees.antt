-- from a table's tests to its tree: numbers are distinct, what is local is named in its scope
-- alone, and loops turn
use Rattle.std.proofs.Common.{ℕ, ◌<◌, ◌≤◌, ◌⊎◌, arith, List, length, inl, inr, refl, subst, ◌≡◌}
use Rattle.std.proofs.Common.{suc, le_of_eq}
use Rattle.routine.specs.declared.kinds.Kind.{Kind}
use Rattle.routine.specs.declared.kinds.SignalKind.{SignalKind}
use Rattle.routine.specs.Kinds.{Shape, one_part, shape_at, no_part, two_parts}
use Rattle.routine.specs.Tree.{size, node, tree_at}
use Rattle.routine.proofs.Once.{distinct, Distinct, Once, disjoint, every, whole_size}
use Rattle.routine.proofs.Trees.{In, Rising, Part, Under, trees, self, under_first, under_below}
use Rattle.routine.proofs.Trees.{under_trans, in_under, under_in}
use Rattle.rules.specs.Rules.{Tree, One}
use Rattle.rules.proofs.TreeScopes.{Scoped, NamesOne, Binds, Names}
use Rattle.rules.proofs.StepsLeft.{Turns}
use Rattle.rules.proofs.TableTests.{RowUses, RowBinds, Scopes, Turning, Table}

-- a tree whose numbers are those below n, each once, with scopes and loops in order
pub record Sound (n : ℕ) (t : Tree) : Type 0 where
  pub distinct : Distinct t
  pub below : (i : ℕ) → In t i → i < n
  pub whole : (i : ℕ) → i < n → In t i
  pub small : size t ≤ n
  pub scoped : Scoped t
  pub turns : Turns t

-- the row's statement names s
abbrev Mentions : Shape → ℕ → Type 0
Mentions r s = RowUses r s ⊎ RowBinds r s

one_mentions : (k : One) (a s : ℕ) → NamesOne k s → Mentions (one_part k a) s
one_mentions k a s h = grind arith

module _ (ks : List Kind) (S : Rising ks) where
  -- what a tree has by its own row or by a part, a row under its statement has
  row_under : (P : Tree → Type 0) (R : Shape → Type 0)
      → ((i : ℕ) (r : Shape) → P (node i r (tree_at ks))
      → R r ⊎ ((a : ℕ) × Part r a × P (tree_at ks a)))
      → (i : ℕ) → i < length ks → P (tree_at ks i)
      → (j : ℕ) × Under ks i j × R (shape_at ks j)
  row_under P R split =
      trees ks S (λ i t. P t → (j : ℕ) × Under ks i j × R (shape_at ks j))
      (λ i l g h. elim (split i (shape_at ks i) h) [
        | inl r ↦ (i, self, r)
        | inr w ↦ let y = g w.0 w.1 w.2 in (y.0, under_first ks S {i = i} w.1 y.1, y.2)
      ])

  binds_at : (s i : ℕ) → i < length ks → Binds (tree_at ks i) s
      → (j : ℕ) × Under ks i j × RowBinds (shape_at ks j) s
  binds_at s = row_under (λ t. Binds t s) (λ r. RowBinds r s) split
    where
      split : (i : ℕ) (r : Shape) → Binds (node i r (tree_at ks)) s
          → RowBinds r s ⊎ ((a : ℕ) × Part r a × Binds (tree_at ks a) s)
      split i (no_part k) h = absurd h
      split i (one_part k a) (inl h) = inl h
      split i (one_part k a) (inr h) = inr (a, refl, h)
      split i (two_parts k a b) (inl h) = inr (a, inl refl, h)
      split i (two_parts k a b) (inr h) = inr (b, inr refl, h)

  names_at : (s i : ℕ) → i < length ks → Names (tree_at ks i) s
      → (j : ℕ) × Under ks i j × Mentions (shape_at ks j) s
  names_at s = row_under (λ t. Names t s) (λ r. Mentions r s) split
    where
      split : (i : ℕ) (r : Shape) → Names (node i r (tree_at ks)) s
          → Mentions r s ⊎ ((a : ℕ) × Part r a × Names (tree_at ks a) s)
      split i (no_part k) h = inl (inl h)
      split i (one_part k a) (inl h) = inl (one_mentions k a s h)
      split i (one_part k a) (inr h) = inr (a, refl, h)
      split i (two_parts k a b) (inl h) = inl (inl h)
      split i (two_parts k a b) (inr (inl h)) = inr (a, inl refl, h)
      split i (two_parts k a b) (inr (inr h)) = inr (b, inr refl, h)

module _ (ks : List Kind) (S : Rising ks) (O : Once ks) (gs : List SignalKind)
    (C : Scopes ks gs) where
  -- what mentions a signal that has a local statement lies inside that
  scope : (i j s : ℕ) → i < length ks → j < length ks → Mentions (shape_at ks i) s
      → RowBinds (shape_at ks j) s → Under ks j i
  scope i j s l m (inl u) b =
      let w = C.within i s l u (C.inner_only j s m b) in
      let e = C.alone w.0 j s w.1 m w.2 b in
      subst (λ x. Under ks x i) e w.3
  scope i j s l m (inr u) b = subst (Under ks j) (C.alone j i s m l b u) self

  -- what a part binds its whole does not mention
  not_own : (i a s : ℕ) → i < length ks → Part (shape_at ks i) a
      → Binds (tree_at ks a) s → ¬ (Mentions (shape_at ks i) s)
  not_own i a s l h b u =
      let x = S i l a h in
      let y = binds_at ks S s a x.1 b in
      let z = under_below ks S x.1 y.1 in
      let v = under_below ks S z.1 (scope i y.0 s l z.1 u y.2) in
      omega arith

  -- nor does the other part
  not_beside : (i a b s : ℕ) → i < length ks → a < length ks → b < length ks
      → ((j : ℕ) → Under ks a j → ¬ (Under ks b j))
      → Binds (tree_at ks a) s → ¬ (Names (tree_at ks b) s)
  not_beside i a b s l la lb d h g =
      let x = binds_at ks S s a la h in
      let y = names_at ks S s b lb g in
      let u = scope y.0 x.0 s (under_below ks S lb y.1).1 (under_below ks S la x.1).1 y.2 x.2 in
      d y.0 (under_trans ks S x.1 u) y.1

  pub scoped : (i : ℕ) → i < length ks → Scoped (tree_at ks i)
  scoped = trees ks S (λ i t. Scoped t) (λ i l g. at_row i l (shape_at ks i) refl g)
    where
      at_row : (i : ℕ) → i < length ks → (r : Shape) → shape_at ks i ≡ r
          → ((a : ℕ) → Part (shape_at ks i) a → Scoped (tree_at ks a))
          → Scoped (node i r (tree_at ks))
      at_row i l (no_part k) e g = tt
      at_row i l (one_part k a) e g =
          let x : Part (shape_at ks i) a = rw e refl in
          (λ s b u. not_own i a s l x b (rw e (one_mentions k a s u)), g a x)
      at_row i l (two_parts k a b) e g =
          let x : Part (shape_at ks i) a = rw e (inl refl) in
          let y : Part (shape_at ks i) b = rw e (inr refl) in
          let d = disjoint ks S O i l k a b e in
          let la = (S i l a x).1 in
          let lb = (S i l b y).1 in (
            λ s h u. elim u [
              | inl v ↦ not_own i a s l x h (rw e (inl v))
              | inr v ↦ not_beside i a b s l la lb d h v
            ],
            λ s h u. elim u [
              | inl v ↦ not_own i b s l y h (rw e (inl v))
              | inr v ↦ not_beside i b a s l lb la (λ j p q. d j q p) h v
            ],
            g a x,
            g b y,
          )

module _ (ks : List Kind) (S : Rising ks) where
  -- no loop's first part can end at once
  pub turns : ((i : ℕ) → i < length ks → Turning ks (shape_at ks i)) → (i : ℕ) → i < length ks
      → Turns (tree_at ks i)
  turns T = trees ks S (λ i t. Turns t) (λ i l g. at_row i (shape_at ks i) (T i l) g)
    where
      at_row : (i : ℕ) (r : Shape) → Turning ks r
          → ((a : ℕ) → Part r a → Turns (tree_at ks a))
          → Turns (node i r (tree_at ks))
      at_row i (no_part k) h g = tt
      at_row i (one_part k a) h g = (h, g a refl)
      at_row i (two_parts k a b) h g = (g a (inl refl), g b (inr refl))

-- the tree of a table that passes its tests
pub sound : (ks : List Kind) (gs : List SignalKind) → Table ks gs → Sound (length ks) (tree_at ks 0)
sound ks gs T =
    let S = T.shaped in
    let z = T.some_row in
    record {
      distinct = distinct ks S T.once 0 z;
      below = λ i h. (under_below ks S z (in_under ks S 0 z i h)).1;
      whole = λ i l. under_in ks S z (every ks S T.once (suc i) i z (omega arith) l);
      small = le_of_eq (whole_size ks S T.once z);
      scoped = scoped ks S T.once gs T.scopes 0 z;
      turns = turns ks S T.turning 0 z;
    }
