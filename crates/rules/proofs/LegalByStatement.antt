-- legal marks, statement by statement and as a tree
use Rattle.std.proofs.Common.{List, ℕ, ◌<◌, length, ◌≡◌, true, Bool, ◌&&◌, arith, subst, sym, refl}
use Rattle.std.proofs.Common.{inl, inr, suc}
use Rattle.routine.specs.declared.kinds.Kind.{Kind}
use Rattle.routine.specs.declared.kinds.SignalKind.{SignalKind}
use Rattle.routine.specs.Kinds.{shape_at, Shape, no_part, one_part, two_parts}
use Rattle.routine.specs.Tree.{tree_at, node}
use Rattle.routine.proofs.Once.{every}
use Rattle.routine.proofs.Trees.{Rising, unroll, trees, Part, Under, self, part, under_below}
use Rattle.rules.specs.Legal.{row_legal, Legal, open_legal}
use Rattle.rules.specs.Rules.{Mark, is_live, at}
use Rattle.rules.proofs.MarkedTrees.{live, LegalTree}
use Rattle.rules.proofs.MarksIntoTrees.{marked}
use Rattle.rules.proofs.TableTests.{Table}

-- the mark of each statement is legal for the marks of its parts
abbrev pub LegalMarks : List Kind → List Mark → Type 0
LegalMarks ks ms = (i : ℕ) → i < length ks → row_legal ms i (shape_at ks i) ≡ true

row_of : (a b c : Bool) → (a && (b && c)) ≡ true → b ≡ true
row_of a b c h = grind arith

-- legal marks are so statement by statement
pub rows : (in_instant : Bool) (ks : List Kind) (ms : List Mark) → Legal in_instant ks ms
    → LegalMarks ks ms
rows in_instant ks ms L i l =
    row_of _ (row_legal ms i (shape_at ks i)) (open_legal in_instant ks ms i) (L.each i l)

module _ (ks : List Kind) (S : Rising ks) (ms : List Mark) where
  -- a statement's tree is live where its mark is
  pub root_live : (i : ℕ) → i < length ks → live (marked (tree_at ks i) ms) ≡ is_live (at ms i)
  root_live i l = subst (λ t. live (marked t ms) ≡ is_live (at ms i)) (sym (unroll ks S i l))
      (root (shape_at ks i))
    where
      root : (r : Shape) → live (marked (node i r (tree_at ks)) ms) ≡ is_live (at ms i)
      root (no_part k) = refl
      root (one_part k a) = refl
      root (two_parts k a b) = refl

  -- where each row is legal, the tree of each statement is
  pub legal_to : LegalMarks ks ms → (i : ℕ) → i < length ks → LegalTree (marked (tree_at ks i) ms)
  legal_to L = trees ks S (λ i t. LegalTree (marked t ms))
      (λ i l g. at_row i (shape_at ks i) (L i l) (λ a h. root_live a (S i l a h).1) g)
    where
      at_row : (i : ℕ) (r : Shape) → row_legal ms i r ≡ true
          → ((a : ℕ) → Part r a → live (marked (tree_at ks a) ms) ≡ is_live (at ms a))
          → ((a : ℕ) → Part r a → LegalTree (marked (tree_at ks a) ms))
          → LegalTree (marked (node i r (tree_at ks)) ms)
      at_row i (no_part k) o v g = o
      at_row i (one_part k a) o v g = (rw (v a refl) o, g a refl)
      at_row i (two_parts k a b) o v g =
          (rw (v a (inl refl), v b (inr refl)) o, g a (inl refl), g b (inr refl))

  -- where a tree is legal, its row is and the trees of its parts are
  pub legal_row : (i : ℕ) → i < length ks → LegalTree (marked (tree_at ks i) ms)
      → (row_legal ms i (shape_at ks i) ≡ true)
      × ((a : ℕ) → Part (shape_at ks i) a → LegalTree (marked (tree_at ks a) ms))
  legal_row i l g = at_row (shape_at ks i) (λ a h. root_live a (S i l a h).1)
      (subst (λ t. LegalTree (marked t ms)) (unroll ks S i l) g)
    where
      at_row : (r : Shape) → ((a : ℕ) → Part r a
          → live (marked (tree_at ks a) ms) ≡ is_live (at ms a))
          → LegalTree (marked (node i r (tree_at ks)) ms)
          → (row_legal ms i r ≡ true) × ((a : ℕ) → Part r a → LegalTree (marked (tree_at ks a) ms))
      at_row (no_part k) v g = (g, λ a h. absurd h)
      at_row (one_part k a) v g = (rw (v a refl) at g.0, λ b h. rw h g.1)
      at_row (two_parts k a b) v g = (
        rw (v a (inl refl), v b (inr refl)) at g.0,
        λ c h. elim h [ inl e ↦ rw e g.1 | inr e ↦ rw e g.2 ],
      )

  -- and so is the tree of each statement under it
  pub legal_from : {i j : ℕ} → i < length ks → LegalTree (marked (tree_at ks i) ms)
      → Under ks i j → LegalTree (marked (tree_at ks j) ms)
  legal_from l g self = g
  legal_from l g (part {j = j} {a = a} u h) =
      (legal_row j (under_below ks S l u).1 (legal_from l g u)).1 a h

module _ (ks : List Kind) (gs : List SignalKind) (T : Table ks gs) where
  -- from statement by statement to the whole tree, and back
  pub to_legal : (ms : List Mark) → LegalMarks ks ms → LegalTree (marked (tree_at ks 0) ms)
  to_legal ms L = legal_to ks T.shaped ms L 0 T.some_row

  pub from_legal : (ms : List Mark) → LegalTree (marked (tree_at ks 0) ms) → LegalMarks ks ms
  from_legal ms L i l = (legal_row ks T.shaped ms i l
      (legal_from ks T.shaped ms T.some_row L
      (every ks T.shaped T.once (suc i) i T.some_row (omega arith) l))).0
