-- one level of the tree, as code takes it
use Rattle.std.proofs.Common.{◌≡◌, ℕ, zero, suc, ◌<◌, ◌≤◌, true, ◌||◌, eqb, List, length, refl, ap}
use Rattle.std.proofs.Common.{◌∙◌, arith, ⊎_elim}
use Rattle.std.proofs.lemmas.Bool.{cases_lt}
use lib.ListN.{get_or-eq_default}
use Rattle.routine.specs.declared.kinds.Kind.{Kind}
use Rattle.routine.specs.declared.kinds.Kind.TheVariants.{Nothing}
use Rattle.routine.specs.Kinds.{Shape, nothing, no_part, one_part, two_parts, shape, shape_at}
use Rattle.routine.specs.Kinds.{kind_at}
use Rattle.routine.specs.Tree.{Tree, leaf, node, tree, tree_at, contains, inside}
use Rattle.routine.specs.Layout.{fits, Formed}
use Rattle.routine.specs.View.{PartsRise}
use Rattle.routine.proofs.Trees.{rising, unroll}

parts_rise : (g n i : ℕ) (k : Kind) → fits g n i k ≡ true → PartsRise n i (shape k)
parts_rise g n i k h = grind arith

past : (ks : List Kind) (i : ℕ) → length ks ≤ i → (f : ℕ) → tree ks f i ≡ leaf i nothing
unfolding tree
past ks i l zero = refl
past ks i l (suc f) = ap (λ (k : Kind). node i (shape k) (tree ks f))
    (get_or-eq_default ks Nothing {n = i} l)

-- what is no statement has no parts
level_past : (ks : List Kind) (n i : ℕ) (k : Kind) → length ks ≡ n → n ≤ i → k ≡ kind_at ks i
    → PartsRise n i (shape k) × (tree_at ks i ≡ node i (shape k) (tree_at ks))
unfolding tree_at
level_past ks n i k e l r =
    let z : k ≡ Nothing = r ∙ get_or-eq_default ks Nothing {n = i} (omega arith) in
    rw z (tt, past ks i (omega arith) (length ks))

-- a statement's parts lie above it, and its tree is one level over theirs
pub level : (g : ℕ) (ks : List Kind) (n i : ℕ) (k : Kind) → Formed g ks → length ks ≡ n
    → k ≡ kind_at ks i
    → PartsRise n i (shape k) × (tree_at ks i ≡ node i (shape k) (tree_at ks))
level g ks n i k f e r =
    ⊎_elim
    (λ (l : i < n).
    let l' : i < length ks = omega arith in
    (rw (r, ← e) (parts_rise g _ i _ (f i l')), rw r (unroll ks (rising g ks f) i l')))
    (λ (l : n ≤ i). level_past ks n i k e l r)
    (cases_lt i n)

-- a statement contains itself and what lies inside it
pub contains_either : (ks : List Kind) (i k : ℕ)
    → contains (tree_at ks i) k ≡ (eqb k i || inside (tree_at ks i) k)
unfolding tree_at tree
contains_either ks i k = go (length ks)
  where
    by_shape : (s : Shape) (sub : ℕ → Tree)
        → contains (node i s sub) k ≡ (eqb k i || inside (node i s sub) k)
    by_shape (no_part l) sub = grind arith
    by_shape (one_part l a) sub = refl
    by_shape (two_parts l a b) sub = refl

    go : (f : ℕ) → contains (tree ks f i) k ≡ (eqb k i || inside (tree ks f i) k)
    go zero = grind arith
    go (suc f) = by_shape (shape_at ks i) (tree ks f)
