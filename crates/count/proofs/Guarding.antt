-- the guards of a routine and its waiters, worked out from its kinds
use Rattle.std.proofs.Common.{◌≡◌, ℕ, ◌+◌, ◌<◌, ◌≤◌, List, length, set, sym, refl, ◌∙◌, subst, inl}
use Rattle.std.proofs.Common.{inr, arith, get_or-set_same, get_or-set_other, length-set}
use native.Mathlib.Decide.{ℕ_discrete}
use Rattle.routine.specs.declared.kinds.Kind.{Kind}
use Rattle.routine.specs.declared.tables.TheConstants.{MOST_STATEMENTS}
use Rattle.routine.specs.Kinds.{Two, sequence, parallel, when, Shape, no_part, one_part, two_parts}
use Rattle.routine.specs.Kinds.{shape_at}
use Rattle.routine.proofs.Trees.{Part, Rising, Under, self}
use Rattle.routine.proofs.Once.{Once, one_owner, disjoint}
use Rattle.count.specs.Front.{entry, Guards, Awaits, with_guards}
use Rattle.count.proofs.Aside.{PartsGuarded, from_parts}

-- the guards of the parts of the statements below i
pub record Guarded (ks : List Kind) (vs : List ℕ) (i : ℕ) : Type 0 where
  pub size : length vs ≡ MOST_STATEMENTS
  pub below : (j : ℕ) → j < i → PartsGuarded vs j (shape_at ks j)

size_with : (vs : List ℕ) (i : ℕ) (r : Shape) → length (with_guards vs i r) ≡ length vs
size_with vs i (no_part k) = refl
size_with vs i (one_part k a) = length-set vs a i
size_with vs i (two_parts sequence a b) = length-set _ b _ ∙ length-set vs a i
size_with vs i (two_parts parallel a b) = length-set _ b _ ∙ length-set vs a _
size_with vs i (two_parts (when s) a b) = length-set _ b _ ∙ length-set vs a _

other_set : (vs : List ℕ) (a x j : ℕ) → ¬ (j ≡ a) → entry (set vs a x) j ≡ entry vs j
other_set vs a x j d = get_or-set_other vs a j x 0 d

-- only those of the parts of i are written
other_with : (vs : List ℕ) (i : ℕ) (r : Shape) (j : ℕ) → ¬ (Part r j)
    → entry (with_guards vs i r) j ≡ entry vs j
other_with vs i (no_part k) j d = refl
other_with vs i (one_part k a) j d = other_set vs a i j d
other_with vs i (two_parts sequence a b) j d =
    other_set _ b _ j (λ e. d (inr e)) ∙ other_set vs a i j (λ e. d (inl e))
other_with vs i (two_parts parallel a b) j d =
    other_set _ b _ j (λ e. d (inr e)) ∙ other_set vs a _ j (λ e. d (inl e))
other_with vs i (two_parts (when s) a b) j d =
    other_set _ b _ j (λ e. d (inr e)) ∙ other_set vs a _ j (λ e. d (inl e))

same_guards : (vs us : List ℕ) (i : ℕ) (r : Shape) → entry us i ≡ entry vs i
    → ((a : ℕ) → Part r a → entry us a ≡ entry vs a) → PartsGuarded vs i r → PartsGuarded us i r
same_guards vs us i (no_part k) e f h = tt
same_guards vs us i (one_part k a) e f h = f a refl ∙ h
same_guards vs us i (two_parts sequence a b) e f h =
    (f a (inl refl) ∙ h.0, f b (inr refl) ∙ h.1 ∙ sym e)
same_guards vs us i (two_parts parallel a b) e f h =
    (f a (inl refl) ∙ h.0 ∙ sym e, f b (inr refl) ∙ h.1 ∙ sym e)
same_guards vs us i (two_parts (when s) a b) e f h =
    (f a (inl refl) ∙ h.0 ∙ sym e, f b (inr refl) ∙ h.1 ∙ sym e)

-- all of them
pub guarded_all : (ks : List Kind) (vs : List ℕ) (i : ℕ) → length ks ≤ i → Guarded ks vs i
    → Guards ks vs
guarded_all ks vs i l h j b = from_parts vs j (shape_at ks j) (h.below j (omega arith))

module _ (ks : List Kind) (S : Rising ks) (O : Once ks) (few : length ks ≤ MOST_STATEMENTS) where
  written : (vs : List ℕ) (a b x y : ℕ) → length vs ≡ MOST_STATEMENTS → a < MOST_STATEMENTS
      → b < MOST_STATEMENTS → ¬ (a ≡ b)
      → (entry (set (set vs a x) b y) a ≡ x) × (entry (set (set vs a x) b y) b ≡ y)
  written vs a b x y e l m d =
      let z = length-set vs a x in (
        other_set (set vs a x) b y a d ∙ get_or-set_same vs a x 0 (omega arith),
        get_or-set_same (set vs a x) b y 0 (omega arith),
      )

  at_row : (vs : List ℕ) (i : ℕ) (r : Shape) → length vs ≡ MOST_STATEMENTS
      → ((a : ℕ) → Part r a → (i < a) × (a < length ks))
      → ((k : Two) (a b : ℕ) → r ≡ two_parts k a b → ¬ (a ≡ b))
      → PartsGuarded (with_guards vs i r) i r
  at_row vs i (no_part k) e s d = tt
  at_row vs i (one_part k a) e s d = let b = s a refl in get_or-set_same vs a i 0 (omega arith)
  at_row vs i (two_parts sequence a b) e s d =
      let x = s a (inl refl) in let y = s b (inr refl) in
      let w = written vs a b i (entry vs i) e (omega arith) (omega arith) (d sequence a b refl) in (
        w.0,
        w.1 ∙ sym (other_with vs i (two_parts sequence a b) i
            (λ p. let z = s i p in omega arith)),
      )
  at_row vs i (two_parts parallel a b) e s d =
      let x = s a (inl refl) in let y = s b (inr refl) in
      let w = written vs a b (entry vs i) (entry vs i) e (omega arith) (omega arith)
      (d parallel a b refl) in
      let o = sym (other_with vs i (two_parts parallel a b) i
      (λ p. let z = s i p in omega arith)) in
      (w.0 ∙ o, w.1 ∙ o)
  at_row vs i (two_parts (when t) a b) e s d =
      let x = s a (inl refl) in let y = s b (inr refl) in
      let w = written vs a b (entry vs i) (entry vs i) e (omega arith) (omega arith)
      (d (when t) a b refl) in
      let o = sym (other_with vs i (two_parts (when t) a b) i
      (λ p. let z = s i p in omega arith)) in
      (w.0 ∙ o, w.1 ∙ o)

  -- those of one statement more
  pub guarded_more : (vs : List ℕ) (i : ℕ) → i < length ks → Guarded ks vs i
      → Guarded ks (with_guards vs i (shape_at ks i)) (i + 1)
  guarded_more vs i l h =
      let us = with_guards vs i (shape_at ks i) in
      record {
        size = size_with vs i (shape_at ks i) ∙ h.size;
        below = λ j b. elim (ℕ_discrete j i) [
          | yes e ↦ subst (λ (m : ℕ). PartsGuarded us m (shape_at ks m)) (sym e)
              (at_row vs i (shape_at ks i) h.size (S i l) (λ k a c x y.
              disjoint ks S O i l k a c x a self (subst (λ m. Under ks m a) y self)))
          | no d ↦
              same_guards vs us j (shape_at ks j)
              (other_with vs i (shape_at ks i) j (λ p. let z = S i l j p in omega arith))
              (λ a p. other_with vs i (shape_at ks i) a
              (λ q. d (one_owner ks S O j i a (omega arith) l p q)))
              (h.below j (omega arith))
        ];
      }

-- for each signal no more than the lowest that awaits it, of those below i
pub record Waited (ks : List Kind) (ws : List ℕ) (i : ℕ) : Type 0 where
  pub below : (j : ℕ) → j < i → (s : ℕ) → Awaits (shape_at ks j) s → entry ws s ≤ j
