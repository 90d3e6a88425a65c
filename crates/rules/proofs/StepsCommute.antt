-- two steps of a tree that are ready can be taken in either order
use Rattle.std.proofs.Common.{List, ℕ, set, ◌≡◌, [], refl, ◌∷◌, zero, suc, ap, Bool, get_or, false}
use Rattle.std.proofs.Common.{true, arith, get_or-set_other, inr, sym, ◌∙◌}
use Rattle.std.proofs.lemmas.List.{set_comm}
use Rattle.rules.specs.Rules.{Effect, Tree, no_effect, raises, drops, Signals, apply}
use Rattle.rules.proofs.MarkedTrees.{Marked, Pos, effect_at, unmarked, mleaf, mone, mtwo, Present}
use Rattle.rules.proofs.MarkedTrees.{ReadyAt, after, LegalTree}
use Rattle.rules.proofs.TreeScopes.{Names, Binds, Scoped}
use Rattle.rules.proofs.QuietInside.{one_alone, two_alone}

-- what two writes of one value leave, in either order
set_twice : {A : Type 0} (e : List A) (a b : ℕ) (u : A) → set (set e a u) b u ≡ set (set e b u) a u
set_twice [] a b u = refl
set_twice (x ∷ e) zero zero u = refl
set_twice (x ∷ e) zero (suc b) u = refl
set_twice (x ∷ e) (suc a) zero u = refl
set_twice {A} (x ∷ e) (suc a) (suc b) u = ap (λ (r : List A). x ∷ r) (set_twice e a b u)

-- what is present stays so where another signal is raised
set_more : (e : List Bool) (a b : ℕ) → get_or e b false ≡ true
    → get_or (set e a true) b false ≡ true
set_more [] a b h = h
set_more (x ∷ e) zero zero h = refl
set_more (x ∷ e) zero (suc b) h = h
set_more (x ∷ e) (suc a) zero h = h
set_more (x ∷ e) (suc a) (suc b) h = set_more e a b h

-- what a step's effect says of the tree
abbrev Touches : Effect → Tree → Type 0
Touches no_effect t = Unit {0}
Touches (raises s) t = Names t s
Touches (drops s) t = Binds t s

touches : (t : Marked) (x : Pos) → Touches (effect_at t x) (unmarked t)
touches (mleaf n k m) x = grind arith
touches (mone n k m p) x = let h = touches p in grind arith
touches (mtwo n k m p q) x = let h = touches p in let g = touches q in grind arith

-- two effects that may change places
abbrev Apart : Effect → Effect → Type 0
Apart no_effect g = Unit {0}
Apart (raises a) no_effect = Unit {0}
Apart (raises a) (raises b) = Unit {0}
Apart (raises a) (drops b) = ¬ (a ≡ b)
Apart (drops a) no_effect = Unit {0}
Apart (drops a) (raises b) = ¬ (a ≡ b)
Apart (drops a) (drops b) = Unit {0}

effects_commute : (f g : Effect) → Apart f g → (e : Signals)
    → apply g (apply f e) ≡ apply f (apply g e)
effects_commute f g d e = grind (arith, set_twice, set_comm)

-- a step in one of two parts leaves the other's as they are: what is local to the one is not named
-- in the other
abbrev Clear : Marked → Marked → Type 0
Clear p q =
    ((s : ℕ) → Binds (unmarked p) s → ¬ (Names (unmarked q) s))
    × ((s : ℕ) → Binds (unmarked q) s → ¬ (Names (unmarked p) s))

apart : (f g : Effect) (p q : Marked) → Clear p q → Touches f (unmarked p) → Touches g (unmarked q)
    → Apart f g
apart f g p q c h k = grind arith

-- what is present stays so under an effect that drops nothing named here
spares : (e : Signals) (f : Effect) (p q : Marked) → Clear p q → Touches f (unmarked p)
    → (s : ℕ) → Names (unmarked q) s → Present e s → Present (apply f e) s
spares e f p q c h s k r = grind (arith, set_more, get_or-set_other)

module _ (e e' : Signals) where
  ready_still : (t : Marked) (x : Pos)
      → ((s : ℕ) → Names (unmarked t) s → Present e s → Present e' s)
      → ReadyAt e t x → ReadyAt e' t x
  ready_still (mleaf n k m) x h r = grind arith
  ready_still (mone n k m p) x h r = let g = ready_still p in grind arith
  ready_still (mtwo n k m p q) x h r = let g = ready_still p in let f = ready_still q in grind arith

aside : (e : Signals) (p q : Marked) → Clear p q → (x y : Pos) → ReadyAt e q y
    → ReadyAt (apply (effect_at p x) e) q y × Apart (effect_at p x) (effect_at q y)
aside e p q c x y r = (
  ready_still e (apply (effect_at p x) e) q y (spares e (effect_at p x) p q c (touches p x)) r,
  apart (effect_at p x) (effect_at q y) p q c (touches p x) (touches q y),
)

-- what holds of the steps at x and at y, by induction on the tree
record Joins (e : Signals) (t : Marked) (x y : Pos) : Type 0 where
  ready : ReadyAt (apply (effect_at t x) e) (after t x) y
  marks : after (after t x) y ≡ after (after t y) x
  kind : effect_at (after t x) y ≡ effect_at t y
  apart : Apart (effect_at t x) (effect_at t y)

module _ (e : Signals) where
  joins : (t : Marked) → LegalTree t → Scoped (unmarked t) → (x y : Pos) → ¬ (x ≡ y) → ReadyAt e t x
      → ReadyAt e t y → Joins e t x y
  joins (mleaf n k m) l c x y d r r' = grind arith
  joins (mone n k m p) l c x y d r r' = let a = one_alone e n k m p l in let h = joins p l.1 c.1 in
      grind arith
  joins (mtwo n k m p q) l c x y d r r' =
      let a = two_alone e n k m p q l in
      let s = aside e p q (λ s b u. c.0 s b (inr u), λ s b u. c.1 s b (inr u)) in
      let s' = aside e q p (λ s b u. c.1 s b (inr u), λ s b u. c.0 s b (inr u)) in
      let h = joins p l.1 c.2 in
      let g = joins q l.2 c.3 in
      grind arith

-- the steps at x and at y, in either order
pub record Commute (e : Signals) (t : Marked) (x y : Pos) : Type 0 where
  pub ready : ReadyAt (apply (effect_at t x) e) (after t x) y
  pub marks : after (after t x) y ≡ after (after t y) x
  pub signals : apply (effect_at (after t x) y) (apply (effect_at t x) e)
      ≡ apply (effect_at (after t y) x) (apply (effect_at t y) e)

-- so they can be taken in either order
pub commute : (e : Signals) (t : Marked) → LegalTree t → Scoped (unmarked t) → (x y : Pos)
    → ¬ (x ≡ y) → ReadyAt e t x → ReadyAt e t y → Commute e t x y
commute e t l c x y d r r' =
    let h = joins e t l c x y d r r' in
    let g = joins e t l c y x (λ z. d (sym z)) r' r in
    record {
      ready = h.ready;
      marks = h.marks;
      signals = ap (λ f. apply f (apply (effect_at t x) e)) h.kind
          ∙ effects_commute (effect_at t x) (effect_at t y) h.apart e
          ∙ sym (ap (λ f. apply f (apply (effect_at t y) e)) g.kind);
    }
