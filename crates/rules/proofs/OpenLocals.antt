-- open locals of a tree: none lies inside a shut one, and none outlasts the instant
use Rattle.std.proofs.Common.{Bool, false, true, not, ◌&&◌, ◌||◌, ◌≡◌, refl, arith, inl, inr, ℕ}
use Rattle.std.proofs.lemmas.Bool.{and_parts, or_right}
use Rattle.rules.specs.Legal.{is_underway, one_legal, two_legal}
use Rattle.rules.specs.Rules.{Mark, One, loop, kill, local, shut, sequence, parallel, when, Signals}
use Rattle.rules.specs.Rules.{Two, two_over}
use Rattle.rules.proofs.MarkedTrees.{Marked, mleaf, mone, mtwo, rest, LegalTree, live, begin, Over}
use Rattle.rules.proofs.MarkedTrees.{ReadyOne, after_one, ReadyTwo, after_two, Opened, Pos, ReadyAt}
use Rattle.rules.proofs.MarkedTrees.{after, here, left, right, is_over}
use Rattle.rules.proofs.QuietInside.{idle_not_over, over_says}
use Rattle.rules.proofs.ClosedTrees.{close_one, close_two, close}

-- an open local stands here
abbrev pub opens : Mark → One → Bool
opens m loop = false
opens m (kill s) = false
opens m (local s) = is_underway m

-- no local of the tree is open
abbrev pub no_open : Marked → Bool
no_open (mleaf n k m) = true
no_open (mone n k m p) = not (opens m k) && no_open p
no_open (mtwo n k m p q) = no_open p && no_open q

-- no open local lies inside a shut one
abbrev pub nested : Marked → Bool
nested (mleaf n k m) = true
nested (mone n k m p) = nested p && (not (shut m k) || no_open p)
nested (mtwo n k m p q) = nested p && nested q

-- none is where all was idled
pub rest_closed : (t : Marked) → no_open (rest t) ≡ true
rest_closed (mleaf n k m) = refl
rest_closed (mone n k m p) = let h = rest_closed p in grind arith
rest_closed (mtwo n k m p q) = let h = rest_closed p in let g = rest_closed q in grind arith

-- where none is open, none lies inside a shut one
closed_nested : (t : Marked) → no_open t ≡ true → nested t ≡ true
closed_nested (mleaf n k m) h = refl
closed_nested (mone n k m p) h = let g = closed_nested p in grind arith
closed_nested (mtwo n k m p q) h = let g = closed_nested p in let f = closed_nested q in grind arith

idle_closed : (t : Marked) → LegalTree t → live t ≡ false → no_open t ≡ true
idle_closed (mleaf n k m) l b = refl
idle_closed (mone n k m p) l b = let h = idle_closed p l.1 in grind arith
idle_closed (mtwo n k m p q) l b = let h = idle_closed p l.1 in let g = idle_closed q l.2 in
    grind arith

-- nor after a begin
pub begin_closed : (t : Marked) → no_open t ≡ true → no_open (begin t) ≡ true
begin_closed (mleaf n k m) h = refl
begin_closed (mone n k m p) h = let g = begin_closed p in grind arith
begin_closed (mtwo n k m p q) h = let g = begin_closed p in let f = begin_closed q in grind arith

over_closed : (t : Marked) → LegalTree t → Over t → no_open t ≡ true
over_closed (mleaf n k m) l o = refl
over_closed (mone n k m p) l o = let h = idle_closed p l.1 in grind arith
over_closed (mtwo n sequence m p q) l o =
    let h = over_closed q l.2 o in let g = idle_closed p l.1 in let u = idle_not_over q l.2 in
    grind arith
over_closed (mtwo n parallel m p q) l o = let h = over_closed p l.1 o.0 in
    let g = over_closed q l.2 o.1 in grind arith
over_closed (mtwo n (when s) m p q) l (inl o) =
    let h = over_closed p l.1 o in let g = idle_closed q l.2 in let u = idle_not_over p l.1 in
    grind arith
over_closed (mtwo n (when s) m p q) l (inr o) =
    let h = over_closed q l.2 o in let g = idle_closed p l.1 in let u = idle_not_over q l.2 in
    grind arith

-- a step
one_here : (n : ℕ) (k : One) (m : Mark) (p : Marked) → one_legal m k (live p) ≡ true
    → nested p ≡ true → ReadyOne m k p
    → (live p ≡ false → nested (begin p) ≡ true) → nested (rest p) ≡ true
    → nested (after_one n m k p) ≡ true
one_here n k m p o h r f g = grind arith

two_here : (e : Signals) (n : ℕ) (k : Two) (m : Mark) (p q : Marked)
    → two_legal m k (live p) (live q) ≡ true → nested p ≡ true → nested q ≡ true
    → ReadyTwo e m k p → (live p ≡ false → nested (begin p) ≡ true)
    → (live q ≡ false → nested (begin q) ≡ true) → nested (rest p) ≡ true
    → (live p ≡ false → ¬ (Over p)) → nested (after_two n m k p q) ≡ true
two_here e n k m p q o h g r f f' i w = grind arith

fresh_nested : (t : Marked) → LegalTree t → live t ≡ false → nested (begin t) ≡ true
fresh_nested t l b = closed_nested (begin t) (begin_closed t (idle_closed t l b))

rest_nested : (t : Marked) → nested (rest t) ≡ true
rest_nested t = closed_nested (rest t) (rest_closed t)

one_in : (m : Mark) (k : One) (b c : Bool) → Opened m k → c ≡ true
    → (c && (not (shut m k) || b)) ≡ true
one_in m k b c o h = grind arith

-- a step leaves no open local inside a shut one
pub after_nested : (e : Signals) (t : Marked) → LegalTree t → nested t ≡ true → (x : Pos)
    → ReadyAt e t x → nested (after t x) ≡ true
after_nested e (mleaf n k m) l h here r = refl
after_nested e (mleaf n k m) l h (left x) r = refl
after_nested e (mleaf n k m) l h (right x) r = refl
after_nested e (mone n k m p) l h here r =
    one_here n k m p l.0 (and_parts _ _ h).0 r (fresh_nested p l.1) (rest_nested p)
after_nested e (mone n k m p) l h (left x) r =
    one_in m k (no_open (after p x)) (nested (after p x)) r.0
    (after_nested e p l.1 (and_parts _ _ h).0 x r.1)
after_nested e (mone n k m p) l h (right x) r = absurd r
after_nested e (mtwo n k m p q) l h here r =
    let u = and_parts (nested p) (nested q) h in
    two_here e n k m p q l.0 u.0 u.1 r (fresh_nested p l.1) (fresh_nested q l.2) (rest_nested p)
    (idle_not_over p l.1)
after_nested e (mtwo n k m p q) l h (left x) r =
    let u = and_parts (nested p) (nested q) h in let a = after_nested e p l.1 u.0 x r in
    let b = u.1 in grind arith
after_nested e (mtwo n k m p q) l h (right x) r =
    let u = and_parts (nested p) (nested q) h in let a = after_nested e q l.2 u.1 x r in
    let b = u.0 in grind arith

-- the end of the instant
one_ends : (e : Signals) (n : ℕ) (m : Mark) (k : One) (p c : Marked) → one_legal m k (live p) ≡ true
    → no_open c ≡ true → (live p ≡ false → no_open p ≡ true)
    → no_open (rest p) ≡ true → no_open (close_one e n m k p c) ≡ true
one_ends e n m k p c o h f g = grind arith

two_ends : (n : ℕ) (m : Mark) (k : Two) (o : Bool) (p q c d : Marked)
    → two_legal m k (live p) (live q) ≡ true → no_open c ≡ true → no_open d ≡ true
    → (live p ≡ false → no_open p ≡ true) → (live q ≡ false → no_open q ≡ true)
    → (live q ≡ false → no_open (begin q) ≡ true)
    → (o ≡ true → (no_open p && no_open q) ≡ true) → no_open (close_two n m k o p q c d) ≡ true
two_ends n m k o p q c d v h g f f' b w = grind arith

two_is_over : (n : ℕ) (k : Two) (m : Mark) (p q : Marked) → LegalTree (mtwo n k m p q)
    → two_over k (is_over p) (is_over q) ≡ true → (no_open p && no_open q) ≡ true
two_is_over n k m p q l o =
    over_closed (mtwo n k m p q) l (over_says (mtwo n k m p q) l (or_right _ _ o))

-- the end of the instant leaves no local open
pub close_closed : (e : Signals) (t : Marked) → LegalTree t → no_open (close e t) ≡ true
close_closed e (mleaf n k m) l = refl
close_closed e (mone n k m p) l =
    one_ends e n m k p (close e p) l.0 (close_closed e p l.1) (idle_closed p l.1) (rest_closed p)
close_closed e (mtwo n k m p q) l =
    two_ends n m k (two_over k (is_over p) (is_over q)) p q (close e p) (close e q) l.0
    (close_closed e p l.1) (close_closed e q l.2)
    (idle_closed p l.1) (idle_closed q l.2) (λ b. begin_closed q (idle_closed q l.2 b))
    (two_is_over n k m p q l)
