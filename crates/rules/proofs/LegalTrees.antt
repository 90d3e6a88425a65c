-- the marks of a tree are legal after a begin, an idle and a step
use Rattle.std.proofs.Common.{◌≡◌, false, true, arith, ℕ}
use Rattle.rules.specs.Rules.{Signals, One, Mark, Two}
use Rattle.rules.proofs.MarkedTrees.{Marked, LegalTree, live, begin, mleaf, mone, mtwo, rest, Pos}
use Rattle.rules.proofs.MarkedTrees.{ReadyAt, after, ReadyTwo, here, left, right}
use Rattle.rules.proofs.QuietInside.{idle_quiet, idle_not_over}

-- what is begun where it was idle
pub begin_legal : (t : Marked) → LegalTree t → live t ≡ false
    → LegalTree (begin t) × (live (begin t) ≡ true)
begin_legal (mleaf n k m) l b = grind arith
begin_legal (mone n k m p) l b = let h = begin_legal p in grind arith
begin_legal (mtwo n k m p q) l b = let h = begin_legal p in let g = begin_legal q in grind arith

-- what is idled
pub rest_legal : (t : Marked) → LegalTree (rest t) × (live (rest t) ≡ false)
rest_legal (mleaf n k m) = grind arith
rest_legal (mone n k m p) = let h = rest_legal p in grind arith
rest_legal (mtwo n k m p q) = let h = rest_legal p in let g = rest_legal q in grind arith

-- each of the costly cases stands by itself, over variables: inside the recursion the kernel meets
-- its step limit
abbrev Grows : Marked → Type 0
Grows t = LegalTree t × (live t ≡ true)

one_grows : (e : Signals) (n : ℕ) (k : One) (m : Mark) (p : Marked) (x : Pos)
    → LegalTree (mone n k m p)
    → ((x : Pos) → ReadyAt e p x → Grows (after p x))
    → ReadyAt e (mone n k m p) x → Grows (after (mone n k m p) x)
one_grows e n k m p x l h r = let b = begin_legal p in let c = rest_legal p in
    let i = idle_quiet e p in grind arith

two_grows : (e : Signals) (n : ℕ) (k : Two) (m : Mark) (p q : Marked) → LegalTree (mtwo n k m p q)
    → ReadyTwo e m k p → Grows (after (mtwo n k m p q) here)
two_grows e n k m p q l r = let b = begin_legal p in let b' = begin_legal q in
    let c = rest_legal p in let o = idle_not_over p in grind arith

left_grows : (e : Signals) (n : ℕ) (k : Two) (m : Mark) (p q : Marked) (x : Pos)
    → LegalTree (mtwo n k m p q) → ReadyAt e p x → Grows (after p x)
    → Grows (mtwo n k m (after p x) q)
left_grows e n k m p q x l r h = let i = idle_quiet e p in grind arith

right_grows : (e : Signals) (n : ℕ) (k : Two) (m : Mark) (p q : Marked) (x : Pos)
    → LegalTree (mtwo n k m p q) → ReadyAt e q x → Grows (after q x)
    → Grows (mtwo n k m p (after q x))
right_grows e n k m p q x l r h = let i = idle_quiet e q in grind arith

-- a tree after a step
pub after_legal : (e : Signals) (t : Marked) → LegalTree t → (x : Pos) → ReadyAt e t x
    → Grows (after t x)
after_legal e (mleaf n k m) l x r = grind arith
after_legal e (mone n k m p) l x r = one_grows e n k m p x l (after_legal e p l.1) r
after_legal e (mtwo n k m p q) l here r = two_grows e n k m p q l r
after_legal e (mtwo n k m p q) l (left x) r = left_grows e n k m p q x l r (after_legal e p l.1 x r)
after_legal e (mtwo n k m p q) l (right x) r =
    right_grows e n k m p q x l r (after_legal e q l.2 x r)
