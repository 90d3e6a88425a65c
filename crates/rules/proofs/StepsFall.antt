-- each step lets the steps that are left fall, from at most 4 for each statement
use Rattle.std.proofs.Common.{◌≡◌, refl, ap, ap₂, arith, false, Bool, true, ◌≤◌, ℕ, ◌<◌, ◌*◌, cond}
use Rattle.std.proofs.Common.{not, ◌⊎◌, inl, inr}
use Rattle.routine.specs.Tree.{can_end, size}
use Rattle.rules.specs.Legal.{one_legal, two_legal}
use Rattle.rules.specs.Rules.{one, two, Mark, One, is_live, Two, Signals, sequence, parallel, when}
use Rattle.rules.specs.Rules.{Tree, leaf, UnderWay, Idle, Waiting, Done}
use Rattle.rules.proofs.MarkedTrees.{Marked, unmarked, rest, mleaf, mone, mtwo, begin, Pos, after}
use Rattle.rules.proofs.MarkedTrees.{live, LegalTree, Over, ReadyOne, after_one, Opened, ReadyTwo}
use Rattle.rules.proofs.MarkedTrees.{after_two, ReadyAt, here, left, right}
use Rattle.rules.proofs.QuietInside.{idle_not_over, idle_quiet}
use Rattle.rules.proofs.LegalTrees.{rest_legal}
use Rattle.rules.proofs.StepsLeft.{steps_left, may, most, may_two, Loops, Turns}

-- a step changes marks alone
unmarked_rest : (t : Marked) → unmarked (rest t) ≡ unmarked t
unmarked_rest (mleaf n k m) = refl
unmarked_rest (mone n k m p) = ap (one n k) (unmarked_rest p)
unmarked_rest (mtwo n k m p q) = ap₂ (two n k) (unmarked_rest p) (unmarked_rest q)

unmarked_begin : (t : Marked) → unmarked (begin t) ≡ unmarked t
unmarked_begin (mleaf n k m) = refl
unmarked_begin (mone n k m p) = let h = unmarked_begin p in grind arith
unmarked_begin (mtwo n k m p q) =
    let h = unmarked_begin p in
    let g = unmarked_begin q in
    grind arith

unmarked_after : (t : Marked) (x : Pos) → unmarked (after t x) ≡ unmarked t
unmarked_after (mleaf n k m) x = grind arith
unmarked_after (mone n k m p) x =
    let h = unmarked_after p in
    grind (arith, unmarked_rest, unmarked_begin)
unmarked_after (mtwo n k m p q) x =
    let h = unmarked_after p in
    let g = unmarked_after q in
    grind (arith, unmarked_rest, unmarked_begin)

-- of an idle tree
idle_left : (t : Marked) → live t ≡ false → steps_left t ≡ 0
idle_left (mleaf n k m) b = grind arith
idle_left (mone n k m p) b = grind arith
idle_left (mtwo n k m p q) b = grind arith

idle_may : (t : Marked) → live t ≡ false → may t ≡ false
idle_may (mleaf n k m) b = grind arith
idle_may (mone n k m p) b = grind arith
idle_may (mtwo n k m p q) b = grind arith

-- what an idle node says of its parts
idle_one : (m : Mark) (k : One) (b : Bool) → one_legal m k b ≡ true → is_live m ≡ false → b ≡ false
idle_one m k b o i = grind arith

idle_two : (m : Mark) (k : Two) (b c : Bool) → two_legal m k b c ≡ true → is_live m ≡ false
    → (b ≡ false) × (c ≡ false)
idle_two m k b c o i = grind arith

-- of a fresh one
pub record Fresh (t : Marked) : Type 0 where
  pub ending : may (begin t) ≡ can_end (unmarked t)
  pub bound : steps_left (begin t) ≤ most (unmarked t)

one_fresh : (n : ℕ) (k : One) (m : Mark) (p : Marked) → Fresh p → Fresh (mone n k m p)
one_fresh n k m p f = grind arith

two_fresh : (n : ℕ) (k : Two) (m : Mark) (p q : Marked) → steps_left q ≡ 0 → may q ≡ false → Fresh p
    → Fresh q → Fresh (mtwo n k m p q)
two_fresh n k m p q i j f g = grind arith

-- a tree that is idle and legal
pub fresh : (t : Marked) → LegalTree t → live t ≡ false → Fresh t
fresh (mleaf n k m) l b = grind arith
fresh (mone n k m p) l b = one_fresh n k m p (fresh p l.1 (idle_one m k (live p) l.0 b))
fresh (mtwo n k m p q) l b =
    let u = idle_two m k (live p) (live q) l.0 b in
    two_fresh n k m p q (idle_left q u.1) (idle_may q u.1) (fresh p l.1 u.0) (fresh q l.2 u.1)

two_may : (m : Mark) (k : Two) (p q : Marked) (f g : Bool) → two_legal m k (live p) (live q) ≡ true
    → LegalTree p → LegalTree q → (Over p → may p ≡ true) → (Over q → may q ≡ true)
    → (n : ℕ) → Over (mtwo n k m p q) → may_two m k (may p) (may q) f g ≡ true
two_may m k p q f g o l l' h h' n w =
    let i = idle_may p in let j = idle_not_over p in let k = idle_not_over q in
    grind arith

-- what is over may end
pub over_may : (t : Marked) → LegalTree t → Over t → may t ≡ true
over_may (mleaf n k m) l o = grind arith
over_may (mone n k m p) l o = grind arith
over_may (mtwo n k m p q) l o =
    two_may m k p q (can_end (unmarked p)) (can_end (unmarked q)) l.0 l.1 l.2 (over_may p l.1)
    (over_may q l.2) n o

-- from t to u the steps that are left fall, and u may end only if t may
pub record Falls (t u : Marked) : Type 0 where
  pub less : steps_left u < steps_left t
  pub never : may u ≡ true → may t ≡ true

-- the step of a statement of one part, and a step inside it
one_here : (n : ℕ) (k : One) (m : Mark) (p : Marked) → one_legal m k (live p) ≡ true
    → Loops k (can_end (unmarked p)) → ReadyOne m k p
    → (live p ≡ false → Fresh p) → (Over p → may p ≡ true)
    → most (unmarked (rest p)) ≡ most (unmarked p)
    → Falls (mone n k m p) (after_one n m k p)
one_here n k m p o c r f g h = grind arith

one_left : (n : ℕ) (k : One) (m : Mark) (p q : Marked) → one_legal m k (live p) ≡ true
    → live p ≡ true → Opened m k → most (unmarked q) ≡ most (unmarked p) → Falls p q
    → Falls (mone n k m p) (mone n k m q)
one_left n k m p q o b w h f = grind arith

-- the step of a statement of two parts, and a step inside each
two_here : (e : Signals) (n : ℕ) (k : Two) (m : Mark) (p q : Marked)
    → two_legal m k (live p) (live q) ≡ true → ReadyTwo e m k p
    → (live p ≡ false → Fresh p) → (live q ≡ false → Fresh q)
    → (live q ≡ false → (steps_left q ≡ 0) × (may q ≡ false))
    → (Over p → may p ≡ true) → (live p ≡ false → ¬ (Over p)) → steps_left (rest p) ≡ 0
    → may (rest p) ≡ false
    → Falls (mtwo n k m p q) (after_two n m k p q)
two_here e n k m p q o r f g i h w a b = grind arith

two_left : (n : ℕ) (k : Two) (m : Mark) (p q u : Marked) → two_legal m k (live p) (live q) ≡ true
    → live p ≡ true
    → (live q ≡ false → may q ≡ false) → Falls p u → Falls (mtwo n k m p q) (mtwo n k m u q)
two_left n sequence m p q u o b i f = grind arith
two_left n parallel m p q u o b i f = grind arith
two_left n (when s) m p q u o b i f = grind arith

two_right : (n : ℕ) (k : Two) (m : Mark) (p q u : Marked) → two_legal m k (live p) (live q) ≡ true
    → live q ≡ true
    → (live p ≡ false → may p ≡ false) → unmarked u ≡ unmarked q → Falls q u
    → Falls (mtwo n k m p q) (mtwo n k m p u)
two_right n sequence m p q u o b i a f = grind arith
two_right n parallel m p q u o b i a f = grind arith
two_right n (when s) m p q u o b i a f = grind arith

module _ (e : Signals) where
  ready_live : (t : Marked) → LegalTree t → (x : Pos) → ReadyAt e t x → live t ≡ true
  ready_live t l x r = let h = idle_quiet e t l in at (live t) (λ b. h b x r)
    where
      at : (b : Bool) → ¬ (b ≡ false) → b ≡ true
      at b d = grind arith

  -- every step lets them fall
  pub falls : (t : Marked) → LegalTree t → Turns (unmarked t) → (x : Pos) → ReadyAt e t x
      → Falls t (after t x)
  falls (mleaf n k m) l c x r = grind arith
  falls (mone n k m p) l c here r =
      one_here n k m p l.0 c.0 r (fresh p l.1) (over_may p l.1)
      (ap most (unmarked_rest p))
  falls (mone n k m p) l c (left x) r =
      one_left n k m p (after p x) l.0 (ready_live p l.1 x r.1) r.0 (ap most (unmarked_after p x))
      (falls p l.1 c.1 x r.1)
  falls (mone n k m p) l c (right x) r = absurd r
  falls (mtwo n k m p q) l c here r =
      let i = (rest_legal p).1 in
      two_here e n k m p q l.0 r (fresh p l.1) (fresh q l.2) (λ b. (idle_left q b, idle_may q b))
      (over_may p l.1) (idle_not_over p l.1)
      (idle_left (rest p) i) (idle_may (rest p) i)
  falls (mtwo n k m p q) l c (left x) r =
      two_left n k m p q (after p x) l.0 (ready_live p l.1 x r) (idle_may q) (falls p l.1 c.0 x r)
  falls (mtwo n k m p q) l c (right x) r =
      two_right n k m p q (after q x) l.0 (ready_live q l.2 x r) (idle_may p)
      (unmarked_after q x) (falls q l.2 c.1 x r)

-- no more than 2 steps for each statement of a tree that is begun afresh
most_size : (t : Tree) → most t ≤ 2 * size t
most_size (leaf n k) = grind arith
most_size (one n k p) = let h = most_size p in grind arith
most_size (two n k p q) = let h = most_size p in let g = most_size q in grind arith

-- how many steps can be left
pub record Bounded (t : Marked) : Type 0 where
  pub always : steps_left t ≤ 4 * size (unmarked t)
  pub ending : may t ≡ true → steps_left t ≤ 2 * size (unmarked t)

-- the most steps of a tree that is begun afresh fit
abbrev MostFits : Marked → Type 0
MostFits t = most (unmarked t) ≤ 2 * size (unmarked t)

one_bounded : (n : ℕ) (k : One) (m : Mark) (p : Marked) → MostFits p → Bounded p
    → Bounded (mone n k m p)
one_bounded n k m p c h = grind arith

which : (b c : Bool) → cond b (not c) c ≡ true → (c ≡ false) ⊎ (b ≡ false)
which true c h = inl (grind arith)
which false c h = inr refl

-- a sequence under way, its first live and its second idle, and the other way round
first_live : (n : ℕ) (p q : Marked) → (steps_left q ≡ 0) × (may q ≡ false) → MostFits q
    → Bounded p → Bounded (mtwo n sequence UnderWay p q)
first_live n p q w b h = grind arith

second_live : (n : ℕ) (p q : Marked) → (steps_left p ≡ 0) × (may p ≡ false) → Bounded q
    → Bounded (mtwo n sequence UnderWay p q)
second_live n p q w g = grind arith

two_bounded : (n : ℕ) (k : Two) (m : Mark) (p q : Marked) → two_legal m k (live p) (live q) ≡ true
    → MostFits p → MostFits q
    → (live p ≡ false → (steps_left p ≡ 0) × (may p ≡ false))
    → (live q ≡ false → (steps_left q ≡ 0) × (may q ≡ false))
    → Bounded p → Bounded q → Bounded (mtwo n k m p q)
two_bounded n sequence Idle p q o a b i j h g = grind arith
two_bounded n sequence Waiting p q o a b i j h g = grind arith
two_bounded n sequence UnderWay p q o a b i j h g =
    elim (which (live p) (live q) o) [
      | inl u ↦ let w = j u in first_live n p q w b h
      | inr u ↦ let w = i u in second_live n p q w g
    ]
two_bounded n sequence Done p q o a b i j h g = grind arith
two_bounded n parallel m p q o a b i j h g = grind arith
two_bounded n (when s) m p q o a b i j h g = grind arith

-- no more than 4 steps are left for each statement
pub bounded : (t : Marked) → LegalTree t → Bounded t
bounded (mleaf n k m) l = grind arith
bounded (mone n k m p) l = one_bounded n k m p (most_size (unmarked p)) (bounded p l.1)
bounded (mtwo n k m p q) l =
    two_bounded n k m p q l.0 (most_size (unmarked p)) (most_size (unmarked q))
    (λ b. (idle_left p b, idle_may p b)) (λ b. (idle_left q b, idle_may q b))
    (bounded p l.1) (bounded q l.2)
