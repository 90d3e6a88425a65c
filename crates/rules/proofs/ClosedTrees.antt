-- the end of an instant on a tree with its marks: it is that over lists, and leaves legal marks
use Rattle.std.proofs.Common.{ℕ, cond, get_or, false, Bool, List, set, arith, length-set}
use Rattle.std.proofs.Common.{get_or-set_other, ◌≡◌, length, ◌<◌, ◌∙◌, inr, inl, refl}
use Rattle.std.proofs.Common.{get_or-set_same, true}
use Rattle.routine.proofs.Once.{Distinct}
use Rattle.routine.proofs.Trees.{In}
use Rattle.rules.specs.Rules.{Mark, Leaf, Idle, Waiting, nothing, stop, Done, emit, wait, UnderWay}
use Rattle.rules.specs.Rules.{Signals, One, loop, kill, local, Two, sequence, parallel, when}
use Rattle.rules.specs.Rules.{two_over, Tree, one, one_ended, two, two_ended, ended, leaf, at, over}
use Rattle.rules.specs.Rules.{begun, is_live}
use Rattle.rules.proofs.MarkedTrees.{Marked, mone, rest, mtwo, begin, mleaf, is_over, LegalTree}
use Rattle.rules.proofs.MarkedTrees.{live}
use Rattle.rules.proofs.LegalTrees.{rest_legal, begin_legal}
use Rattle.rules.proofs.MarksIntoTrees.{marked}
use Rattle.rules.proofs.Frames.{Kept, idled_kept, begun_kept, Fits, unset, unseen, over_same}
use Rattle.rules.proofs.StepsAtPositions.{set_own, idled_own, begun_own}

-- a leaf, a statement of one part, and one of two, after the end; c, d: the parts after it
abbrev pub close_leaf : Mark → Leaf → Mark
close_leaf Idle k = Idle
close_leaf Waiting nothing = Waiting
close_leaf Waiting stop = Done
close_leaf Waiting (emit s) = Waiting
close_leaf Waiting (wait s) = Waiting
close_leaf UnderWay k = UnderWay
close_leaf Done k = Done

abbrev pub close_one : Signals → ℕ → Mark → One → Marked → Marked → Marked
close_one e n Idle k p c = mone n k Idle p
close_one e n Waiting loop p c = mone n loop Waiting p
close_one e n Waiting (kill s) p c = mone n (kill s) Waiting p
close_one e n Waiting (local s) p c = mone n (local s) Waiting c
close_one e n UnderWay loop p c = mone n loop UnderWay c
close_one e n UnderWay (kill s) p c =
    cond (get_or e s false) (mone n (kill s) Done (rest p)) (mone n (kill s) UnderWay c)
close_one e n UnderWay (local s) p c = mone n (local s) Waiting c
close_one e n Done k p c = mone n k Done p

abbrev pub close_two : ℕ → Mark → Two → Bool → Marked → Marked → Marked → Marked → Marked
close_two n Idle k o p q c d = mtwo n k Idle p q
close_two n Waiting sequence o p q c d = mtwo n sequence Waiting p q
close_two n Waiting parallel o p q c d = mtwo n parallel Waiting p q
close_two n Waiting (when s) o p q c d = mtwo n (when s) UnderWay p (begin q)
close_two n UnderWay k o p q c d = cond o (mtwo n k UnderWay p q) (mtwo n k UnderWay c d)
close_two n Done k o p q c d = mtwo n k Done p q

-- a tree after the end of the instant
abbrev pub close : Signals → Marked → Marked
close e (mleaf n k m) = mleaf n k (close_leaf m k)
close e (mone n k m p) = close_one e n m k p (close e p)
close e (mtwo n k m p q) =
    close_two n m k (two_over k (is_over p) (is_over q)) p q (close e p) (close e q)

-- the parts' facts only at the lists that are met: with the general fact in reach `grind` takes it
-- at ever more lists
one_ended_kept : (n : ℕ) (m : Mark) (k : One) (p : Tree) (go : List Mark → List Mark)
    (ms : List Mark) (e : Signals)
    → Kept (In p) ms (go ms) → Kept (In p) (set ms n Waiting) (go (set ms n Waiting))
    → Kept (In (one n k p)) ms (one_ended n m k p go ms e)
one_ended_kept n m k p go ms e a b = let c = idled_kept p (set ms n Done) in
    grind (arith, length-set, get_or-set_other)

two_ended_kept : (n : ℕ) (m : Mark) (k : Two) (o : Bool) (p q : Tree)
    (go go' : List Mark → List Mark) (ms : List Mark)
    → Kept (In p) ms (go ms) → Kept (In q) (go ms) (go' (go ms))
    → Kept (In (two n k p q)) ms (two_ended n m k o q go go' ms)
two_ended_kept n m k o p q go go' ms a b = let c = begun_kept q (set ms n UnderWay) in
    grind (arith, length-set, get_or-set_other)

-- the end of an instant changes marks inside the tree alone
pub ended_kept : (t : Tree) (ms : List Mark) (e : Signals) → Kept (In t) ms (ended t ms e)
ended_kept (leaf n k) ms e = let m = at ms n in grind (arith, length-set, get_or-set_other)
ended_kept (one n k p) ms e =
    one_ended_kept n (at ms n) k p (λ ns. ended p ns e) ms e (ended_kept p ms e)
    (ended_kept p (set ms n Waiting) e)
ended_kept (two n k p q) ms e =
    two_ended_kept n (at ms n) k (two_over k (over p ms) (over q ms)) p q (λ ns. ended p ns e)
    (λ ns. ended q ns e) ms (ended_kept p ms e) (ended_kept q (ended p ms e) e)

module _ (N : ℕ) (e : Signals) where
  one_ends : (n : ℕ) (m : Mark) (k : One) (p : Tree) (ms : List Mark) → m ≡ at ms n → ¬ (In p n)
      → Distinct p → Fits N p → length ms ≡ N → n < N
      → ((ns : List Mark) → length ns ≡ N → marked p (ended p ns e) ≡ close e (marked p ns))
      → marked (one n k p) (one_ended n m k p (λ ns. ended p ns e) ms e)
      ≡ close_one e n m k (marked p ms) (close e (marked p ms))
  one_ends n m k p ms x d g f l b h =
      let a₁ = h ms l in
      let a₂ = h (set ms n Waiting) (length-set ms n Waiting ∙ l) in
      let a₃ = unset p ms n Waiting d in
      let a₄ = set_own N n p ms d g f l b Waiting in
      let a₅ = idled_own N n p ms d g f l b Done in
      let a₆ = (ended_kept p ms e).other n d in
      let a₇ = (ended_kept p (set ms n Waiting) e).other n d in
      grind arith

  two_ends : (n : ℕ) (m : Mark) (k : Two) (o : Bool) (p q : Tree) (ms : List Mark) → m ≡ at ms n
      → Distinct (two n k p q) → Fits N (two n k p q) → length ms ≡ N
      → marked p (ended p ms e) ≡ close e (marked p ms)
      → ((ns : List Mark) → length ns ≡ N → marked q (ended q ns e) ≡ close e (marked q ns))
      → marked (two n k p q) (two_ended n m k o q (λ ns. ended p ns e) (λ ns. ended q ns e) ms)
      ≡ close_two n m k o (marked p ms) (marked q ms) (close e (marked p ms))
      (close e (marked q ms))
  two_ends n m k o p q ms x d f l h g =
      let ns = ended p ms e in
      let c = ended_kept p ms e in
      let c' = ended_kept q ns e in
      let a₁ = g ns (c.length ∙ l) in
      let a₂ = unseen q ms ns c (λ i u v. d.2 i v u) in
      let a₃ = unseen p ns (ended q ns e) c' d.2 in
      let a₄ = c.other n d.0 in
      let a₅ = c'.other n d.1 in
      let a₆ = begun_own N n q ms d.1 d.4 (λ i u. f i (inr (inr u))) l (f n (inl refl)) UnderWay in
      let us = set ms n UnderWay in
      let a₇ = unseen p us (begun q us) (begun_kept q us) d.2 ∙ unset p ms n UnderWay d.0 in
      grind arith

  -- the end over a list is the end of the tree with its marks
  pub ended_same : (t : Tree) (ms : List Mark) → Distinct t → Fits N t → length ms ≡ N
      → marked t (ended t ms e) ≡ close e (marked t ms)
  ended_same (leaf n k) ms d f l =
      let a = get_or-set_same ms n Done Idle (let a = f n refl in omega arith) in
      grind arith
  ended_same (one n k p) ms d f l =
      let fp : Fits N p = λ i h. f i (inr h) in
      one_ends n (at ms n) k p ms refl d.0 d.1 fp l (f n (inl refl))
      (λ ns l'. ended_same p ns d.1 fp l')
  ended_same (two n k p q) ms d f l =
      let fp : Fits N p = λ i h. f i (inr (inl h)) in
      let fq : Fits N q = λ i h. f i (inr (inr h)) in
      let o = over_same p ms in
      let o' = over_same q ms in
      let a = two_ends n (at ms n) k (two_over k (over p ms) (over q ms)) p q ms refl d f l
      (ended_same p ms d.3 fp l) (λ ns l'. ended_same q ns d.4 fq l') in
      cc

two_closes : (n : ℕ) (k : Two) (m : Mark) (o : Bool) (p q c d : Marked) → LegalTree (mtwo n k m p q)
    → LegalTree c × (live c ≡ live p) → LegalTree d × (live d ≡ live q)
    → (live q ≡ false → LegalTree (begin q) × (live (begin q) ≡ true))
    → LegalTree (close_two n m k o p q c d) × (live (close_two n m k o p q c d) ≡ is_live m)
two_closes n k Idle o p q c d l h g b = (l, refl)
two_closes n sequence Waiting o p q c d l h g b = (l, refl)
two_closes n parallel Waiting o p q c d l h g b = (l, refl)
two_closes n (when s) Waiting o p q c d l h g b = grind arith
two_closes n k UnderWay true p q c d l h g b = (l, refl)
two_closes n k UnderWay false p q c d l h g b = ((rw (h.1, g.1) l.0, h.0, g.0), refl)
two_closes n k Done o p q c d l h g b = (l, refl)

-- the end of an instant leaves legal marks
pub close_legal : (e : Signals) (t : Marked) → LegalTree t
    → LegalTree (close e t) × (live (close e t) ≡ live t)
close_legal e (mleaf n k m) l = grind arith
close_legal e (mone n k m p) l = let h = close_legal e p l.1 in let g = rest_legal p in grind arith
close_legal e (mtwo n k m p q) l =
    two_closes n k m (two_over k (is_over p) (is_over q)) p q (close e p) (close e q) l
    (close_legal e p l.1) (close_legal e q l.2) (begin_legal q l.2)
