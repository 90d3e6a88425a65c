-- the step of a ready statement, found from the root of a tree, is the step at its position
use Rattle.std.proofs.Common.{ℕ, List, ◌≡◌, true, arith, Bool, false, sym, ◌∙◌, not, ◌&&◌, ◌||◌}
use Rattle.std.proofs.Common.{inl, inr, length, ◌<◌, set, get_or-set_same, length-set, ap, refl}
use Rattle.std.proofs.Common.{subst}
use Rattle.std.proofs.lemmas.Bool.{false≢true, and_parts, not-true, or_cases}
use Rattle.std.proofs.Math.Decide.{ℕ_discrete}
use Rattle.routine.proofs.Once.{Distinct}
use Rattle.routine.proofs.Trees.{In}
use Rattle.rules.specs.Legal.{one_legal, two_legal}
use Rattle.rules.specs.Rules.{Tree, leaf, one, two, Signals, Mark, ready, Leaf, leaf_rule, One}
use Rattle.rules.specs.Rules.{one_rule, Two, two_rule, shut, at, over, pick, Idle, begun, idled}
use Rattle.rules.specs.Rules.{one_fired, UnderWay, Waiting, Done, two_fired, no_effect}
use Rattle.rules.proofs.MarkedTrees.{Pos, here, left, right, after, effect_at, ReadyLeaf, Marked}
use Rattle.rules.proofs.MarkedTrees.{live, Over, ReadyOne, ReadyTwo, Opened, is_over, LegalTree}
use Rattle.rules.proofs.MarkedTrees.{ReadyAt, begin, rest, after_one, after_two}
use Rattle.rules.proofs.QuietInside.{over_is, idle_over, over_says}
use Rattle.rules.proofs.MarksIntoTrees.{marked, fired, effect}
use Rattle.rules.proofs.Frames.{over_same, Fits, begun_kept, begun_same, unset, idled_kept}
use Rattle.rules.proofs.Frames.{idled_same, unseen, Kept}
use Rattle.rules.proofs.StepsFromRoot.{missed, uneffective, fired_kept, unready}

-- the number of the statement at a position; outside the tree 0
abbrev pub number : Tree → Pos → ℕ
number (leaf n k) here = n
number (leaf n k) (left x) = 0
number (leaf n k) (right x) = 0
number (one n k p) here = n
number (one n k p) (left x) = number p x
number (one n k p) (right x) = 0
number (two n k p q) here = n
number (two n k p q) (left x) = number p x
number (two n k p q) (right x) = number q x

-- i stands at x, is ready there, and its step found from the root is the step at x
pub record StepAt (e : Signals) (t : Tree) (ms : List Mark) (i : ℕ) (x : Pos) : Type 0 where
  pub is_ready : ready t ms e i ≡ true
  pub marks : marked t (fired t ms i) ≡ after (marked t ms) x
  pub effects : effect t i ≡ effect_at (marked t ms) x

-- a statement's own rule, as a test and as a type
leaf_ready : (e : Signals) (m : Mark) (k : Leaf) → leaf_rule e m k ≡ true → ReadyLeaf e m k
leaf_ready e m k h = grind arith

one_ready : (m : Mark) (k : One) (o : Bool) (p : Marked) → one_legal m k (live p) ≡ true
    → (live p ≡ false → ¬ (o ≡ true)) → (o ≡ true → Over p)
    → one_rule m k o ≡ true → ReadyOne m k p
one_ready m k o p g i f h = grind arith

two_ready : (e : Signals) (m : Mark) (k : Two) (o : Bool) (p q : Marked)
    → two_legal m k (live p) (live q) ≡ true → (live p ≡ false → ¬ (o ≡ true)) → (o ≡ true → Over p)
    → two_rule e m k o ≡ true → ReadyTwo e m k p
two_ready e m k o p q g i f h = grind arith

-- what is not shut is open to steps inside it
pub not_shut : (m : Mark) (k : One) → shut m k ≡ false → Opened m k
not_shut m k h = grind arith

leaf_rules : (e : Signals) (m : Mark) (k : Leaf) → ReadyLeaf e m k → leaf_rule e m k ≡ true
leaf_rules e m k r = grind arith

one_rules : (m : Mark) (k : One) (p : Marked) → ReadyOne m k p → one_rule m k (is_over p) ≡ true
one_rules m k p r = grind (arith, over_is)

two_rules : (e : Signals) (m : Mark) (k : Two) (p : Marked) → ReadyTwo e m k p
    → two_rule e m k (is_over p) ≡ true
two_rules e m k p r = grind (arith, over_is)

-- where the rule of the first applies and marks are legal
module _ (e : Signals) (ms : List Mark) where
  pub one_applies : (n : ℕ) (k : One) (p : Tree) → LegalTree (marked (one n k p) ms)
      → one_rule (at ms n) k (over p ms) ≡ true → ReadyOne (at ms n) k (marked p ms)
  one_applies n k p l h =
      let o = over_same p ms in
      one_ready (at ms n) k (over p ms) (marked p ms) l.0
      (λ b w. idle_over (marked p ms) l.1 b (sym o ∙ w))
      (λ w. over_says (marked p ms) l.1 (sym o ∙ w)) h

  pub two_applies : (n : ℕ) (k : Two) (p q : Tree) → LegalTree (marked (two n k p q) ms)
      → two_rule e (at ms n) k (over p ms) ≡ true → ReadyTwo e (at ms n) k (marked p ms)
  two_applies n k p q l h =
      let o = over_same p ms in
      two_ready e (at ms n) k (over p ms) (marked p ms) (marked q ms) l.0
      (λ b w. idle_over (marked p ms) l.1 b (sym o ∙ w))
      (λ w. over_says (marked p ms) l.1 (sym o ∙ w)) h

  -- i stands at a position that is ready
  abbrev pub Placed : ℕ → Tree → Type 0
  Placed i t = (x : Pos) × (i ≡ number t x) × ReadyAt e (marked t ms) x

  -- so does what is ready, where marks are legal
  pub placed : (i : ℕ) (t : Tree) → LegalTree (marked t ms) → ready t ms e i ≡ true → Placed i t
  placed i (leaf n k) l h = by (ℕ_discrete i n) h
    where
      by : (d : Dec (i ≡ n)) → pick d (leaf_rule e (at ms n) k) false ≡ true
          → Placed i (leaf n k)
      by (yes a) h = (here, a, leaf_ready e (at ms n) k h)
      by (no d) h = absurd (false≢true h)
  placed i (one n k p) l h = by (ℕ_discrete i n) (placed i p l.1) h
    where
      by : (d : Dec (i ≡ n))
          → (ready p ms e i ≡ true → Placed i p)
          → pick d (one_rule (at ms n) k (over p ms)) (not (shut (at ms n) k) && ready p ms e i)
          ≡ true
          → Placed i (one n k p)
      by (yes a) f h = (here, a, one_applies n k p l h)
      by (no d) f h =
          let u = and_parts (not (shut (at ms n) k)) (ready p ms e i) h in
          let g = f u.1 in
          (left g.0, g.1, (not_shut (at ms n) k (not-true (shut (at ms n) k) u.0), g.2))
  placed i (two n k p q) l h = by (ℕ_discrete i n) (placed i p l.1) (placed i q l.2) h
    where
      by : (d : Dec (i ≡ n))
          → (ready p ms e i ≡ true → Placed i p)
          → (ready q ms e i ≡ true → Placed i q)
          → pick d (two_rule e (at ms n) k (over p ms)) (ready p ms e i || ready q ms e i) ≡ true
          → Placed i (two n k p q)
      by (yes a) f g h = (here, a, two_applies n k p q l h)
      by (no d) f g h = elim (or_cases (ready p ms e i) (ready q ms e i) h) [
        | inl u ↦ let y = f u in (left y.0, y.1, y.2)
        | inr u ↦ let y = g u in (right y.0, y.1, y.2)
      ]

  -- a position that is ready is one of the tree
  pub position_in : (t : Tree) (x : Pos) → ReadyAt e (marked t ms) x → In t (number t x)
  position_in (leaf n k) x r = grind arith
  position_in (one n k p) x r = let h = position_in p in grind arith
  position_in (two n k p q) x r = let h = position_in p in let g = position_in q in grind arith

-- the part p, and the number n, after a writer has been at n and then inside p
module _ (N n : ℕ) (p : Tree) (ms : List Mark) (d : ¬ (In p n)) (g : Distinct p)
    (f : Fits N p) (l : length ms ≡ N) (a : n < N) where
  -- the mark that is written at n
  pub set_own : (m : Mark) → at (set ms n m) n ≡ m
  set_own m = get_or-set_same ms n m Idle (omega arith)

  pub begun_own : (m : Mark)
      → (at (begun p (set ms n m)) n ≡ m) × (marked p (begun p (set ms n m)) ≡ begin (marked p ms))
  begun_own m = (
    (begun_kept p (set ms n m)).other n d ∙ set_own m,
    begun_same N p (set ms n m) g f (length-set ms n m ∙ l) ∙ ap begin (unset p ms n m d),
  )

  pub idled_own : (m : Mark)
      → (at (idled p (set ms n m)) n ≡ m) × (marked p (idled p (set ms n m)) ≡ rest (marked p ms))
  idled_own m = (
    (idled_kept p (set ms n m)).other n d ∙ set_own m,
    idled_same N p (set ms n m) g f (length-set ms n m ∙ l) ∙ ap rest (unset p ms n m d),
  )

  one_step : (m : Mark) (k : One) → ReadyOne m k (marked p ms)
      → marked (one n k p) (one_fired n m k p ms) ≡ after_one n m k (marked p ms)
  one_step m k r =
      let a₁ = begun_own UnderWay in
      let a₂ = idled_own Waiting in
      let a₃ = idled_own Done in
      let a₄ = set_own UnderWay in
      let a₅ = unset p ms n UnderWay d in
      grind arith

module _ (N n : ℕ) (k : Two) (p q : Tree) (ms : List Mark) (d : Distinct (two n k p q))
    (f : Fits N (two n k p q)) (l : length ms ≡ N) where
  two_step : marked (two n k p q) (two_fired n k p q ms)
      ≡ after_two n (at ms n) k (marked p ms) (marked q ms)
  two_step =
      let fp : Fits N p = λ j h. f j (inr (inl h)) in
      let fq : Fits N q = λ j h. f j (inr (inr h)) in
      let w = begun_own N n p ms d.0 d.3 fp l (f n (inl refl)) UnderWay in
      let ns = set ms n UnderWay in
      let w' = unseen q ns (begun p ns) (begun_kept p ns) (λ i h g. d.2 i g h)
      ∙ unset q ms n UnderWay d.1 in
      let is = idled p ms in
      let a₁ = (begun_kept q is).other n d.1 ∙ (idled_kept p ms).other n d.0 in
      let a₂ = unseen p is (begun q is) (begun_kept q is) d.2 ∙ idled_same N p ms d.3 fp l in
      let a₃ = begun_same N q is d.4 fq ((idled_kept p ms).length ∙ l)
      ∙ ap begin (unseen q ms is (idled_kept p ms) (λ i h g. d.2 i g h)) in
      grind arith

  -- a step inside a part does not show in the other part
  in_left : (i : ℕ) → In p i → (ns : List Mark) → Kept (In p) ms ns
      → (fired q ns i ≡ ns) × (at ns n ≡ at ms n) × (marked q ns ≡ marked q ms)
      × (effect q i ≡ no_effect)
  in_left i h ns c = (
    missed q ns i (d.2 i h),
    c.other n d.0,
    unseen q ms ns c (λ i h g. d.2 i g h),
    uneffective q i (d.2 i h),
  )

  in_right : (i : ℕ) → In q i → (ns : List Mark) → Kept (In q) ms ns
      → (fired p ms i ≡ ms) × (at ns n ≡ at ms n) × (marked p ns ≡ marked p ms)
      × (effect p i ≡ no_effect)
  in_right i h ns c =
      let a : ¬ (In p i) = λ g. d.2 i g h in
      (missed p ms i a, c.other n d.1, unseen p ms ns c d.2, uneffective p i a)

module _ (N : ℕ) (e : Signals) where
  -- the statement at a position that is ready
  pub step_at : (t : Tree) (ms : List Mark) → Distinct t → Fits N t → length ms ≡ N → (x : Pos)
      → ReadyAt e (marked t ms) x → StepAt e t ms (number t x) x
  step_at (leaf n k) ms d f l here r =
      let a = get_or-set_same ms n Done Idle (let a = f n refl in omega arith) in
      let b = leaf_rules e (at ms n) k r in
      grind arith
  step_at (leaf n k) ms d f l (left x) r = absurd r
  step_at (leaf n k) ms d f l (right x) r = absurd r
  step_at (one n k p) ms d f l here r =
      let a = one_step N n p ms d.0 d.1 (λ j h. f j (inr h)) l (f n (inl refl)) (at ms n) k r in
      let b = one_rules (at ms n) k (marked p ms) r in
      let c = over_same p ms in
      grind arith
  step_at (one n k p) ms d f l (left x) r =
      let h = step_at p ms d.1 (λ j h. f j (inr h)) l x r.1 in
      let i = number p x in
      let ne : ¬ (i ≡ n) = λ z. d.0 (subst (In p) z (position_in e ms p x r.1)) in
      let o = (fired_kept p ms i).other n d.0 in
      let h₀ = h.is_ready in let h₁ = h.marks in let h₂ = h.effects in let h₃ = r.0 in
      grind arith
  step_at (one n k p) ms d f l (right x) r = absurd r
  step_at (two n k p q) ms d f l here r =
      let a = two_step N n k p q ms d f l in
      let b = two_rules e (at ms n) k (marked p ms) r in
      let c = over_same p ms in
      grind arith
  step_at (two n k p q) ms d f l (left x) r =
      let h = step_at p ms d.3 (λ j h. f j (inr (inl h))) l x r in
      let i = number p x in
      let u = position_in e ms p x r in
      let ne : ¬ (i ≡ n) = λ z. d.0 (subst (In p) z u) in
      let o = in_left N n k p q ms d f l i u (fired p ms i) (fired_kept p ms i) in
      let h₀ = h.is_ready in let h₁ = h.marks in let h₂ = h.effects in
      grind arith
  step_at (two n k p q) ms d f l (right x) r =
      let h = step_at q ms d.4 (λ j h. f j (inr (inr h))) l x r in
      let i = number q x in
      let u = position_in e ms q x r in
      let ne : ¬ (i ≡ n) = λ z. d.1 (subst (In q) z u) in
      let w = unready p ms e i (λ g. d.2 i g u) in
      let o = in_right N n k p q ms d f l i u (fired q ms i) (fired_kept q ms i) in
      let h₀ = h.is_ready in let h₁ = h.marks in let h₂ = h.effects in
      grind arith
