-- what a step leaves of its own rule and of those inside it: below the new front none applies
use Rattle.std.proofs.Common.{◌≡◌, ℕ, ◌<◌, Bool, true, false, ◌⊎◌, List, length, set, sym, refl}
use Rattle.std.proofs.Common.{◌∙◌, subst, inl, inr, arith, get_or-set_same, get_or-set_other}
use Rattle.std.proofs.lemmas.Bool.{false≢true}
use native.Mathlib.Decide.{ℕ_discrete}
use Rattle.routine.specs.declared.kinds.Kind.{Kind}
use Rattle.routine.specs.Kinds.{Leaf, loop, kill, local, Two, sequence, parallel, when, Shape}
use Rattle.routine.specs.Kinds.{no_part, one_part, two_parts, shape_at}
use Rattle.routine.specs.Tree.{node, tree_at}
use Rattle.routine.proofs.Trees.{Part, Rising, Under, self, part, unroll, under_below, under_trans}
use Rattle.routine.proofs.Trees.{In, in_under, under_in}
use Rattle.routine.proofs.Once.{Once, disjoint}
use Rattle.rules.specs.Rules.{Mark, Idle, UnderWay, Done, Signals, Tree, at, begun, idled, over}
use Rattle.rules.specs.Rules.{rule, leaf_rule, one_rule, two_rule, fire, one_fired}
use Rattle.rules.proofs.Frames.{begun_kept}
use Rattle.rules.proofs.Locality.{idled_idle, over_idle, rule_idle, rule_local}
use Rattle.count.specs.Front.{front_after}
use Rattle.count.proofs.Aside.{parallel_rests}

one_idle : (m : Mark) (s : ℕ) (o : Bool) → o ≡ false → one_rule m (kill s) o ≡ false
one_idle m s o h = grind arith

kill_fired : (n : ℕ) (m : Mark) (s : ℕ) (p : Tree) (ms : List Mark)
    → one_fired n m (kill s) p ms ≡ idled p (set ms n Done)
kill_fired n m s p ms = grind arith

done_rests : (e : Signals) (m : Mark) (k : Leaf) → m ≡ Done → leaf_rule e m k ≡ false
done_rests e m k h = grind arith

underway_rests : (e : Signals) (m : Mark) (s : ℕ) (o : Bool) → m ≡ UnderWay
    → two_rule e m (when s) o ≡ false
underway_rests e m s o h = grind arith

sequence_rests : (e : Signals) (m : Mark) (o : Bool) → o ≡ false → two_rule e m sequence o ≡ false
sequence_rests e m o h = grind arith

-- a parallel has no rule
no_rule : (e : Signals) (m : Mark) (o : Bool) → two_rule e m parallel o ≡ true → ⊥
no_rule e m o r = false≢true (sym (parallel_rests e m o) ∙ r)

-- what lies inside a part
split : (ks : List Kind) {i k : ℕ} → Under ks i k
    → (k ≡ i) ⊎ ((a : ℕ) × Part (shape_at ks i) a × Under ks a k)
split ks self = inl refl
split ks (part {j = j} {a = a} u h) =
    elim (split ks u) [
      | inl e ↦ inr (a, subst (λ x. Part (shape_at ks x) a) e h, self)
      | inr x ↦ inr (x.0, x.1, part x.2 h)
    ]

module _ (ks : List Kind) (S : Rising ks) (O : Once ks) (i : ℕ) (li : i < length ks)
    (ms : List Mark) (lm : length ms ≡ length ks) (e : Signals) (ws : List ℕ) (was : Bool)
    (b : ℕ) where
  not_in_part : (r : Shape) → shape_at ks i ≡ r → (p : ℕ) → Part r p → ¬ (In (tree_at ks p) i)
  not_in_part r x p h u = let y = S i li p (rw x h) in
      let w = under_below ks S y.1 (in_under ks S p y.1 i u) in omega arith

  apart : (k : Two) (p q : ℕ) → shape_at ks i ≡ two_parts k p q → (j : ℕ) → In (tree_at ks p) j
      → ¬ (In (tree_at ks q) j)
  apart k p q x j u v =
      let lp = (S i li p (rw x (inl refl))).1 in
      let lq = (S i li q (rw x (inr refl))).1 in
      disjoint ks S O i li k p q x j (in_under ks S p lp j u) (in_under ks S q lq j v)

  -- the rule of the statement itself
  self_rests : (r : Shape) → shape_at ks i ≡ r → rule (node i r (tree_at ks)) ms e ≡ true
      → i < front_after r ws was b i
      → rule (node i r (tree_at ks)) (fire (node i r (tree_at ks)) ms) e ≡ false
  self_rests (no_part q) x r l =
      done_rests e (at (set ms i Done) i) q (get_or-set_same ms i Done Idle (omega arith))
  self_rests (one_part loop p) x r l = absurd (omega arith)
  self_rests (one_part (kill s) p) x r l =
      subst (λ (v : List Mark). one_rule (at v i) (kill s) (over (tree_at ks p) v) ≡ false)
      (sym (kill_fired i (at ms i) s (tree_at ks p) ms))
      (one_idle (at (idled (tree_at ks p) (set ms i Done)) i) s _
      (over_idle (tree_at ks p) (idled (tree_at ks p) (set ms i Done))
      (idled_idle (tree_at ks p) (set ms i Done))))
  self_rests (one_part (local s) p) x r l = absurd (omega arith)
  self_rests (two_parts sequence p q) x r l =
      let v = begun (tree_at ks q) (idled (tree_at ks p) ms) in
      sequence_rests e (at v i) (over (tree_at ks p) v)
      (over_idle (tree_at ks p) v
      (λ j u. (begun_kept (tree_at ks q) (idled (tree_at ks p) ms)).other j
      (apart sequence p q x j u) ∙ idled_idle (tree_at ks p) ms j u))
  self_rests (two_parts parallel p q) x r l =
      absurd (no_rule e (at ms i) (over (tree_at ks p) ms) r)
  self_rests (two_parts (when s) p q) x r l =
      let v = begun (tree_at ks p) (set ms i UnderWay) in
      underway_rests e (at v i) s (over (tree_at ks p) v)
      ((begun_kept (tree_at ks p) (set ms i UnderWay)).other i
      (not_in_part (two_parts (when s) p q) x p (inl refl))
      ∙ get_or-set_same ms i UnderWay Idle (omega arith))

  module _ (k : ℕ) (h : rule (tree_at ks k) ms e ≡ false) where
    in_part : (p : ℕ) → p < length ks → Under ks p k → (j : ℕ) → In (tree_at ks k) j
        → In (tree_at ks p) j
    in_part p l u j v = under_in ks S l
        (under_trans ks S u (in_under ks S k (under_below ks S l u).1 j v))

    -- and the rule of statement k, inside its part p
    part_rests : (r : Shape) → shape_at ks i ≡ r → rule (node i r (tree_at ks)) ms e ≡ true
        → k < front_after r ws was b i → (p : ℕ) → (i < p) × (p < length ks) → Part r p
        → Under ks p k → rule (tree_at ks k) (fire (node i r (tree_at ks)) ms) e ≡ false
    part_rests (no_part t) x r l p y g u = absurd g
    part_rests (one_part loop q) x r l p y g u = let w = under_below ks S y.1 u in
        absurd (omega arith)
    part_rests (one_part (kill s) q) x r l p y g u =
        let lq : q < length ks = omega arith in
        let z : Under ks q k = subst (λ a. Under ks a k) g u in
        subst (λ (v : List Mark). rule (tree_at ks k) v e ≡ false)
        (sym (kill_fired i (at ms i) s (tree_at ks q) ms))
        (rule_idle (tree_at ks k) (idled (tree_at ks q) (set ms i Done)) e
        (λ j v. idled_idle (tree_at ks q) (set ms i Done) j (in_part q lq z j v)))
    part_rests (one_part (local s) q) x r l p y g u = let w = under_below ks S y.1 u in
        absurd (omega arith)
    part_rests (two_parts sequence q q') x r l p y (inl g) u =
        let lq : q < length ks = omega arith in
        let z : Under ks q k = subst (λ a. Under ks a k) g u in
        rule_idle (tree_at ks k) (begun (tree_at ks q') (idled (tree_at ks q) ms)) e
        (λ j v. let w = in_part q lq z j v in
        (begun_kept (tree_at ks q') (idled (tree_at ks q) ms)).other j
        (apart sequence q q' x j w) ∙ idled_idle (tree_at ks q) ms j w)
    part_rests (two_parts sequence q q') x r l p y (inr g) u = let w = under_below ks S y.1 u in
        absurd (omega arith)
    part_rests (two_parts parallel q q') x r l p y g u =
        absurd (no_rule e (at ms i) (over (tree_at ks q) ms) r)
    part_rests (two_parts (when s) q q') x r l p y (inl g) u = let w = under_below ks S y.1 u in
        absurd (omega arith)
    part_rests (two_parts (when s) q q') x r l p y (inr g) u =
        let lq : q' < length ks = omega arith in
        let z : Under ks q' k = subst (λ a. Under ks a k) g u in
        rule_local (tree_at ks k) ms (begun (tree_at ks q) (set ms i UnderWay)) e
        (λ j v. let w = in_part q' lq z j v in
        (begun_kept (tree_at ks q) (set ms i UnderWay)).other j (λ n. apart (when s) q q' x j n w)
        ∙ get_or-set_other ms i j UnderWay Idle
        (λ n. not_in_part (two_parts (when s) q q') x q' (inr refl)
        (subst (In (tree_at ks q')) n w)))
        ∙ h

  -- the rule of statement k, inside statement i or it itself
  pub own_rests : (k : ℕ) → rule (tree_at ks i) ms e ≡ true → Under ks i k
      → k < front_after (shape_at ks i) ws was b i
      → (¬ (k ≡ i) → rule (tree_at ks k) ms e ≡ false)
      → rule (tree_at ks k) (fire (tree_at ks i) ms) e ≡ false
  own_rests k r u l h =
      let x = unroll ks S i li in
      let y = subst (λ t. rule t ms e ≡ true) x r in
      elim (ℕ_discrete k i) [
        | yes z ↦
            subst (λ (j : ℕ). rule (tree_at ks j) (fire (tree_at ks i) ms) e ≡ false) (sym z)
            (subst (λ t. rule t (fire t ms) e ≡ false) (sym x)
            (self_rests (shape_at ks i) refl y
            (subst (λ (j : ℕ). j < front_after (shape_at ks i) ws was b i) z l)))
        | no d ↦ elim (split ks u) [
          | inl z ↦ absurd (d z)
          | inr z ↦ subst (λ t. rule (tree_at ks k) (fire t ms) e ≡ false) (sym x)
              (part_rests k (h d) (shape_at ks i) refl y l z.0 (S i li z.0 z.1) z.1 z.2)
        ]
      ]
