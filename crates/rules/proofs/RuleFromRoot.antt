-- a statement's step and rule, found from the root, are those of its own tree
use Rattle.std.proofs.Common.{◌≡◌, refl, List, ℕ, false, arith, ◌&&◌, inl, inr, subst, ◌<◌, length}
use Rattle.std.proofs.Common.{sym}
use Rattle.routine.specs.declared.kinds.Kind.{Kind}
use Rattle.routine.specs.Kinds.{shape_at, Shape, no_part, one_part, two_parts}
use Rattle.routine.specs.Tree.{tree_at, node}
use Rattle.routine.proofs.Once.{Distinct, Once, distinct}
use Rattle.routine.proofs.Trees.{In, Rising, trees, unroll, Part}
use Rattle.rules.specs.Rules.{pick, Tree, Mark, reached, leaf, one, two, Signals, fire, effect_of}
use Rattle.rules.specs.Rules.{ready, rule, One, Two}
use Rattle.rules.proofs.MarksIntoTrees.{fired, effect}
use Rattle.rules.proofs.StepsFromRoot.{missed, uneffective, unready}

-- what is picked where the two are the same, and where they are not
pub pick_yes : {A B : Type 0} (d : Dec A) (x y : B) → A → pick d x y ≡ x
pick_yes (yes a) x y h = refl
pick_yes (no d) x y h = absurd (d h)

pub pick_no : {A B : Type 0} (d : Dec A) (x y : B) → ¬ A → pick d x y ≡ y
pick_no (yes a) x y h = absurd (h a)
pick_no (no d) x y h = refl

-- what is not in a tree is not reached in it
pub unreached : (t : Tree) (ms : List Mark) (i : ℕ) → ¬ (In t i) → reached t ms i ≡ false
unreached (leaf n k) ms i d = grind arith
unreached (one n k p) ms i d = let h = unreached p ms i in grind arith
unreached (two n k p q) ms i d = let h = unreached p ms i in let g = unreached q ms i in grind arith

-- the step and the rule of statement i, found from the root of t, are those of its own tree u
pub record FromRoot (ms : List Mark) (e : Signals) (i : ℕ) (t u : Tree) : Type 0 where
  pub marks : fired t ms i ≡ fire u ms
  pub effects : effect t i ≡ effect_of u
  pub when_ready : ready t ms e i ≡ (reached t ms i && rule u ms e)

module _ (ms : List Mark) (e : Signals) (i : ℕ) (u : Tree) where
  from_one : (n : ℕ) (k : One) (p : Tree) → ¬ (In p n) → (i ≡ n → u ≡ one n k p)
      → (In p i → FromRoot ms e i p u) → In (one n k p) i → FromRoot ms e i (one n k p) u
  from_one n k p d x g (inl h) = let y = x h in grind arith
  from_one n k p d x g (inr h) =
      let b : ¬ (i ≡ n) = λ z. d (subst (In p) z h) in
      let y = g h in
      let y₀ = y.marks in let y₁ = y.effects in let y₂ = y.when_ready in
      grind arith

  from_two : (n : ℕ) (k : Two) (p q : Tree) → Distinct (two n k p q) → (i ≡ n → u ≡ two n k p q)
      → (In p i → FromRoot ms e i p u) → (In q i → FromRoot ms e i q u) → In (two n k p q) i
      → FromRoot ms e i (two n k p q) u
  from_two n k p q d x g f (inl h) = let y = x h in grind arith
  from_two n k p q d x g f (inr (inl h)) =
      let b : ¬ (i ≡ n) = λ z. d.0 (subst (In p) z h) in
      let c = d.2 i h in
      let y = g h in
      let y₀ = y.marks in let y₁ = y.effects in let y₂ = y.when_ready in
      let m = missed q (fired p ms i) i c in let m₁ = uneffective q i c in
      let m₂ = unready q ms e i c in let m₃ = unreached q ms i c in
      grind arith
  from_two n k p q d x g f (inr (inr h)) =
      let b : ¬ (i ≡ n) = λ z. d.1 (subst (In q) z h) in
      let c : ¬ (In p i) = λ z. d.2 i z h in
      let y = f h in
      let y₀ = y.marks in let y₁ = y.effects in let y₂ = y.when_ready in
      let m = missed p ms i c in let m₁ = uneffective p i c in let m₂ = unready p ms e i c in
      let m₃ = unreached p ms i c in
      grind arith

module _ (ks : List Kind) (S : Rising ks) (O : Once ks) (ms : List Mark) (e : Signals) (i : ℕ) where
  -- so it is from any statement around it
  pub from_root : (a : ℕ) → a < length ks → In (tree_at ks a) i
      → FromRoot ms e i (tree_at ks a) (tree_at ks i)
  from_root = trees ks S (λ a t. In t i → FromRoot ms e i t (tree_at ks i))
      (λ a l g. at_row a (shape_at ks a)
      (λ h. subst (λ j. tree_at ks j ≡ node a (shape_at ks a) (tree_at ks)) (sym h)
      (unroll ks S a l)) (subst Distinct (unroll ks S a l) (distinct ks S O a l)) g)
    where
      at_row : (a : ℕ) (r : Shape) → (i ≡ a → tree_at ks i ≡ node a r (tree_at ks))
          → Distinct (node a r (tree_at ks))
          → ((b : ℕ) → Part r b → In (tree_at ks b) i
          → FromRoot ms e i (tree_at ks b) (tree_at ks i))
          → In (node a r (tree_at ks)) i → FromRoot ms e i (node a r (tree_at ks)) (tree_at ks i)
      at_row a (no_part k) x d g h = let y = x h in grind arith
      at_row a (one_part k p) x d g h =
          from_one ms e i (tree_at ks i) a k (tree_at ks p) d.0 x (g p refl) h
      at_row a (two_parts k p q) x d g h =
          from_two ms e i (tree_at ks i) a k (tree_at ks p) (tree_at ks q) d x (g p (inl refl))
          (g q (inr refl)) h
