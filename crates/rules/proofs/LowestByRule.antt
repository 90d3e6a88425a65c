-- the theorem LowestByRule: the lowest ready statement is the lowest whose own rule applies
use Rattle.std.proofs.Common.{ℕ, Bool, ◌≡◌, Some, None, zero, arith, suc, refl, Option, ◌∙◌, true}
use Rattle.std.proofs.Common.{subst, false, not, ◌&&◌, ◌||◌, List, ◌<◌, length, inl, inr, ap, sym}
use Rattle.std.proofs.lemmas.Bool.{both_ways, and_right, false_from_ne_true}
use Rattle.std.proofs.Math.Decide.{ℕ_discrete}
use Rattle.routine.specs.declared.kinds.Kind.{Kind}
use Rattle.routine.specs.declared.kinds.SignalKind.{SignalKind}
use Rattle.routine.specs.Kinds.{shape_at, Shape, no_part, one_part, two_parts}
use Rattle.routine.specs.Search.{lowest, or_last}
use Rattle.routine.specs.Tree.{tree_at, node}
use Rattle.routine.proofs.Searches.{lowest_none, none_below, lowest_below, Found, found}
use Rattle.routine.proofs.Searches.{lowest_here}
use Rattle.routine.proofs.Trees.{Rising, In, trees, unroll, Part, under_below, in_under}
use Rattle.rules.specs.Rules.{Mark, One, shut, one_rule, pick, Signals, rule, reached, at, over}
use Rattle.rules.specs.Rules.{ready}
use Rattle.rules.specs.Theorems.{Checked, LowestByRule}
use Rattle.rules.proofs.TableTests.{Table}
use Rattle.rules.proofs.SoundTrees.{sound}
use Rattle.rules.proofs.RuleFromRoot.{pick_yes, from_root}
use Rattle.rules.proofs.TestsPassed.{table}
use Rattle.rules.proofs.StepsOnTrees.{ready_below}

-- below what a search finds there is nothing
pub lowest_first : (P : ℕ → Bool) (n i : ℕ) → lowest P n ≡ Some i → lowest P i ≡ None
lowest_first P zero i h = absurd (grind arith)
lowest_first P (suc n) i h = go (lowest_first P n i) (lowest P n) (P n) refl h
  where
    go : (lowest P n ≡ Some i → lowest P i ≡ None) → (o : Option ℕ) (b : Bool) → lowest P n ≡ o
        → or_last o b n ≡ Some i → lowest P i ≡ None
    go f (Some j) b e g = f (e ∙ g)
    go f None true e g = let x : n ≡ i = cc in subst (λ (m : ℕ). lowest P m ≡ None) x e
    go f None false e g = absurd (grind arith)

shut_applies : (m : Mark) (k : One) (o : Bool) → shut m k ≡ true → one_rule m k o ≡ true
shut_applies m k o h = grind arith

out_one : (i n : ℕ) (s b : Bool) → pick (ℕ_discrete i n) true (not s && b) ≡ false → s ≡ false
    → b ≡ false
out_one i n s b h g = grind arith

out_two : (i n : ℕ) (b c : Bool) → pick (ℕ_discrete i n) true (b || c) ≡ false
    → (b ≡ false) × (c ≡ false)
out_two i n b c h = grind arith

module _ (ks : List Kind) (S : Rising ks) (ms : List Mark) (e : Signals) (i : ℕ) where
  abbrev Lower : Type 0
  Lower = (j : ℕ) × (j < i) × (rule (tree_at ks j) ms e ≡ true)

  -- what is in a tree, and not reached there, lies inside a local that is shut
  shut_off : (a : ℕ) → a < length ks → In (tree_at ks a) i → reached (tree_at ks a) ms i ≡ false
      → Lower
  shut_off = trees ks S (λ a t. In t i → reached t ms i ≡ false → Lower)
      (λ a l g. at_shape a (shape_at ks a) (unroll ks S a l) (S a l) g)
    where
      own : (a : ℕ) (b : Bool) → i ≡ a → pick (ℕ_discrete i a) true b ≡ false → ⊥
      own a b u w = both_ways _ w (pick_yes (ℕ_discrete i a) true b u)

      at_shape : (a : ℕ) (r : Shape) → tree_at ks a ≡ node a r (tree_at ks)
          → ((p : ℕ) → Part r p → (a < p) × (p < length ks))
          → ((p : ℕ) → Part r p → In (tree_at ks p) i → reached (tree_at ks p) ms i ≡ false → Lower)
          → In (node a r (tree_at ks)) i → reached (node a r (tree_at ks)) ms i ≡ false → Lower
      at_shape a (no_part k) x s g u w = absurd (own a false u w)
      at_shape a (one_part k p) x s g (inl u) w = absurd (own a _ u w)
      at_shape a (one_part k p) x s g (inr u) w = go (shut (at ms a) k) refl
        where
          go : (b : Bool) → shut (at ms a) k ≡ b → Lower
          go false h = g p refl u (out_one i a (shut (at ms a) k) (reached (tree_at ks p) ms i) w h)
          go true h =
              let b = s p refl in
              let v = under_below ks S b.1 (in_under ks S p b.1 i u) in (
                a,
                omega arith,
                ap (λ t. rule t ms e) x ∙ shut_applies (at ms a) k (over (tree_at ks p) ms) h,
              )
      at_shape a (two_parts k p q) x s g (inl u) w = absurd (own a _ u w)
      at_shape a (two_parts k p q) x s g (inr (inl u)) w = g p (inl refl) u (out_two i a _ _ w).0
      at_shape a (two_parts k p q) x s g (inr (inr u)) w = g q (inr refl) u (out_two i a _ _ w).1

module _ (gs : List SignalKind) (ks : List Kind) (C : Checked gs ks) (ms : List Mark)
    (e : Signals) where
  T : Table ks gs
  T = table gs ks C

  whole : (i : ℕ) → i < length ks → In (tree_at ks 0) i
  whole i l = (sound ks gs T).whole i l

  abbrev P : ℕ → Bool
  P i = rule (tree_at ks i) ms e

  abbrev Q : ℕ → Bool
  Q i = ready (tree_at ks 0) ms e i

  both : (i : ℕ) → i < length ks → Q i ≡ (reached (tree_at ks 0) ms i && P i)
  both i l = (from_root ks T.shaped T.once ms e i 0 T.some_row (whole i l)).when_ready

  -- no rule, not ready
  pub unready_by_rule : (i : ℕ) → i < length ks → P i ≡ false → Q i ≡ false
  unready_by_rule i l h = both i l ∙ and_right (reached (tree_at ks 0) ms i) (P i) h

  -- the lowest rule is ready
  pub ready_by_rule : (i : ℕ) → i < length ks → P i ≡ true → ((k : ℕ) → k < i → P k ≡ false)
      → Q i ≡ true
  ready_by_rule i l h g = both i l ∙ go (reached (tree_at ks 0) ms i) refl
    where
      go : (a : Bool) → reached (tree_at ks 0) ms i ≡ a
          → (reached (tree_at ks 0) ms i && P i) ≡ true
      go true w = ap (λ b. b && P i) w ∙ h
      go false w =
          let x = shut_off ks T.shaped ms e i 0 T.some_row (whole i l) w in
          absurd (both_ways _ (g x.0 x.1) x.2)

  -- so the lowest rule that applies is that of the lowest ready statement
  pub by_rule : lowest P (length ks) ≡ lowest Q (length ks)
  by_rule = go (lowest P (length ks)) refl
    where
      go : (o : Option ℕ) → lowest P (length ks) ≡ o → lowest P (length ks) ≡ lowest Q (length ks)
      go None w = w ∙ sym (lowest_none Q (length ks)
          (λ k l. unready_by_rule k l (none_below P (length ks) w k l)))
      go (Some i) w =
          let l = lowest_below P (length ks) i w in
          let n = none_below P i (lowest_first P (length ks) i w) in
          let h : P i ≡ true = subst (Found P (length ks)) w (found P (length ks)) in
          w ∙ sym (lowest_here Q (length ks) i
          (lowest_none Q i (λ k m. unready_by_rule k (omega arith) (n k m)))
          (ready_by_rule i l h n) l)

  pub none_applies : ((i : ℕ) → ¬ (Q i ≡ true)) → (i : ℕ) → i < length ks → P i ≡ false
  none_applies q = none_below P (length ks)
      (by_rule ∙ lowest_none Q (length ks) (λ k l. false_from_ne_true (Q k) (q k)))

  pub none_ready : ((i : ℕ) → i < length ks → P i ≡ false) → (i : ℕ) → ¬ (Q i ≡ true)
  none_ready p i r =
      let n = none_below Q (length ks) (sym by_rule ∙ lowest_none P (length ks) p) in
      both_ways _ (n i (ready_below gs ks C i ms e r)) r

-- the theorem
pub lowest_by_rule : (gs : List SignalKind) (ks : List Kind) → Checked gs ks → LowestByRule gs ks
lowest_by_rule gs ks C =
    record {
      same = λ c. by_rule gs ks C c.0 c.1;
      none_applies = λ c. none_applies gs ks C c.0 c.1;
      none_ready = λ c. none_ready gs ks C c.0 c.1;
    }
