-- the theorem NothingReadyInside: nothing is ready inside what is over or inside what is ready
use Rattle.std.proofs.Common.{List, ℕ, ◌≡◌, true, sym, ◌∙◌, subst, not, inl, inr, ◌<◌, length, refl}
use Rattle.std.proofs.Common.{arith}
use Rattle.std.proofs.lemmas.Bool.{false≢true, and_parts, not-true, or_cases, and_from}
use Rattle.std.proofs.lemmas.Bool.{false_from_ne_true}
use Rattle.std.proofs.Math.Decide.{ℕ_discrete}
use Rattle.routine.specs.declared.kinds.Kind.{Kind}
use Rattle.routine.specs.declared.kinds.SignalKind.{SignalKind}
use Rattle.routine.specs.Kinds.{shape_at, Shape, no_part, one_part, two_parts}
use Rattle.routine.specs.Tree.{inside, contains, tree_at, node}
use Rattle.routine.proofs.Once.{Distinct, Once, distinct}
use Rattle.routine.proofs.Trees.{In, contains_in, Rising, under_in, under_trans, in_under, trees}
use Rattle.routine.proofs.Trees.{unroll, Part}
use Rattle.rules.specs.Legal.{Legal}
use Rattle.rules.specs.Model.{Config, Ready}
use Rattle.rules.specs.Rules.{Signals, Mark, Tree, over, ready, rule, leaf, one, shut, at, one_rule}
use Rattle.rules.specs.Rules.{two, two_rule, reached}
use Rattle.rules.specs.Theorems.{Checked, NothingReadyInside}
use Rattle.rules.proofs.MarkedTrees.{LegalTree}
use Rattle.rules.proofs.QuietInside.{over_quiet, over_says, one_alone, two_alone}
use Rattle.rules.proofs.MarksIntoTrees.{marked}
use Rattle.rules.proofs.Frames.{over_same}
use Rattle.rules.proofs.StepsAtPositions.{placed, one_applies, not_shut, two_applies}
use Rattle.rules.proofs.TableTests.{Table}
use Rattle.rules.proofs.SoundTrees.{sound}
use Rattle.rules.proofs.LegalByStatement.{legal_to, rows}
use Rattle.rules.proofs.RuleFromRoot.{pick_no, unreached, from_root}
use Rattle.rules.proofs.TestsPassed.{table, inside_contains}
use Rattle.rules.proofs.StepsOnTrees.{ready_below}

module _ (e : Signals) (ms : List Mark) (j : ℕ) where
  over_alone : (t : Tree) → LegalTree (marked t ms) → over t ms ≡ true → ¬ (ready t ms e j ≡ true)
  over_alone t g o r =
      let x = placed e ms j t g r in
      over_quiet e (marked t ms) g (over_says (marked t ms) g (sym (over_same t ms) ∙ o)) x.0 x.2

  rule_alone : (t : Tree) → Distinct t → LegalTree (marked t ms) → rule t ms e ≡ true
      → inside t j ≡ true → ¬ (ready t ms e j ≡ true)
  rule_alone (leaf n k) d g r h w = absurd (false≢true h)
  rule_alone (one n k p) d g r h w =
      let ne : ¬ (j ≡ n) = λ z. d.0 (subst (In p) z (contains_in p j h)) in
      let s = and_parts (not (shut (at ms n) k)) (ready p ms e j)
      (sym (pick_no (ℕ_discrete j n) (one_rule (at ms n) k (over p ms)) _ ne) ∙ w) in
      let x = placed e ms j p g.1 s.1 in
      one_alone e n k (at ms n) (marked p ms) g (one_applies e ms n k p g r)
      (not_shut (at ms n) k (not-true (shut (at ms n) k) s.0)) x.0 x.2
  rule_alone (two n k p q) d g r h w =
      let ne : ¬ (j ≡ n) = λ z. elim (or_cases (contains p j) (contains q j) h) [
        | inl u ↦ d.0 (subst (In p) z (contains_in p j u))
        | inr u ↦ d.1 (subst (In q) z (contains_in q j u))
      ] in
      let own = two_applies e ms n k p q g r in
      elim (or_cases (ready p ms e j) (ready q ms e j)
      (sym (pick_no (ℕ_discrete j n) (two_rule e (at ms n) k (over p ms)) _ ne) ∙ w)) [
        | inl u ↦
            let x = placed e ms j p g.1 u in
            two_alone e n k (at ms n) (marked p ms) (marked q ms) g own x.0 (inl x.2)
        | inr u ↦
            let x = placed e ms j q g.2 u in
            two_alone e n k (at ms n) (marked p ms) (marked q ms) g own x.0 (inr x.2)
      ]

module _ (ks : List Kind) (S : Rising ks) (O : Once ks) (ms : List Mark) (i j : ℕ)
    (h : In (tree_at ks i) j) (li : i < length ks) where
  -- what is reached from above is reached from any statement around it
  below : (a : ℕ) → a < length ks → In (tree_at ks a) i → In (tree_at ks a) j
  below a l u = under_in ks S l (under_trans ks S (in_under ks S a l i u) (in_under ks S i li j h))

  reached_down : (a : ℕ) → a < length ks → In (tree_at ks a) i → reached (tree_at ks a) ms j ≡ true
      → reached (tree_at ks i) ms j ≡ true
  reached_down = trees ks S
      (λ a t. In t i → reached t ms j ≡ true → reached (tree_at ks i) ms j ≡ true)
      (λ a l g. at_shape a (shape_at ks a)
      (λ z. subst (λ b. tree_at ks b ≡ node a (shape_at ks a) (tree_at ks)) (sym z)
      (unroll ks S a l)) (subst Distinct (unroll ks S a l) (distinct ks S O a l))
      (λ p b. (S a l p b).1) g)
    where
      at_shape : (a : ℕ) (r : Shape) → (i ≡ a → tree_at ks i ≡ node a r (tree_at ks))
          → Distinct (node a r (tree_at ks)) → ((p : ℕ) → Part r p → p < length ks)
          → ((p : ℕ) → Part r p → In (tree_at ks p) i → reached (tree_at ks p) ms j ≡ true
          → reached (tree_at ks i) ms j ≡ true)
          → In (node a r (tree_at ks)) i → reached (node a r (tree_at ks)) ms j ≡ true
          → reached (tree_at ks i) ms j ≡ true
      at_shape a (no_part k) x d m g u w = subst (λ t. reached t ms j ≡ true) (sym (x u)) w
      at_shape a (one_part k p) x d m g (inl u) w = subst (λ t. reached t ms j ≡ true) (sym (x u)) w
      at_shape a (one_part k p) x d m g (inr u) w =
          let v = below p (m p refl) u in
          let ne : ¬ (j ≡ a) = λ z. d.0 (subst (In (tree_at ks p)) z v) in
          g p refl u (and_parts (not (shut (at ms a) k)) (reached (tree_at ks p) ms j)
          (sym (pick_no (ℕ_discrete j a) true _ ne) ∙ w)).1
      at_shape a (two_parts k p q) x d m g (inl u) w =
          subst (λ t. reached t ms j ≡ true) (sym (x u)) w
      at_shape a (two_parts k p q) x d m g (inr (inl u)) w =
          let v = below p (m p (inl refl)) u in
          let ne : ¬ (j ≡ a) = λ z. d.0 (subst (In (tree_at ks p)) z v) in
          let o = unreached (tree_at ks q) ms j (d.2 j v) in
          let y = sym (pick_no (ℕ_discrete j a) true _ ne) ∙ w in
          g p (inl refl) u (grind arith)
      at_shape a (two_parts k p q) x d m g (inr (inr u)) w =
          let v = below q (m q (inr refl)) u in
          let ne : ¬ (j ≡ a) = λ z. d.1 (subst (In (tree_at ks q)) z v) in
          let o = unreached (tree_at ks p) ms j (λ z. d.2 j z v) in
          let y = sym (pick_no (ℕ_discrete j a) true _ ne) ∙ w in
          g q (inr refl) u (grind arith)

  -- so what is ready is ready there
  ready_down : (e : Signals) → 0 < length ks → In (tree_at ks 0) i
      → ready (tree_at ks 0) ms e j ≡ true → ready (tree_at ks i) ms e j ≡ true
  ready_down e z u r =
      let s = (from_root ks S O ms e j 0 z (below 0 z u)).when_ready in
      let w = and_parts (reached (tree_at ks 0) ms j) (rule (tree_at ks j) ms e) (sym s ∙ r) in
      (from_root ks S O ms e j i li h).when_ready
      ∙ and_from (reached (tree_at ks i) ms j) (rule (tree_at ks j) ms e) (reached_down 0 z u w.0)
      w.1

-- the statement's own rule applies where it is ready
pub own_rule : (ks : List Kind) (S : Rising ks) (O : Once ks) (ms : List Mark) (e : Signals) (i : ℕ)
    → 0 < length ks → In (tree_at ks 0) i
    → ready (tree_at ks 0) ms e i ≡ true → rule (tree_at ks i) ms e ≡ true
own_rule ks S O ms e i z u r =
    (and_parts (reached (tree_at ks 0) ms i) (rule (tree_at ks i) ms e)
    (sym (from_root ks S O ms e i 0 z u).when_ready ∙ r)).1

module _ (gs : List SignalKind) (ks : List Kind) (C : Checked gs ks) (c : Config) (i j : ℕ)
    (L : Legal true ks c.0) (l : i < length ks) where
  T : Table ks gs
  T = table gs ks C

  in_root : In (tree_at ks 0) i
  in_root = (sound ks gs T).whole i l

  legal_at : LegalTree (marked (tree_at ks i) c.0)
  legal_at = legal_to ks T.shaped c.0 (rows true ks c.0 L) i l

  none_in_over : over (tree_at ks i) c.0 ≡ true → In (tree_at ks i) j
      → ¬ (ready (tree_at ks 0) c.0 c.1 j ≡ true)
  none_in_over o h r =
      over_alone c.1 c.0 j (tree_at ks i) legal_at o
      (ready_down ks T.shaped T.once c.0 i j h l c.1 T.some_row in_root r)

  none_in_ready : Ready ks c i → inside (tree_at ks i) j ≡ true → In (tree_at ks i) j
      → ¬ (ready (tree_at ks 0) c.0 c.1 j ≡ true)
  none_in_ready r h v w =
      rule_alone c.1 c.0 j (tree_at ks i) (distinct ks T.shaped T.once i l) legal_at
      (own_rule ks T.shaped T.once c.0 c.1 i T.some_row in_root r) h
      (ready_down ks T.shaped T.once c.0 i j v l c.1 T.some_row in_root w)

-- the theorem
pub nothing_ready_inside : (gs : List SignalKind) (ks : List Kind) → Checked gs ks
    → NothingReadyInside gs ks
nothing_ready_inside gs ks C =
    record {
      inside_over = λ c i j L l o h.
          false_from_ne_true _
          (none_in_over gs ks C c i j L l o (contains_in (tree_at ks i) j h));
      never_inside = λ c i j L r r'.
          false_from_ne_true _
          (λ h. none_in_ready gs ks C c i j L (ready_below gs ks C i c.0 c.1 r) r h
          (contains_in (tree_at ks i) j (inside_contains (tree_at ks i) j h)) r');
    }
