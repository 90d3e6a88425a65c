-- the theorem EitherOrder: two ready statements can be stepped in either order
use Rattle.std.proofs.Common.{List, ◌≡◌, ℕ, arith, length, ext_get_or, ◌∙◌, sym, ap₂, subst, ap}
use Rattle.routine.specs.declared.kinds.Kind.{Kind}
use Rattle.routine.specs.declared.kinds.SignalKind.{SignalKind}
use Rattle.routine.specs.Tree.{tree_at}
use Rattle.routine.proofs.Trees.{In}
use Rattle.rules.specs.Model.{Config, stepped}
use Rattle.rules.specs.Rules.{Tree, Mark, at, leaf, one, two, Idle, Signals, apply}
use Rattle.rules.specs.Theorems.{Checked, EitherOrder}
use Rattle.rules.proofs.MarkedTrees.{Marked, Pos, ReadyAt, effect_at, after}
use Rattle.rules.proofs.TreeScopes.{Scoped}
use Rattle.rules.proofs.StepsCommute.{commute}
use Rattle.rules.proofs.MarksIntoTrees.{marked, unmarked_marked}
use Rattle.rules.proofs.StepsAtPositions.{number}
use Rattle.rules.proofs.SoundTrees.{Sound, sound}
use Rattle.rules.proofs.TestsPassed.{table}
use Rattle.rules.proofs.StepsOnTrees.{StepOnTree, step_on_tree, placed_step, legal_root}

-- a tree tells its marks
same_marks : (t : Tree) (ms ns : List Mark) → marked t ms ≡ marked t ns → (i : ℕ) → In t i
    → at ms i ≡ at ns i
same_marks (leaf n k) ms ns e i h = grind arith
same_marks (one n k p) ms ns e i h = let g = same_marks p ms ns in grind arith
same_marks (two n k p q) ms ns e i h =
    let g = same_marks p ms ns in
    let f = same_marks q ms ns in
    grind arith

module _ (gs : List SignalKind) (ks : List Kind) (C : Checked gs ks) where
  S : Sound (length ks) (tree_at ks 0)
  S = sound ks gs (table gs ks C)

  abbrev tree_of : List Mark → Marked
  tree_of ms = marked (tree_at ks 0) ms

  -- the tree and the signals tell a configuration
  same_config : (c d : Config) → length c.0 ≡ length ks → length d.0 ≡ length ks
      → tree_of c.0 ≡ tree_of d.0 → c.1 ≡ d.1 → c ≡ d
  same_config c d l k e f =
      let a : c.0 ≡ d.0 = ext_get_or Idle c.0 d.0 (l ∙ sym k)
      (λ i h. same_marks (tree_at ks 0) c.0 d.0 e i (S.whole i (omega arith))) in
      ap₂ (λ (ms : List Mark) (x : Signals). (ms, x)) a f

  -- after the step at x, y is ready in the tree: so j, which stands at y, is ready
  then_at : (c : Config) (i j : ℕ) (x y : Pos) → StepOnTree gs ks C c i x
      → j ≡ number (tree_at ks 0) y
      → ReadyAt (apply (effect_at (tree_of c.0) x) c.1) (after (tree_of c.0) x) y
      → StepOnTree gs ks C (stepped ks c i) j y
  then_at c i j x y s e r =
      let d = stepped ks c i in
      step_on_tree gs ks C d j y s.many e
      (subst (λ (u : Signals). ReadyAt u (tree_of d.0) y) (sym s.signals)
      (subst (λ t. ReadyAt (apply (effect_at (tree_of c.0) x) c.1) t y) (sym s.marks) r))

  -- the theorem EitherOrder
  pub either_order : EitherOrder gs ks
  either_order c i j L d r r' =
      let a = placed_step gs ks C c i L r in
      let b = placed_step gs ks C c j L r' in
      let x = a.place in
      let y = b.place in
      let t = tree_of c.0 in
      let g = legal_root gs ks C c.0 L in
      let s = subst Scoped (sym (unmarked_marked (tree_at ks 0) c.0)) S.scoped in
      let n : ¬ (x ≡ y) = λ e. d (a.number_is ∙ ap (number (tree_at ks 0)) e ∙ sym b.number_is) in
      let k = commute c.1 t g s x y n a.is_ready b.is_ready in
      let k' = commute c.1 t g s y x (λ e. n (sym e)) b.is_ready a.is_ready in
      let u = then_at c i j x y a.step b.number_is k.ready in
      let v = then_at c j i y x b.step a.number_is k'.ready in
      let f = λ (z : Pos) (v : Marked) (e : Signals). apply (effect_at v z) e in (
        u.is_ready,
        same_config (stepped ks (stepped ks c i) j) (stepped ks (stepped ks c j) i) u.many v.many
            (u.marks ∙ ap (λ v. after v y) a.step.marks ∙ k.marks
            ∙ sym (v.marks ∙ ap (λ v. after v x) b.step.marks))
            (u.signals ∙ ap₂ (f y) a.step.marks a.step.signals ∙ k.signals
            ∙ sym (v.signals ∙ ap₂ (f x) b.step.marks b.step.signals)),
      )
