-- the step of a ready statement, in the words of the model, is a step of the routine's tree
use Rattle.std.proofs.Common.{List, length, true, ℕ, ◌≡◌, subst, sym, ap, ◌∙◌, ◌<◌, ◌≤◌, ◌*◌, arith}
use Rattle.routine.specs.declared.kinds.Kind.{Kind}
use Rattle.routine.specs.declared.kinds.SignalKind.{SignalKind}
use Rattle.routine.specs.Tree.{tree_at, size}
use Rattle.rules.specs.Legal.{Legal}
use Rattle.rules.specs.Model.{Config, Ready, stepped}
use Rattle.rules.specs.Rules.{Mark, apply, Signals, ready}
use Rattle.rules.specs.Theorems.{Checked}
use Rattle.rules.proofs.MarkedTrees.{Marked, LegalTree, Pos, after, effect_at, ReadyAt}
use Rattle.rules.proofs.StepsLeft.{steps_left, Turns}
use Rattle.rules.proofs.StepsFall.{falls, bounded}
use Rattle.rules.proofs.MarksIntoTrees.{marked, unmarked_marked}
use Rattle.rules.proofs.StepsFromRoot.{fired_kept, ready_in}
use Rattle.rules.proofs.StepsAtPositions.{number, step_at, position_in, placed}
use Rattle.rules.proofs.TableTests.{Table}
use Rattle.rules.proofs.SoundTrees.{Sound, sound}
use Rattle.rules.proofs.LegalByStatement.{to_legal, rows}
use Rattle.rules.proofs.RuleFromRoot.{from_root}
use Rattle.rules.proofs.TestsPassed.{table}

module _ (gs : List SignalKind) (ks : List Kind) (C : Checked gs ks) where
  T : Table ks gs
  T = table gs ks C

  S : Sound (length ks) (tree_at ks 0)
  S = sound ks gs T

  -- the tree of the routine, with the marks of a list
  abbrev pub tree_of : List Mark → Marked
  tree_of ms = marked (tree_at ks 0) ms

  -- its marks are legal
  pub legal_root : (ms : List Mark) → Legal true ks ms → LegalTree (tree_of ms)
  legal_root ms L = to_legal ks gs T ms (rows true ks ms L)

  -- the step of statement i, ready at c, is the step at x
  pub record StepOnTree (c : Config) (i : ℕ) (x : Pos) : Type 0 where
    pub is_ready : Ready ks c i
    pub marks : tree_of (stepped ks c i).0 ≡ after (tree_of c.0) x
    pub signals : (stepped ks c i).1 ≡ apply (effect_at (tree_of c.0) x) c.1
    pub many : length (stepped ks c i).0 ≡ length ks

  -- so is the step of the statement at a position that is ready
  pub step_on_tree : (c : Config) (i : ℕ) (x : Pos) → length c.0 ≡ length ks
      → i ≡ number (tree_at ks 0) x → ReadyAt c.1 (tree_of c.0) x → StepOnTree c i x
  step_on_tree c i x l e r =
      subst (λ j. StepOnTree c j x) (sym e)
      (let s = step_at (length ks) c.1 (tree_at ks 0) c.0 S.distinct S.below l x r in
      let j = number (tree_at ks 0) x in
      let o = from_root ks T.shaped T.once c.0 c.1 j 0 T.some_row
      (position_in c.1 c.0 (tree_at ks 0) x r) in
      record {
        is_ready = s.is_ready;
        marks = ap tree_of (sym o.marks) ∙ s.marks;
        signals = ap (λ f. apply f c.1) (sym o.effects ∙ s.effects);
        many = ap length (sym o.marks) ∙ (fired_kept (tree_at ks 0) c.0 j).length ∙ l;
      })

  -- what is ready stands at a position that is, and its step is the step there
  pub record PlacedStep (c : Config) (i : ℕ) : Type 0 where
    pub place : Pos
    pub number_is : i ≡ number (tree_at ks 0) place
    pub is_ready : ReadyAt c.1 (tree_of c.0) place
    pub step : StepOnTree c i place

  -- what is ready has such a place, where marks are legal
  pub placed_step : (c : Config) (i : ℕ) → Legal true ks c.0 → Ready ks c i → PlacedStep c i
  placed_step c i L r =
      let p = placed c.1 c.0 i (tree_at ks 0) (legal_root c.0 L) r in
      record {
        place = p.0;
        number_is = p.1;
        is_ready = p.2;
        step = step_on_tree c i p.0 L.many p.1 p.2;
      }

  -- each step lets the steps that are left fall
  pub falls_here : (c : Config) (i : ℕ) → Legal true ks c.0 → Ready ks c i
      → steps_left (tree_of (stepped ks c i).0) < steps_left (tree_of c.0)
  falls_here c i L r =
      let x = placed_step c i L r in
      let turning = subst Turns (sym (unmarked_marked (tree_at ks 0) c.0)) S.turns in
      subst (λ t. steps_left t < steps_left (tree_of c.0)) (sym x.step.marks)
      (falls c.1 (tree_of c.0) (legal_root c.0 L) turning x.place x.is_ready).less

  -- no more than 4 steps are left for each statement
  pub left_most : (ms : List Mark) → Legal true ks ms → steps_left (tree_of ms) ≤ 4 * length ks
  left_most ms L =
      let a = (bounded (tree_of ms) (legal_root ms L)).always in
      let c = ap size (unmarked_marked (tree_at ks 0) ms) in
      let d = S.small in
      omega arith

  -- what is ready is a statement
  pub ready_below : (i : ℕ) (ms : List Mark) (e : Signals) → ready (tree_at ks 0) ms e i ≡ true
      → i < length ks
  ready_below i ms e r = S.below i (ready_in (tree_at ks 0) ms e i r)
