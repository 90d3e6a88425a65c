-- the theorem TakesTime: what cannot end at once is not over in the instant in which it is begun
use Rattle.std.proofs.Common.{List, ℕ, ◌<◌, length, subst, sym, ◌≡◌, true, ap, ◌∙◌, false}
use Rattle.std.proofs.lemmas.Bool.{false_from_ne_true, both_ways}
use Rattle.routine.specs.declared.kinds.Kind.{Kind}
use Rattle.routine.specs.declared.kinds.SignalKind.{SignalKind}
use Rattle.routine.specs.Tree.{tree_at, can_end, contains}
use Rattle.routine.proofs.Once.{Distinct, distinct}
use Rattle.routine.proofs.Trees.{under_below, in_under, in_contains}
use Rattle.rules.specs.Rules.{Tree, Mark, fire, Signals, ready, over, at, Idle, begun}
use Rattle.rules.specs.Theorems.{Checked, InsideSteps, none_yet, and_then, TakesTime}
use Rattle.rules.proofs.MarkedTrees.{unmarked, LegalTree, after, rest, live, begin}
use Rattle.rules.proofs.QuietInside.{over_says}
use Rattle.rules.proofs.LegalTrees.{after_legal, rest_legal, begin_legal}
use Rattle.rules.proofs.StepsLeft.{Turns, may}
use Rattle.rules.proofs.StepsFall.{falls, over_may, fresh}
use Rattle.rules.proofs.MarksIntoTrees.{marked, unmarked_marked, fired}
use Rattle.rules.proofs.Frames.{Fits, over_same, begun_same, begun_kept}
use Rattle.rules.proofs.StepsFromRoot.{ready_in, fired_kept}
use Rattle.rules.proofs.StepsAtPositions.{placed, step_at}
use Rattle.rules.proofs.IdleTrees.{rest_idle}
use Rattle.rules.proofs.TableTests.{Table}
use Rattle.rules.proofs.SoundTrees.{turns}
use Rattle.rules.proofs.RuleFromRoot.{from_root}
use Rattle.rules.proofs.TestsPassed.{table}

module _ (gs : List SignalKind) (ks : List Kind) (C : Checked gs ks) (i : ℕ)
    (l : i < length ks) where
  T : Table ks gs
  T = table gs ks C

  abbrev t : Tree
  t = tree_at ks i

  apart : Distinct t
  apart = distinct ks T.shaped T.once i l

  fits : Fits (length ks) t
  fits a h = (under_below ks T.shaped l (in_under ks T.shaped i l a h)).1

  turning : (ms : List Mark) → Turns (unmarked (marked t ms))
  turning ms = subst Turns (sym (unmarked_marked t ms)) (turns ks T.shaped T.turning i l)

  -- a step inside the statement
  record Moved (ms : List Mark) (j : ℕ) : Type 0 where
    legal : LegalTree (marked t (fire (tree_at ks j) ms))
    never : may (marked t (fire (tree_at ks j) ms)) ≡ true → may (marked t ms) ≡ true
    many : length (fire (tree_at ks j) ms) ≡ length ms

  moved : (ms : List Mark) (e : Signals) (j : ℕ) → length ms ≡ length ks → LegalTree (marked t ms)
      → ready t ms e j ≡ true → Moved ms j
  moved ms e j m g r =
      let o : fired t ms j ≡ fire (tree_at ks j) ms =
      (from_root ks T.shaped T.once ms e j i l (ready_in t ms e j r)).marks in
      let p = placed e ms j t g r in
      let s = (step_at (length ks) e t ms apart fits m p.0 p.2).marks in
      let x : marked t (fire (tree_at ks j) ms) ≡ after (marked t ms) p.0 =
      ap (marked t) (sym o ∙ ap (fired t ms) p.1) ∙ s in
      record {
        legal = subst LegalTree (sym x) (after_legal e (marked t ms) g p.0 p.2).0;
        never = λ w. (falls e (marked t ms) g (turning ms) p.0 p.2).never (ap may (sym x) ∙ w);
        many = ap length (sym o) ∙ (fired_kept t ms j).length;
      }

  stays : {ms ns : List Mark} → length ms ≡ length ks → LegalTree (marked t ms)
      → may (marked t ms) ≡ false → InsideSteps ks i ms ns → over t ns ≡ false
  stays {ms = ms} m g f none_yet =
      false_from_ne_true (over t ms) (λ o.
      both_ways _ f (over_may (marked t ms) g
      (over_says (marked t ms) g (sym (over_same t ms) ∙ o))))
  stays {ms = ms} m g f (and_then e j r rest_of) =
      let u = moved ms e j m g r in
      stays (u.many ∙ m) u.legal (false_from_ne_true _ (λ w. both_ways _ f (u.never w))) rest_of

  ends_later : (ms ns : List Mark) → length ms ≡ length ks → can_end t ≡ false
      → ((j : ℕ) → contains t j ≡ true → at ms j ≡ Idle)
      → InsideSteps ks i (begun t ms) ns → over t ns ≡ false
  ends_later ms ns m c h s =
      let z : rest (marked t ms) ≡ marked t ms =
      rest_idle t ms (λ j u. h j (in_contains t j u)) in
      let r = rest_legal (marked t ms) in
      let g : LegalTree (marked t ms) = subst LegalTree z r.0 in
      let b : live (marked t ms) ≡ false = sym (ap live z) ∙ r.1 in
      let e : marked t (begun t ms) ≡ begin (marked t ms) =
      begun_same (length ks) t ms apart fits m in
      let f : may (marked t (begun t ms)) ≡ false =
      ap may e ∙ (fresh (marked t ms) g b).ending ∙ ap can_end (unmarked_marked t ms) ∙ c in
      stays ((begun_kept t ms).length ∙ m)
      (subst LegalTree (sym e) (begin_legal (marked t ms) g b).0) f s

-- the theorem
pub takes_time : (gs : List SignalKind) (ks : List Kind) → Checked gs ks → TakesTime gs ks
takes_time gs ks C i ms ns l m c h s = ends_later gs ks C i l ms ns m c h s
