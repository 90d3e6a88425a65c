-- what is known of a state in which a step or a close is accepted
use Rattle.std.proofs.Common.{◌≡◌, ℕ, Bool, true, false, cond, ltb, List, length, Some, None}
use Rattle.std.proofs.Common.{Option, refl, arith}
use Rattle.routine.specs.declared.kinds.Kind.{Kind}
use Rattle.routine.specs.declared.refusals.Refusal.{Refusal}
use Rattle.routine.specs.Search.{lowest}
use Rattle.routine.specs.Tree.{tree_at}
use Rattle.rules.specs.Rules.{ready}
use Rattle.record.specs.declared.phases.Phase.{Phase}
use Rattle.record.specs.declared.phases.Phase.TheVariants.{Resting, Open, Over}
use Rattle.record.specs.Phases.{is_open}
use Rattle.record.specs.State.{State}
use Rattle.count.specs.Calls.{step_by, close_by, still_ready}

-- a call that is accepted has no refusal
pub never_refused : {P : Type 0} {r : Refusal} → Some r ≡ None → P
never_refused h = absurd (let z : ◌≡◌ {A = ℕ} 0 1 = cc in omega arith)

both_tests : (below here : Bool) (r q : Refusal)
    → cond below (cond here None (Some r)) (Some q) ≡ None → here ≡ true
both_tests true true r q h = refl
both_tests true false r q h = never_refused h
both_tests false here r q h = never_refused h

-- an accepted step: an instant is open, and the statement is ready
pub was_ready : (p : Phase) (ks : List Kind) (s : State) (k : ℕ) → step_by p ks s k ≡ None
    → (is_open p ≡ true) × (ready (tree_at ks 0) s.marks s.present k ≡ true)
was_ready Open ks s k h =
    (refl, both_tests (ltb k (length ks)) (ready (tree_at ks 0) s.marks s.present k) _ _ h)
was_ready Resting ks s k h = never_refused h
was_ready Over ks s k h = never_refused h

none_found : (o : Option ℕ) → still_ready o ≡ None → o ≡ None
none_found None h = refl
none_found (Some k) h = never_refused h

-- an accepted close: an instant is open, and no statement is ready
pub none_ready : (p : Phase) (ks : List Kind) (s : State) → close_by p ks s ≡ None
    → (is_open p ≡ true) × (lowest (ready (tree_at ks 0) s.marks s.present) (length ks) ≡ None)
none_ready Open ks s h = (refl, none_found _ h)
none_ready Resting ks s h = never_refused h
none_ready Over ks s h = never_refused h
