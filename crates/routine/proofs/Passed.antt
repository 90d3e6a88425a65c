-- what a table that passes has
use Rattle.std.proofs.Common.{◌≡◌, ℕ, ◌<◌, true, false, not, List, length, is_some, Some, None}
use Rattle.std.proofs.Common.{Option, refl, arith}
use Rattle.routine.specs.declared.kinds.SignalKind.{SignalKind}
use Rattle.routine.specs.declared.kinds.Kind.{Kind}
use Rattle.routine.specs.declared.refusals.Refusal.{Refusal}
use Rattle.routine.specs.declared.refusals.Refusal.TheVariants.{Parts, SignalUse, Scope}
use Rattle.routine.specs.declared.refusals.Refusal.TheVariants.{EndlessLoop}
use Rattle.routine.specs.Search.{lowest}
use Rattle.routine.specs.Kinds.{kind_at}
use Rattle.routine.specs.Meaning.{is_misnamed, misuses, unscoped, endless, refusing, check_of}
use Rattle.routine.specs.Meaning.{passes}
use Rattle.routine.proofs.Searches.{none_below}
use Rattle.routine.proofs.Once.{Once}

-- each test, of each statement
pub record Tested (gs : List SignalKind) (ks : List Kind) : Type 0 where
  pub parts : (i : ℕ) → i < length ks → is_misnamed ks i ≡ false
  pub uses : (i : ℕ) → i < length ks → misuses gs (kind_at ks i) ≡ false
  pub scopes : (i : ℕ) → i < length ks → unscoped gs ks i (kind_at ks i) ≡ false
  pub loops : (i : ℕ) → i < length ks → endless ks (kind_at ks i) ≡ false

nothing_found : (o : Option ℕ) (why : ℕ → Refusal) (later : Option Refusal)
    → not (is_some (refusing o why later)) ≡ true
    → (o ≡ None) × (not (is_some later) ≡ true)
nothing_found None why later h = (refl, h)
nothing_found (Some i) why later h = absurd (grind arith)

-- a table that passes passed each test
pub tested : (gs : List SignalKind) (ks : List Kind) → passes gs ks ≡ true → Tested gs ks
unfolding check_of
tested gs ks h =
    let n = length ks in
    let a = nothing_found (lowest (is_misnamed ks) n) Parts _ h in
    let b = nothing_found (lowest (λ i. misuses gs (kind_at ks i)) n) SignalUse _ a.1 in
    let c = nothing_found (lowest (λ i. unscoped gs ks i (kind_at ks i)) n) Scope _ b.1 in
    let d = nothing_found (lowest (λ i. endless ks (kind_at ks i)) n) EndlessLoop None c.1 in
    record {
      parts = none_below (is_misnamed ks) n a.0;
      uses = none_below (λ i. misuses gs (kind_at ks i)) n b.0;
      scopes = none_below (λ i. unscoped gs ks i (kind_at ks i)) n c.0;
      loops = none_below (λ i. endless ks (kind_at ks i)) n d.0;
    }

-- so each statement but the first is named once
pub once : (gs : List SignalKind) (ks : List Kind) → passes gs ks ≡ true → Once ks
once gs ks h a b l = let p = (tested gs ks h).parts a l in grind arith
