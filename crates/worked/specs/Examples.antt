-- an example of a routine, and what is claimed of it
use Rattle.std.specs.Prelude.{◌≡◌, ℕ, ◌+◌, ◌≤◌, List, [], ◌∷◌, ◌++◌, length, map, All, None, Option}
use Rattle.routine.specs.declared.kinds.SignalKind.{SignalKind}
use Rattle.routine.specs.declared.kinds.Kind.{Kind}
use Rattle.routine.specs.declared.refusals.Refusal.{Refusal}
use Rattle.routine.specs.declared.tables.TheConstants.{MOST_SIGNALS, MOST_STATEMENTS}
use Rattle.routine.specs.Layout.{Formed}
use Rattle.routine.specs.Meaning.{check_of}
use Rattle.rules.specs.declared.status.Status.{Status}
use Rattle.rules.specs.Model.{Outcome, model}
use Rattle.count.specs.Calls.{new_state, first_not_input}
use Rattle.relay.specs.Asked.{Asked}
use Rattle.relay.specs.History.{Transition, trace}
use Rattle.worked.specs.declared.worked.Summary.{Summary}

-- a routine, and what is said of it
pub record Example : Type 0 where
  pub number : ℕ
  pub signals : List SignalKind
  pub kinds : List Kind
  -- what the check refuses it with, if it does
  pub refusal : Option Refusal
  -- input words, one after another, each with what it comes to: the outputs, the status, the steps
  pub words : List (ℕ × (ℕ × Status × ℕ))
  -- calls on a new count, one after another, each with what it comes to
  pub calls : List (Asked × Transition)

-- the left of each pair
abbrev pub firsts : {A B : Type 0} → List (A × B) → List A
firsts ps = map (λ p. p.0) ps

-- the right of each pair
abbrev pub seconds : {A B : Type 0} → List (A × B) → List B
seconds ps = map (λ p. p.1) ps

-- what an example says of an instant: the outputs, the status, the steps
abbrev pub entry_of : Outcome → ℕ × Status × ℕ
entry_of o = (o.outputs, o.status, o.steps)

-- all that an example says is so
pub record Holds (x : Example) : Type 0 where
  -- it has the form of a table
  pub few_signals : length x.signals ≤ MOST_SIGNALS
  pub few_statements : (1 ≤ length x.kinds) × (length x.kinds ≤ MOST_STATEMENTS)
  pub formed : Formed (length x.signals) x.kinds
  -- the check of its meaning refuses it so, or not at all
  pub checked : check_of x.signals x.kinds ≡ x.refusal
  -- no word has a bit that is no input
  pub inputs : All (λ word. first_not_input x.signals word ≡ None) (firsts x.words)
  -- each word comes to what is said beside it, by the plain model
  pub words : map entry_of (model x.signals x.kinds (firsts x.words)) ≡ seconds x.words
  -- and each call, by the trace of the calls on a new count
  pub calls : trace x.signals x.kinds (new_state x.kinds) (firsts x.calls) ≡ seconds x.calls

-- the summaries of the model's outcomes for routine k, from instant i on
abbrev pub lines_from : ℕ → ℕ → List Outcome → List Summary
lines_from k i [] = []
lines_from k i (o ∷ os) =
    record { routine = k; instant = i; outputs = o.outputs; status = o.status; steps = o.steps }
    ∷ lines_from k (i + 1) os

-- a summary for each word of each example
abbrev pub lines : List Example → List Summary
lines [] = []
lines (x ∷ xs) = lines_from x.number 1 (model x.signals x.kinds (firsts x.words)) ++ lines xs
