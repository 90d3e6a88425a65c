-- the history of a count: the trace of the calls on it, and the states; no board occurs in it
use Rattle.std.specs.Prelude.{ℕ, length, List, [], ◌∷◌, Some, None, Option}
use Rattle.routine.specs.declared.kinds.Kind.{Kind}
use Rattle.routine.specs.declared.kinds.SignalKind.{SignalKind}
use Rattle.routine.specs.declared.refusals.Refusal.{Refusal}
use Rattle.rules.specs.Rules.{Mark}
use Rattle.record.specs.State.{State}
use Rattle.record.specs.Taking.{taking_refusal, state_in}
use Rattle.count.specs.declared.answers.Closing.{Closing}
use Rattle.count.specs.Calls.{after, begin_refusal, begin_state, step_refusal, step_state}
use Rattle.count.specs.Calls.{close_refusal, closing, close_state, react_closing, react_state}
use Rattle.count.specs.Calls.{steps_from}
use Rattle.relay.specs.Asked.{Asked, begin, step, close, react, take_over}

-- a transition: what a call came to. A close and a react have the closing and the marks that
-- remain; a react has the statements that it stepped too, in their order
pub data Transition : Type 0 where
  begins : (word : ℕ) → Transition
  steps : (statement : ℕ) → Transition
  closes : Closing → List Mark → Transition
  reacts : (word : ℕ) → Closing → List Mark → List ℕ → Transition
  takes_over : Transition
  refuses : Refusal → Transition

-- p, or the refusal if there is one
abbrev pub if_accepted : Option Refusal → Transition → Transition
if_accepted None p = p
if_accepted (Some r) p = refuses r

-- the transition of a call in state s
abbrev pub transition_of : List SignalKind → List Kind → State → Asked → Transition
transition_of gs ks s (begin word) = if_accepted (begin_refusal gs s word) (begins word)
transition_of gs ks s (step k) = if_accepted (step_refusal ks s k) (steps k)
transition_of gs ks s close =
    if_accepted (close_refusal ks s) (closes (closing gs ks s) (close_state ks s).marks)
transition_of gs ks s (react word) =
    if_accepted (begin_refusal gs s word)
    (reacts word (react_closing gs ks s word) (react_state gs ks s word).marks
    (steps_from ks (begin_state s word)))
transition_of gs ks s (take_over bytes) = if_accepted (taking_refusal gs ks bytes) takes_over

-- the state that the call leaves: s itself where it is refused
abbrev pub after_call : List SignalKind → List Kind → State → Asked → State
after_call gs ks s (begin word) = after (begin_refusal gs s word) s (begin_state s word)
after_call gs ks s (step k) = after (step_refusal ks s k) s (step_state ks s k)
after_call gs ks s close = after (close_refusal ks s) s (close_state ks s)
after_call gs ks s (react word) = after (begin_refusal gs s word) s (react_state gs ks s word)
after_call gs ks s (take_over bytes) =
    after (taking_refusal gs ks bytes) s (state_in (length ks) bytes)

-- the trace of a list of calls: the transitions that they come to from state s on
unfoldable pub trace : List SignalKind → List Kind → State → List Asked → List Transition
trace gs ks s [] = []
trace gs ks s (c ∷ cs) = transition_of gs ks s c ∷ trace gs ks (after_call gs ks s c) cs

-- the state that a list of calls leaves
unfoldable pub after_calls : List SignalKind → List Kind → State → List Asked → State
after_calls gs ks s [] = s
after_calls gs ks s (c ∷ cs) = after_calls gs ks (after_call gs ks s c) cs
