-- what each call answers, and the state that it leaves
use Rattle.std.specs.Prelude.{◌≡◌, ℕ, ◌+◌, ◌/◌, ◌%◌, ◌^◌, Bool, true, false, cond, not, ◌&&◌, List}
use Rattle.std.specs.Prelude.{length, Some, None, Option, ◌==◌, nat_lt, slice_index_or}
use Rattle.signals.specs.declared.board.TheConstants.{SIGNALS}
use Rattle.signals.specs.Sets.{empty, word_set}
use Rattle.routine.specs.declared.kinds.Kind.{Kind}
use Rattle.routine.specs.declared.kinds.SignalKind.{SignalKind}
use Rattle.routine.specs.declared.kinds.SignalKind.TheVariants.{Local}
use Rattle.routine.specs.declared.refusals.Refusal.{Refusal}
use Rattle.routine.specs.declared.refusals.Refusal.TheVariants.{AlreadyOpen, AlreadyOver}
use Rattle.routine.specs.declared.refusals.Refusal.TheVariants.{NoInstantLeft, NotInput}
use Rattle.routine.specs.declared.refusals.Refusal.TheVariants.{NotOpenToStep, NoSuchStatement}
use Rattle.routine.specs.declared.refusals.Refusal.TheVariants.{NotReady, NotOpenToClose}
use Rattle.routine.specs.declared.refusals.Refusal.TheVariants.{StillReady}
use Rattle.routine.specs.Search.{lowest}
use Rattle.routine.specs.Tree.{tree_at}
use Rattle.routine.specs.Meaning.{is_input, signal_at}
use Rattle.rules.specs.Rules.{Signals, over, ready, fire, effect_of, apply, ended}
use Rattle.rules.specs.Model.{word_from, is_output, outputs_of, status_of, first_marks, settled}
use Rattle.rules.specs.Model.{path, enough, Outcome, instant}
use Rattle.record.specs.declared.heads.TheConstants.{MOST_INSTANTS}
use Rattle.record.specs.declared.phases.Phase.{Phase}
use Rattle.record.specs.declared.phases.Phase.TheVariants.{Resting, Open, Over}
use Rattle.count.specs.declared.answers.Closing.{Closing}
use Rattle.record.specs.Phases.{phase_of}
use Rattle.record.specs.State.{State}

-- refused: the state before; or else t
abbrev pub after : Option Refusal → State → State → State
after None s t = t
after (Some e) s t = s

-- NEW: statement 0 begun, all else idle, nothing present
abbrev pub new_state : List Kind → State
new_state ks = record {
  phase = Resting;
  closed = 0;
  steps = 0;
  marks = first_marks ks;
  present = empty;
}

-- BEGIN. Bit s of the word
abbrev pub bit : ℕ → ℕ → Bool
bit word s = word / 2 ^ s % 2 == 1

-- the bit is set, and the signal is no input
abbrev pub is_not_input : List SignalKind → ℕ → ℕ → Bool
is_not_input gs word s = bit word s && not (is_input (slice_index_or gs s Local))

-- the lowest such bit
unfoldable pub first_not_input : List SignalKind → ℕ → Option ℕ
first_not_input gs word = lowest (is_not_input gs word) SIGNALS

abbrev pub not_input : Option ℕ → Option Refusal
not_input None = None
not_input (Some s) = Some (NotInput s)

abbrev pub begin_by : Phase → List SignalKind → ℕ → ℕ → Option Refusal
begin_by Open gs closed word = Some AlreadyOpen
begin_by Over gs closed word = Some AlreadyOver
begin_by Resting gs closed word =
    cond (closed == MOST_INSTANTS) (Some NoInstantLeft) (not_input (first_not_input gs word))

abbrev pub begin_refusal : List SignalKind → State → ℕ → Option Refusal
begin_refusal gs s word = begin_by s.phase gs s.closed word

abbrev pub begin_state : State → ℕ → State
begin_state s word = record {
  phase = Open;
  closed = s.closed;
  steps = 0;
  marks = s.marks;
  present = word_set word;
}

-- STEP
abbrev pub step_by : Phase → List Kind → State → ℕ → Option Refusal
step_by Open ks s k =
    cond (nat_lt k (length ks))
    (cond (ready (tree_at ks 0) s.marks s.present k) None (Some (NotReady k)))
    (Some (NoSuchStatement k))
step_by Resting ks s k = Some NotOpenToStep
step_by Over ks s k = Some NotOpenToStep

abbrev pub step_refusal : List Kind → State → ℕ → Option Refusal
step_refusal ks s k = step_by s.phase ks s k

-- steps stop growing at 65,535
abbrev pub one_more : ℕ → ℕ
one_more n = cond (nat_lt n 65535) (n + 1) n

abbrev pub step_state : List Kind → State → ℕ → State
step_state ks s k =
    record {
      phase = s.phase;
      closed = s.closed;
      steps = one_more s.steps;
      marks = fire (tree_at ks k) s.marks;
      present = apply (effect_of (tree_at ks k)) s.present;
    }

-- CLOSE. Signal i is an output and present
abbrev pub shown_out : List SignalKind → Signals → ℕ → Bool
shown_out gs e i = is_output (signal_at gs i) && slice_index_or e i false

-- w is the word of the numbers below n of which a test says yes, where the test answers as some P
-- does
abbrev pub IsWordOf : (ℕ → Bool → Type 0) → ℕ → ℕ → Type 0
IsWordOf says n w = (P : ℕ → Bool) → ((k : ℕ) (b : Bool) → says k b → b ≡ P k) → w ≡ word_from P n 0

abbrev pub still_ready : Option ℕ → Option Refusal
still_ready None = None
still_ready (Some k) = Some (StillReady k)

abbrev pub close_by : Phase → List Kind → State → Option Refusal
close_by Open ks s = still_ready (lowest (ready (tree_at ks 0) s.marks s.present) (length ks))
close_by Resting ks s = Some NotOpenToClose
close_by Over ks s = Some NotOpenToClose

abbrev pub close_refusal : List Kind → State → Option Refusal
close_refusal ks s = close_by s.phase ks s

abbrev pub closing : List SignalKind → List Kind → State → Closing
closing gs ks s =
    record {
      instant = s.closed + 1;
      outputs = outputs_of gs s.present;
      status = status_of (over (tree_at ks 0) s.marks);
      steps = s.steps;
    }

-- the phase after a closed instant: over, if statement 0 was
abbrev pub phase_after : Bool → Phase
phase_after true = Over
phase_after false = Resting

abbrev pub close_state : List Kind → State → State
close_state ks s =
    record {
      phase = phase_after (over (tree_at ks 0) s.marks);
      closed = s.closed + 1;
      steps = 0;
      marks = ended (tree_at ks 0) s.marks s.present;
      present = empty;
    }

-- REACT refuses as begin does; else what the model makes of the word, from the marks that the count
-- has
abbrev pub closing_of : ℕ → Outcome → Closing
closing_of closed o = record {
  instant = closed + 1;
  outputs = o.outputs;
  status = o.status;
  steps = o.steps;
}

abbrev pub react_closing : List SignalKind → List Kind → State → ℕ → Closing
react_closing gs ks s word = closing_of s.closed (instant gs ks s.marks word)

-- the state that it leaves
abbrev pub rested : ℕ → Outcome → State
rested closed o = record {
  phase = phase_of o.status;
  closed = closed + 1;
  steps = 0;
  marks = o.marks;
  present = empty;
}

abbrev pub react_state : List SignalKind → List Kind → State → ℕ → State
react_state gs ks s word = rested s.closed (instant gs ks s.marks word)

-- the statements that a reaction steps from an open instant: each time the lowest ready one, until
-- none is ready
abbrev pub steps_from : List Kind → State → List ℕ
steps_from ks s = path ks (enough ks) (s.marks, s.present)

-- where that leads, if there was no step before
abbrev pub settled_state : List Kind → State → State
settled_state ks s =
    record {
      phase = s.phase;
      closed = s.closed;
      steps = length (steps_from ks s);
      marks = (settled ks (enough ks) (s.marks, s.present)).0;
      present = (settled ks (enough ks) (s.marks, s.present)).1;
    }
