-- a count's state, and what a call does to it
use Rattle.std.specs.Prelude.{◌≡◌, ℕ, Bool, List, length, IfErr, Option, Result}
use Rattle.routine.specs.declared.kinds.Kind.{Kind}
use Rattle.routine.specs.declared.kinds.SignalKind.{SignalKind}
use Rattle.routine.specs.declared.refusals.Refusal.{Refusal}
use Rattle.signals.specs.declared.board.Board.{Ghosts}
use Rattle.count.specs.declared.answers.Closing.{Closing}
use Rattle.count.specs.declared.counts.Count.{Count}
use Rattle.record.specs.State.{State}
use Rattle.record.specs.Answers.{answer}
use Rattle.record.specs.Taking.{taking_refusal, state_in}
use Rattle.count.specs.View.{kinds_in, marks_in, signals_in}
use Rattle.count.specs.Calls.{after, begin_refusal, begin_state, step_refusal, step_state}
use Rattle.count.specs.Calls.{close_refusal, closing, close_state, react_closing, react_state}

module _ {B : Type 0} {G : Ghosts B} where
  -- the kinds of its statements, and its signals
  abbrev pub kinds_of : Count B G → List Kind
  kinds_of c = kinds_in c.rows

  abbrev pub signals_of : Count B G → List SignalKind
  signals_of c = signals_in c.rows

  -- its state; the set is the board's own, in every phase
  abbrev pub state_of : (B → List Bool) → Count B G → State
  state_of present c = record {
    phase = c.phase;
    closed = c.closed;
    steps = c.steps;
    marks = marks_in c.rows;
    present = present c.board;
  }

  -- d has the routine of c
  pub record SameRoutine (c d : Count B G) : Type 0 where
    pub kinds : kinds_of d ≡ kinds_of c
    pub signals : signals_of d ≡ signals_of c

  -- a call on c that answers r and leaves d: refused for a reason, with c as it was, board
  -- included; or else it answers x and leaves the state t
  pub record Does {X : Type 0} (present : B → List Bool) (c d : Count B G) (r : Result X Refusal)
      (why : Option Refusal) (x : X) (t : State) : Type 0 where
    pub says : r ≡ answer why x
    pub leaves : state_of present d ≡ after why (state_of present c) t
    pub kinds : kinds_of d ≡ kinds_of c
    pub signals : signals_of d ≡ signals_of c
    pub kept : IfErr r (λ _. d ≡ c)

  -- begin, step, close, react and take over, each by its definitions in Calls or Taking
  abbrev pub Begins : (B → List Bool) → Count B G → Count B G → ℕ → Result (Unit {0}) Refusal
      → Type 0
  Begins present c d word r =
      Does present c d r (begin_refusal (signals_of c) (state_of present c) word) tt
      (begin_state (state_of present c) word)

  abbrev pub Steps : (B → List Bool) → Count B G → Count B G → ℕ → Result (Unit {0}) Refusal
      → Type 0
  Steps present c d k r = Does present c d r (step_refusal (kinds_of c) (state_of present c) k) tt
      (step_state (kinds_of c) (state_of present c) k)

  abbrev pub Closes : (B → List Bool) → Count B G → Count B G → Result Closing Refusal → Type 0
  Closes present c d r = Does present c d r (close_refusal (kinds_of c) (state_of present c))
      (closing (signals_of c) (kinds_of c) (state_of present c))
      (close_state (kinds_of c) (state_of present c))

  abbrev pub Reacts : (B → List Bool) → Count B G → Count B G → ℕ → Result Closing Refusal → Type 0
  Reacts present c d word r =
      Does present c d r (begin_refusal (signals_of c) (state_of present c) word)
      (react_closing (signals_of c) (kinds_of c) (state_of present c) word)
      (react_state (signals_of c) (kinds_of c) (state_of present c) word)

  abbrev pub TakesOver : (B → List Bool) → Count B G → Count B G → List ℕ
      → Result (Unit {0}) Refusal → Type 0
  TakesOver present c d bytes r =
      Does present c d r (taking_refusal (signals_of c) (kinds_of c) bytes) tt
      (state_in (length (kinds_of c)) bytes)
