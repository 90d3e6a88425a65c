-- which states a count of a routine can be at
use Rattle.std.specs.Prelude.{◌≡◌, ℕ, ◌^◌, ◌<◌, ◌≤◌, true, false, List, length, slice_index_or}
use Rattle.routine.specs.declared.kinds.Kind.{Kind}
use Rattle.routine.specs.declared.kinds.SignalKind.{SignalKind}
use Rattle.routine.specs.Tree.{tree_at}
use Rattle.signals.specs.declared.board.TheConstants.{SIGNALS}
use Rattle.signals.specs.Sets.{empty}
use Rattle.rules.specs.Rules.{Signals, over}
use Rattle.rules.specs.Legal.{Legal}
use Rattle.record.specs.declared.heads.TheConstants.{MOST_INSTANTS}
use Rattle.record.specs.Phases.{is_open, is_over}
use Rattle.record.specs.State.{State}

-- the present signals are signals of the routine, which has g
abbrev pub Within : ℕ → Signals → Type 0
Within g e = (s : ℕ) → g ≤ s → slice_index_or e s false ≡ false

-- the marks are legal, and at the end statement 0 is over; outside an open instant no step is
-- counted and no signal is present; an open instant has a number; the numbers fit their types
pub record Sound (gs : List SignalKind) (ks : List Kind) (s : State) : Type 0 where
  pub legal : Legal (is_open s.phase) ks s.marks
  pub finished : is_over s.phase ≡ true → over (tree_at ks 0) s.marks ≡ true
  pub no_steps : is_open s.phase ≡ false → s.steps ≡ 0
  pub no_signals : is_open s.phase ≡ false → s.present ≡ empty
  pub within : Within (length gs) s.present
  pub sized : length s.present ≡ SIGNALS
  pub room : is_open s.phase ≡ true → s.closed < MOST_INSTANTS
  pub closed_fits : s.closed < 2 ^ 32
  pub steps_fit : s.steps < 2 ^ 16
