-- from one count to another by a record
use Rattle.std.proofs.Common.{◌≡◌, ℕ, ◌^◌, ◌<◌, ◌≤◌, List, length, ap, ◌∙◌}
use Rattle.routine.specs.declared.kinds.Kind.{Kind}
use Rattle.routine.specs.declared.kinds.SignalKind.{SignalKind}
use Rattle.routine.specs.declared.tables.TheConstants.{MOST_SIGNALS, MOST_STATEMENTS}
use Rattle.signals.specs.declared.board.Board.{Ghosts}
use Rattle.signals.specs.declared.board.TheConstants.{SIGNALS}
use Rattle.record.specs.Phases.{is_open}
use Rattle.record.specs.Record.{record_of}
use Rattle.record.specs.Sound.{Sound}
use Rattle.record.specs.State.{State}
use Rattle.record.specs.Taking.{taking_refusal, state_in}
use Rattle.record.proofs.Restored.{restored}
use Rattle.count.specs.declared.counts.Count.{Count}
use Rattle.count.specs.Calls.{after}
use Rattle.count.specs.CountView.{kinds_of, signals_of, state_of}
use Rattle.count.proofs.Sound.{legal}

-- a count's state is sound
module _ {B : Type 0} {G : Ghosts B} (size : (b : B) → length (G.present b) ≡ SIGNALS)
    (d : Count B G) (closed : d.closed < 2 ^ 32) (steps : d.steps < 2 ^ 16) where
  pub sound_count : Sound (signals_of d) (kinds_of d) (state_of G.present d)
  sound_count =
      record {
        legal = legal d.rows (is_open d.phase) d.legal;
        finished = d.finished;
        no_steps = d.no_steps;
        no_signals = d.no_signals;
        within = d.within;
        sized = size d.board;
        room = d.room;
        closed_fits = closed;
        steps_fit = steps;
      }

-- a sound state comes back from its record
pub comes_back : (gs hs : List SignalKind) (ks ls : List Kind) (s t u : State) (bytes : List ℕ)
    → length ks ≤ MOST_STATEMENTS → length gs ≤ MOST_SIGNALS → Sound gs ks s
    → bytes ≡ record_of (length gs) (length ks) s → hs ≡ gs → ls ≡ ks
    → u ≡ after (taking_refusal hs ls bytes) t (state_in (length ls) bytes) → u ≡ s
comes_back gs hs ks ls s t u bytes n g sound written e f leaves =
    let back = restored gs ks s n g sound in
    leaves ∙ ap (λ (xs : List SignalKind).
    after (taking_refusal xs ls bytes) t (state_in (length ls) bytes)) e
    ∙ ap (λ (ys : List Kind). after (taking_refusal gs ys bytes) t (state_in (length ys) bytes)) f
    ∙ ap (λ b. after (taking_refusal gs ks b) t (state_in (length ks) b)) written
    ∙ ap (λ o. after o t (state_in (length ks) (record_of (length gs) (length ks) s))) back.0
    ∙ back.1
