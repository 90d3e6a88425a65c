-- a record that is taken over: the state that it says, and that this state is sound
use Rattle.std.proofs.Common.{◌≡◌, ℕ, ◌<◌, ◌≤◌, List, length, take, get_or, None, Ok, sym, ap, ◌∙◌}
use Rattle.std.proofs.Common.{subst, ap₂, arith}
use Rattle.signals.specs.Sets.{word_set}
use Rattle.routine.specs.declared.kinds.Kind.{Kind}
use Rattle.routine.specs.declared.tables.TheConstants.{MOST_SIGNALS}
use Rattle.routine.specs.declared.kinds.SignalKind.{SignalKind}
use Rattle.rules.specs.Rules.{Mark, Signals}
use Rattle.record.specs.declared.reading.Saved.{Saved}
use Rattle.record.specs.Answers.{answer}
use Rattle.record.specs.Sound.{Sound}
use Rattle.record.specs.State.{State}
use Rattle.record.specs.Record.{record_of}
use Rattle.record.specs.Taking.{head_in, taking_refusal, saved_in, state_in}
use Rattle.record.proofs.Answered.{not_refused, answered}
use Rattle.record.proofs.Lists.{few_kinds, kinds_many, marks_cut}
use Rattle.record.proofs.SameBytes.{same_bytes}
use Rattle.record.proofs.Taken.{taken_sound}
use Rattle.routine.proofs.Whole.{some_statement}
use Rattle.count.specs.declared.machine.Rows.{Rows}
use Rattle.count.specs.View.{kinds_in, signals_in, marks_in, count_in, Marked}

-- not above the most
pub few_signals : (t : Rows) → length (signals_in t) ≤ MOST_SIGNALS
few_signals t = let s = t.routine.table.signals.ok.0 in let l = t.routine.table.few in omega arith

module _ (t u : Rows) (bytes : List ℕ) (small : (i : ℕ) → get_or bytes i 0 < 256) (saved : Saved)
    (e : Signals)
    (read : Ok saved ≡ answer (taking_refusal (signals_in t) (kinds_in t) bytes) (saved_in bytes))
    (put : Marked t u (take (count_in t) saved.marks))
    (shown : e ≡ word_set saved.head.present) where
  abbrev n : ℕ
  n = length (kinds_in t)

  -- it was not refused
  pub accepted : taking_refusal (signals_in t) (kinds_in t) bytes ≡ None
  accepted = not_refused (taking_refusal (signals_in t) (kinds_in t) bytes) saved
      (saved_in bytes) read

  same : saved ≡ saved_in bytes
  same = answered (taking_refusal (signals_in t) (kinds_in t) bytes) saved (saved_in bytes) read

  marked : marks_in u ≡ (state_in n bytes).marks
  marked =
      put.marks
      ∙ ap₂ (λ (k : ℕ) (ms : List Mark). take k ms) (sym (kinds_many t.routine.table))
      (ap (λ s. s.marks) same)
      ∙ marks_cut n bytes (few_kinds t.routine.table)

  abbrev restored : State
  restored = record {
    phase = saved.head.phase;
    closed = saved.head.closed;
    steps = saved.head.steps;
    marks = marks_in u;
    present = e;
  }

  -- the state that is left is the one that the record says
  pub taken : restored ≡ state_in n bytes
  unfolding head_in
  taken =
      ap₂ (λ (s : Saved) (ms : List Mark).
      record {
        phase = s.head.phase;
        closed = s.head.closed;
        steps = s.head.steps;
        marks = ms;
        present = e;
      }) same marked
      ∙ ap (λ (p : Signals). record {
        phase = (head_in bytes).phase;
        closed = (head_in bytes).closed;
        steps = (head_in bytes).steps;
        marks = (state_in n bytes).marks;
        present = p;
      })
      (shown ∙ ap (λ s. word_set s.head.present) same)

  -- its record is those same bytes
  pub again : record_of (length (signals_in u)) (length (kinds_in u)) restored ≡ bytes
  again =
      ap₂ (λ (g k : ℕ). record_of g k restored) (ap length put.signals) (ap length put.kinds)
      ∙ ap (record_of (length (signals_in t)) n) taken
      ∙ same_bytes (signals_in t) (kinds_in t) bytes (few_kinds t.routine.table) (few_signals t)
      small accepted

  -- and it is sound
  pub sound : Sound (signals_in u) (kinds_in u) restored
  sound =
      subst (λ (gs : List SignalKind). Sound gs (kinds_in u) restored) (sym put.signals)
      (subst (λ (ks : List Kind). Sound (signals_in t) ks restored) (sym put.kinds)
      (subst (Sound (signals_in t) (kinds_in t)) (sym taken)
      (taken_sound (signals_in t) (kinds_in t) bytes
      (some_statement t.routine) small accepted)))
