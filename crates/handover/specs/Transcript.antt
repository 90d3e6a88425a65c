-- what a transcript has of the events of a relay
use Rattle.std.specs.Prelude.{◌≡◌, ℕ, List, ◌++◌, string_bytes, vec_items}
use Rattle.std.specs.List.{flat_map}
use Rattle.routine.specs.declared.kinds.Kind.{Kind}
use Rattle.routine.specs.declared.kinds.SignalKind.{SignalKind}
use Rattle.relay.specs.Asked.{Asked}
use Rattle.relay.specs.History.{Transition}
use Rattle.relay.specs.ClosedInstants.{closed_instants, left_open}
use Rattle.handover.specs.declared.transcripts.Transcript.{Transcript}
use Rattle.handover.specs.RelayTexts.{trace_lines, instant_line}
use Rattle.handover.specs.Story.{relay_text, instants_text, text_of, instants_of}

-- the events of the trace ps were written, of a routine of n statements
pub record WritesEvents (n : ℕ) (old new : Transcript) (ps : List Transition) : Type 0 where
  pub text : string_bytes new.text ≡ string_bytes old.text ++ trace_lines (vec_items old.stepped) ps
  pub instants : string_bytes new.instants
      ≡ string_bytes old.instants
      ++ flat_map instant_line (closed_instants n (vec_items old.stepped) ps)
  pub stepped : vec_items new.stepped ≡ left_open (vec_items old.stepped) ps

-- a whole relay was written: the trace on the first board, the record, and the trace on the second
pub record WritesRelay (n : ℕ) (before : List Transition) (handed : List ℕ)
    (later : List Transition) (t : Transcript) : Type 0 where
  pub text : string_bytes t.text ≡ relay_text before handed later
  pub instants : string_bytes t.instants ≡ instants_text n (before ++ later)

-- t is the transcript of the relay of the calls cs and ds
pub record IsTranscript (gs : List SignalKind) (ks : List Kind) (cs ds : List Asked)
    (t : Transcript) : Type 0 where
  pub text : string_bytes t.text ≡ text_of gs ks cs ds
  pub instants : string_bytes t.instants ≡ instants_of gs ks cs ds
