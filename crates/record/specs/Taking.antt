-- which bytes are the record of a sound state, and of which
use Rattle.std.specs.Prelude.{ℕ, ◌+◌, ◌^◌, Bool, true, false, cond, not, ◌&&◌, ◌||◌, List, length}
use Rattle.std.specs.Prelude.{map, is_some, Some, None, Option, Result, ◌==◌, nat_lt, nat_le}
use Rattle.std.specs.Prelude.{slice_index, slice_index_or}
use Rattle.std.specs.List.{list_any, range_with_len}
use Rattle.std.specs.Int.{w16, w32, w64, from_le_bytes}
use Rattle.routine.specs.declared.kinds.Kind.{Kind}
use Rattle.routine.specs.declared.kinds.SignalKind.{SignalKind}
use Rattle.routine.specs.declared.refusals.Refusal.{Refusal}
use Rattle.routine.specs.declared.refusals.Refusal.TheVariants.{RecordForm, RecordHead, RecordMarks}
use Rattle.routine.specs.declared.tables.TheConstants.{MOST_STATEMENTS}
use Rattle.routine.specs.Search.{lowest}
use Rattle.routine.specs.Tree.{tree_at}
use Rattle.signals.specs.Sets.{word_set}
use Rattle.rules.specs.Rules.{Mark, Idle, Waiting, UnderWay, Done, over}
use Rattle.rules.specs.Legal.{keeps}
use Rattle.record.specs.declared.phases.Phase.{Phase}
use Rattle.record.specs.declared.phases.Phase.TheVariants.{Resting, Open, Over}
use Rattle.record.specs.declared.heads.Head.{Head}
use Rattle.record.specs.declared.heads.HeadFault.{HeadFault}
use Rattle.record.specs.declared.heads.HeadFault.TheVariants.{NoPhase, NoNumber, WrongSteps}
use Rattle.record.specs.declared.heads.HeadFault.TheVariants.{WrongSignals}
use Rattle.record.specs.declared.heads.TheConstants.{MOST_INSTANTS, CLOSED_OFFSET, STEPS_OFFSET}
use Rattle.record.specs.declared.heads.TheConstants.{PRESENT_OFFSET}
use Rattle.record.specs.declared.layout.TheConstants.{HEAD_START, MARKS_START, RECORD_BYTES}
use Rattle.record.specs.declared.reading.Saved.{Saved}
use Rattle.record.specs.Phases.{is_open, is_over}
use Rattle.record.specs.Answers.{answer}
use Rattle.record.specs.State.{State}
use Rattle.record.specs.Record.{contents}

-- so many bytes from place p on
abbrev pub part : List ℕ → ℕ → ℕ → List ℕ
part bytes n p = map (slice_index bytes) (range_with_len p n)

-- FORM: as many bytes as a record has, the contents for n statements, and zeros after n marks. The
-- places of the contents and of the zeros: all records of n statements have the same bytes there
abbrev pub is_fixed : ℕ → ℕ → Bool
is_fixed n i = nat_lt i HEAD_START || nat_le (MARKS_START + n) i

-- another byte stands at such a place
abbrev pub is_wrong : ℕ → List ℕ → ℕ → Bool
is_wrong n bytes i = is_fixed n i && not (slice_index bytes i == slice_index (contents n) i)

-- no byte is wrong
unfoldable pub is_fixed_right : ℕ → List ℕ → Bool
is_fixed_right n bytes = not (list_any (is_wrong n bytes) (range_with_len 0 RECORD_BYTES))

unfoldable pub has_form : ℕ → List ℕ → Bool
has_form n bytes = (length bytes == RECORD_BYTES) && is_fixed_right n bytes

-- HEAD. A byte above 2 is no phase
abbrev pub phase_in : ℕ → Option Phase
phase_in b = cond (b == 0) (Some Resting)
    (cond (b == 1) (Some Open) (cond (b == 2) (Some Over) None))

-- the closed instants, the steps and the present word that stand in the head
abbrev pub closed_in : List ℕ → ℕ
closed_in bytes = from_le_bytes w32 (part bytes 4 (HEAD_START + CLOSED_OFFSET))

abbrev pub steps_in : List ℕ → ℕ
steps_in bytes = from_le_bytes w16 (part bytes 2 (HEAD_START + STEPS_OFFSET))

abbrev pub word_in : List ℕ → ℕ
word_in bytes = from_le_bytes w64 (part bytes 8 (HEAD_START + PRESENT_OFFSET))

-- (what is no phase is refused; to have a head for all bytes, it stands for resting)
abbrev pub phase_or_resting : Option Phase → Phase
phase_or_resting None = Resting
phase_or_resting (Some phase) = phase

unfoldable pub head_in : List ℕ → Head
head_in bytes =
    record {
      phase = phase_or_resting (phase_in (slice_index bytes HEAD_START));
      closed = closed_in bytes;
      steps = steps_in bytes;
      present = word_in bytes;
    }

-- outside an open instant the steps and the present word are 0
abbrev pub still_fault : Head → Option HeadFault
still_fault h = cond (h.steps == 0) (cond (h.present == 0) None (Some WrongSignals))
    (Some WrongSteps)

-- an open instant has a number, and no signal from g on is present
abbrev pub open_fault : ℕ → Head → Option HeadFault
open_fault g h = cond (h.closed == MOST_INSTANTS) (Some NoNumber)
    (cond (nat_lt h.present (2 ^ g)) None (Some WrongSignals))

-- what is wrong with a field after the phase, by the phase
abbrev pub fault_by : Phase → ℕ → Head → Option HeadFault
fault_by Resting g h = still_fault h
fault_by Open g h = open_fault g h
fault_by Over g h = still_fault h

-- the same with the phase, which is the first field
abbrev pub fault_of : Option Phase → ℕ → Head → Option HeadFault
fault_of None g h = Some NoPhase
fault_of (Some phase) g h = fault_by phase g h

-- what is wrong with the head's first bad field
unfoldable pub head_fault : ℕ → List ℕ → Option HeadFault
head_fault g bytes = fault_of (phase_in (slice_index bytes HEAD_START)) g (head_in bytes)

-- the offset in the head of that field
abbrev pub offset_of : HeadFault → ℕ
offset_of NoPhase = 0
offset_of NoNumber = CLOSED_OFFSET
offset_of WrongSteps = STEPS_OFFSET
offset_of WrongSignals = PRESENT_OFFSET

-- the head, or what is wrong with it
abbrev pub head_read : ℕ → List ℕ → Result Head HeadFault
head_read g bytes = answer (head_fault g bytes) (head_in bytes)

-- MARKS. A byte above 3 is no mark
abbrev pub mark_in : ℕ → Option Mark
mark_in b = cond (b == 0) (Some Idle)
    (cond (b == 1) (Some Waiting) (cond (b == 2) (Some UnderWay) (cond (b == 3) (Some Done) None)))

-- n marks, none where a byte is none
unfoldable pub marks_read : ℕ → List ℕ → List (Option Mark)
marks_read n bytes = map (λ i. mark_in (slice_index bytes (MARKS_START + i))) (range_with_len 0 n)

-- to the rules of other statements, what is no mark is a live one, neither waiting nor done
abbrev pub counted : Option Mark → Mark
counted None = UnderWay
counted (Some mark) = mark

abbrev pub marks_in : ℕ → List ℕ → List Mark
marks_in n bytes = map counted (marks_read n bytes)

-- statement i breaks its rule: it has no mark, or marks are not legal there, or statement 0 is not
-- over at the end
abbrev pub breaks : List Kind → Phase → List (Option Mark) → ℕ → Bool
breaks ks phase ms i =
    not (is_some (slice_index_or ms i (Some Idle)))
    || (not (keeps (is_open phase) ks (map counted ms) i)
    || ((i == 0) && (is_over phase && not (over (tree_at ks 0) (map counted ms)))))

-- the lowest statement that breaks its rule
unfoldable pub marks_fault : List Kind → List ℕ → Option ℕ
marks_fault ks bytes = lowest (breaks ks (head_in bytes).phase (marks_read (length ks) bytes))
    (length ks)

-- the first refusal that applies, if one does
abbrev pub taking_by : Bool → Option HeadFault → Option ℕ → Option Refusal
taking_by false head marks = Some RecordForm
taking_by true (Some fault) marks = Some (RecordHead (offset_of fault))
taking_by true None (Some i) = Some (RecordMarks i)
taking_by true None None = None

-- the first refusal of the bytes, for a routine of those signals and statements
abbrev pub taking_refusal : List SignalKind → List Kind → List ℕ → Option Refusal
taking_refusal gs ks bytes =
    taking_by (has_form (length ks) bytes) (head_fault (length gs) bytes) (marks_fault ks bytes)

-- what the bytes say, where none is bad
abbrev pub saved_in : List ℕ → Saved
saved_in bytes = record { head = head_in bytes; marks = marks_in MOST_STATEMENTS bytes }

-- the same as a state of n statements
abbrev pub state_in : ℕ → List ℕ → State
state_in n bytes =
    record {
      phase = (head_in bytes).phase;
      closed = closed_in bytes;
      steps = steps_in bytes;
      marks = marks_in n bytes;
      present = word_set (word_in bytes);
    }
