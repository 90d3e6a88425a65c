-- the hand-over record: the bytes that say what a count is at
use Rattle.std.specs.Prelude.{ℕ, ◌-◌, List, ◌∷◌, ◌++◌, map, replicate, slice_index_or, slice_index}
use Rattle.std.specs.Prelude.{false, cond, nat_lt}
use Rattle.std.specs.Int.{w16, w32, w64, to_le_bytes}
use Rattle.routine.specs.declared.tables.TheConstants.{MOST_STATEMENTS}
use Rattle.rules.specs.Rules.{Mark, Idle, Waiting, UnderWay, Done, Signals, at}
use Rattle.rules.specs.Model.{word_from}
use Rattle.record.specs.declared.phases.Phase.{Phase}
use Rattle.record.specs.declared.phases.Phase.TheVariants.{Resting, Open, Over}
use Rattle.record.specs.declared.heads.Head.{Head}
use Rattle.record.specs.declared.layout.TheConstants.{HEAD_START, HEAD_BYTES, MARKS_START}
use Rattle.record.specs.State.{State}

-- a phase and a mark, by the numbers of docs/LANGUAGE.md
abbrev pub phase_byte : Phase → ℕ
phase_byte Resting = 0
phase_byte Open = 1
phase_byte Over = 2

abbrev pub mark_byte : Mark → ℕ
mark_byte Idle = 0
mark_byte Waiting = 1
mark_byte UnderWay = 2
mark_byte Done = 3

-- the contents: where the head lies and how long it is, where the marks lie and how many there are
abbrev pub contents : ℕ → List ℕ
contents n = to_le_bytes w16 HEAD_START
    ++ (to_le_bytes w16 HEAD_BYTES ++ (to_le_bytes w16 MARKS_START ++ to_le_bytes w16 n))

-- the steps that stand in a record: those of the open instant; outside one 0
abbrev pub steps_written : Phase → ℕ → ℕ
steps_written Resting steps = 0
steps_written Open steps = steps
steps_written Over steps = 0

-- and the present word: the present signals below g; outside an open instant 0
abbrev pub word_written : Phase → ℕ → Signals → ℕ
word_written Resting g e = 0
word_written Open g e = word_from (λ s. slice_index_or e s false) g 0
word_written Over g e = 0

-- the head: phase, closed instants, steps, present signals
abbrev pub head_bytes : Head → List ℕ
head_bytes h = phase_byte h.phase
    ∷ (to_le_bytes w32 h.closed ++ (to_le_bytes w16 h.steps ++ to_le_bytes w64 h.present))

-- the head of the record of a state, with g signals
abbrev pub head_of : ℕ → State → Head
head_of g s = record {
  phase = s.phase;
  closed = s.closed;
  steps = steps_written s.phase s.steps;
  present = word_written s.phase g s.present;
}

-- n marks, and zeros up to the end
abbrev pub mark_bytes : ℕ → List Mark → List ℕ
mark_bytes n ms = map mark_byte ms ++ replicate (MOST_STATEMENTS - n) 0

-- the record: contents, head, marks
unfoldable pub written : ℕ → Head → List Mark → List ℕ
written n h ms = contents n ++ (head_bytes h ++ mark_bytes n ms)

-- the same place by place, for those contents and that head: beyond the last mark as if idle ones
-- followed
abbrev pub byte_at : List ℕ → List ℕ → List Mark → ℕ → ℕ
byte_at cs hs ms i = cond (nat_lt i HEAD_START) (slice_index cs i)
    (cond (nat_lt i MARKS_START) (slice_index hs (i - HEAD_START))
    (mark_byte (at ms (i - MARKS_START))))

-- the record of a count with g signals and n statements
abbrev pub record_of : ℕ → ℕ → State → List ℕ
record_of g n s = written n (head_of g s) s.marks
