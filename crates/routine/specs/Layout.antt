-- the form of a table: which bytes are one, and what they say
use Rattle.std.specs.Prelude.{◌≡◌, ℕ, ◌+◌, ◌*◌, ◌<◌, Bool, true, cond, ◌&&◌, List, [], ◌∷◌, length}
use Rattle.std.specs.Prelude.{take, drop, Some, None, Ok, Err, Option, Result, ◌==◌}
use Rattle.std.specs.Prelude.{nat_le, nat_lt, slice_index}
use Rattle.routine.specs.declared.kinds.SignalKind.{SignalKind}
use Rattle.routine.specs.declared.kinds.SignalKind.TheVariants.{Input, Output, Local as Own}
use Rattle.routine.specs.declared.kinds.Kind.{Kind}
use Rattle.routine.specs.declared.kinds.Kind.TheVariants.{Nothing, Stop, Emit, Wait, Sequence}
use Rattle.routine.specs.declared.kinds.Kind.TheVariants.{Parallel, Loop, When, Kill, Local}
use Rattle.routine.specs.declared.kinds.Statement.{Statement}
use Rattle.routine.specs.declared.tables.TheConstants.{CONTENTS_BYTES, STATEMENT_BYTES}
use Rattle.routine.specs.declared.refusals.Refusal.{Refusal}
use Rattle.routine.specs.declared.refusals.Refusal.TheVariants.{TableForm}
use Rattle.routine.specs.declared.refusals.Refusal.TheVariants.{SignalKind as BadSignalKind}
use Rattle.routine.specs.declared.refusals.Refusal.TheVariants.{StatementRecord}
use Rattle.routine.specs.Kinds.{fresh, kind_at}

-- the number of two bytes at place p, the lower byte first
abbrev pub word : List ℕ → ℕ → ℕ
word bytes p = slice_index bytes p + 256 * slice_index bytes (p + 1)

-- how many signals and statements the contents announce
abbrev pub signal_count : List ℕ → ℕ
signal_count bytes = word bytes 2

abbrev pub statement_count : List ℕ → ℕ
statement_count bytes = word bytes 6

-- the contents and the length are those of a table, with at most 64 signals and 256 statements
abbrev pub headed : List ℕ → Bool
headed bytes =
    nat_le CONTENTS_BYTES (length bytes)
    && (word bytes 0 == CONTENTS_BYTES
    && (nat_le (signal_count bytes) 64
    && (word bytes 4 == CONTENTS_BYTES + signal_count bytes
    && (nat_le 1 (statement_count bytes)
    && (nat_le (statement_count bytes) 256
    && length bytes
    == CONTENTS_BYTES + signal_count bytes + STATEMENT_BYTES * statement_count bytes)))))

-- what a byte says of a signal
abbrev pub signal_kind : ℕ → Option SignalKind
signal_kind b = cond (b == 0) (Some Input)
    (cond (b == 1) (Some Output) (cond (b == 2) (Some Own) None))

-- what four bytes say of a statement: the kind is known, and fields that it does not use are 0
abbrev pub spelled : ℕ → ℕ → ℕ → ℕ → Option Kind
spelled k s a b =
    cond (k == 0 && (s == 0 && (a == 0 && b == 0))) (Some Nothing)
    (cond (k == 1 && (s == 0 && (a == 0 && b == 0))) (Some Stop)
    (cond (k == 2 && (a == 0 && b == 0)) (Some (Emit s))
    (cond (k == 3 && (a == 0 && b == 0)) (Some (Wait s))
    (cond (k == 4 && s == 0) (Some (Sequence a b))
    (cond (k == 5 && s == 0) (Some (Parallel a b))
    (cond (k == 6 && (s == 0 && b == 0)) (Some (Loop a))
    (cond (k == 7) (Some (When s a b))
    (cond (k == 8 && b == 0) (Some (Kill s a))
    (cond (k == 9 && b == 0) (Some (Local s a)) None)))))))))

-- the same of a record, a list of four bytes
abbrev pub said_by : List ℕ → Option Kind
said_by r = spelled (slice_index r 0) (slice_index r 1) (slice_index r 2) (slice_index r 3)

-- a can be a part of statement i, of n
abbrev pub rises : ℕ → ℕ → ℕ → Bool
rises n i a = nat_lt i a && nat_lt a n

-- the signal is one of g, and the parts can be parts of statement i, of n
abbrev pub fits : ℕ → ℕ → ℕ → Kind → Bool
fits g n i Nothing = true
fits g n i Stop = true
fits g n i (Emit s) = nat_lt s g
fits g n i (Wait s) = nat_lt s g
fits g n i (Sequence a b) = rises n i a && rises n i b
fits g n i (Parallel a b) = rises n i a && rises n i b
fits g n i (Loop a) = rises n i a
fits g n i (When s a b) = nat_lt s g && (rises n i a && rises n i b)
fits g n i (Kill s a) = nat_lt s g && rises n i a
fits g n i (Local s a) = nat_lt s g && rises n i a

-- the statement of a record, if the record says one and its fields fit; no count has begun it
abbrev pub fitting : ℕ → ℕ → ℕ → Option Kind → Option Statement
fitting g n i None = None
fitting g n i (Some k) = cond (fits g n i k) (Some (fresh k)) None

-- one entry before later ones: the first of all that says nothing gives its refusal
abbrev pub onto : {A : Type 0} → Refusal → Option A → Result (List A) Refusal
    → Result (List A) Refusal
onto e None later = Err e
onto e (Some x) (Ok xs) = Ok (x ∷ xs)
onto e (Some x) (Err later) = Err later

-- the signals, the first of which has number i
abbrev pub signals_from : ℕ → List ℕ → Result (List SignalKind) Refusal
signals_from i [] = Ok []
signals_from i (b ∷ bs) = onto (BadSignalKind i) (signal_kind b) (signals_from (i + 1) bs)

-- the statements, of n with g signals; the first has number i. A record: kind, signal, first,
-- second
abbrev pub records_from : ℕ → ℕ → ℕ → List ℕ → Result (List Statement) Refusal
records_from g n i [] = Ok []
records_from g n i (k ∷ []) = Ok []
records_from g n i (k ∷ (s ∷ [])) = Ok []
records_from g n i (k ∷ (s ∷ (a ∷ []))) = Ok []
records_from g n i (k ∷ (s ∷ (a ∷ (b ∷ rest)))) =
    onto (StatementRecord i) (fitting g n i (spelled k s a b)) (records_from g n (i + 1) rest)

-- the bytes of the signals, and those of the statements
abbrev pub signal_bytes : List ℕ → List ℕ
signal_bytes bytes = take (signal_count bytes) (drop CONTENTS_BYTES bytes)

abbrev pub record_bytes : List ℕ → List ℕ
record_bytes bytes = drop (CONTENTS_BYTES + signal_count bytes) bytes

-- the signals gs with the statements, if each record says one
abbrev pub with_statements : List SignalKind → Result (List Statement) Refusal
    → Result (List SignalKind × List Statement) Refusal
with_statements gs (Ok ss) = Ok (gs, ss)
with_statements gs (Err e) = Err e

-- the signals, if each of their bytes says a kind, with the statements of the table's bytes
abbrev pub with_signals : List ℕ → Result (List SignalKind) Refusal
    → Result (List SignalKind × List Statement) Refusal
with_signals bytes (Ok gs) =
    with_statements gs (records_from (signal_count bytes) (statement_count bytes) 0
    (record_bytes bytes))
with_signals bytes (Err e) = Err e

-- the signals and the statements that the bytes say, or why they are no table
abbrev pub read_of : List ℕ → Result (List SignalKind × List Statement) Refusal
read_of bytes = cond (headed bytes) (with_signals bytes (signals_from 0 (signal_bytes bytes)))
    (Err TableForm)

-- each statement's fields fit: what the form asks of records that are read
abbrev pub Formed : ℕ → List Kind → Type 0
Formed g ks = (i : ℕ) → i < length ks → fits g (length ks) i (kind_at ks i) ≡ true
