-- what is written of statements and refusals
use Rattle.std.specs.Prelude.{ℕ, List, [], ◌∷◌, ◌++◌, Some, None, codes, decimal, Option}
use Rattle.routine.specs.declared.kinds.Kind.{Kind}
use Rattle.routine.specs.declared.kinds.Kind.TheVariants.{Nothing, Stop, Emit, Wait, Sequence}
use Rattle.routine.specs.declared.kinds.Kind.TheVariants.{Parallel, Loop, When, Kill, Local}
use Rattle.routine.specs.declared.refusals.Refusal.{Refusal}
use Rattle.routine.specs.declared.refusals.Refusal.TheVariants.{TableForm, SignalKind}
use Rattle.routine.specs.declared.refusals.Refusal.TheVariants.{StatementRecord, Parts, SignalUse}
use Rattle.routine.specs.declared.refusals.Refusal.TheVariants.{Scope, EndlessLoop}
use Rattle.routine.specs.declared.refusals.Refusal.TheVariants.{AlreadyOpen, AlreadyOver}
use Rattle.routine.specs.declared.refusals.Refusal.TheVariants.{NoInstantLeft, NotInput}
use Rattle.routine.specs.declared.refusals.Refusal.TheVariants.{NotOpenToStep, NoSuchStatement}
use Rattle.routine.specs.declared.refusals.Refusal.TheVariants.{NotReady, NotOpenToClose}
use Rattle.routine.specs.declared.refusals.Refusal.TheVariants.{StillReady}
use Rattle.routine.specs.declared.refusals.Refusal.TheVariants.{RecordForm, RecordHead, RecordMarks}
use Rattle.routine.specs.declared.refusals.Refusal.TheVariants.{Memory}
use Rattle.routine.specs.Refusals.{place_of}

-- the byte that ends a line
abbrev pub line_end : List ℕ
line_end = 10 ∷ []

-- a statement's name and its signal
abbrev pub kind_text : Kind → List ℕ
kind_text Nothing = codes "nothing"
kind_text Stop = codes "stop"
kind_text (Emit s) = codes "emit " ++ decimal s
kind_text (Wait s) = codes "wait " ++ decimal s
kind_text (Sequence a b) = codes "sequence"
kind_text (Parallel a b) = codes "parallel"
kind_text (Loop a) = codes "loop"
kind_text (When s a b) = codes "when " ++ decimal s
kind_text (Kill s a) = codes "kill " ++ decimal s
kind_text (Local s a) = codes "local " ++ decimal s

-- what a refusal's place numbers, where it has one
abbrev pub subject_of : Refusal → Option (List ℕ)
subject_of TableForm = None
subject_of (SignalKind s) = Some (codes "signal")
subject_of (StatementRecord i) = Some (codes "statement")
subject_of (Parts i) = Some (codes "statement")
subject_of (SignalUse i) = Some (codes "statement")
subject_of (Scope i) = Some (codes "statement")
subject_of (EndlessLoop i) = Some (codes "statement")
subject_of AlreadyOpen = None
subject_of AlreadyOver = None
subject_of NoInstantLeft = None
subject_of (NotInput s) = Some (codes "signal")
subject_of NotOpenToStep = None
subject_of (NoSuchStatement i) = Some (codes "statement")
subject_of (NotReady i) = Some (codes "statement")
subject_of NotOpenToClose = None
subject_of (StillReady i) = Some (codes "statement")
subject_of RecordForm = None
subject_of (RecordHead o) = Some (codes "offset")
subject_of (RecordMarks i) = Some (codes "statement")
subject_of Memory = None

-- what is wrong there, in plain words
abbrev pub wording_of : Refusal → List ℕ
wording_of TableForm = codes "the contents or the length are not those of a table"
wording_of (SignalKind s) = codes "its kind is above 2"
wording_of (StatementRecord i) =
    codes "an unknown kind, an unused field that is not 0, a signal that is not there, "
    ++ codes "or a part that is not above it and below the number of statements"
wording_of (Parts i) = codes "it is not named as a part exactly once"
wording_of (SignalUse i) =
    codes "an emit of an input, or a local statement whose signal is not local"
wording_of (Scope i) =
    codes "a local signal outside its local statement, "
    ++ codes "or a local statement with the signal of a lower one"
wording_of (EndlessLoop i) = codes "a loop whose first part can end at once"
wording_of AlreadyOpen = codes "an instant is open already"
wording_of AlreadyOver = codes "the routine is over"
wording_of NoInstantLeft = codes "no further instant can be counted"
wording_of (NotInput s) = codes "it is no input"
wording_of NotOpenToStep = codes "no instant is open, so nothing can be stepped"
wording_of (NoSuchStatement i) = codes "there is no such statement"
wording_of (NotReady i) = codes "it is not ready"
wording_of NotOpenToClose = codes "no instant is open, so none can be closed"
wording_of (StillReady i) = codes "it is still ready"
wording_of RecordForm =
    codes "the length, the contents or the zeros are not those of a record of this routine"
wording_of (RecordHead o) = codes "the head of the record has a wrong field there"
wording_of (RecordMarks i) = codes "its mark is against the rules"
wording_of Memory = codes "out of memory"

-- the words, after the subject and the place if there are some
abbrev pub about : Option (List ℕ) → ℕ → List ℕ → List ℕ
about None p words = words
about (Some subject) p words = subject ++ (codes " " ++ (decimal p ++ (codes ": " ++ words)))

-- a refusal in plain words
abbrev pub reason_text : Refusal → List ℕ
reason_text e = about (subject_of e) (place_of e) (wording_of e)
