-- each refusal: its number, its layer, its place
use Rattle.std.specs.Prelude.{◌≡◌, ℕ, List, ◌++◌, Some, None, Ok, Err, codes, decimal, Option}
use Rattle.std.specs.Prelude.{Result, MatchResult, IfOk, IsOkAnd}
use Rattle.routine.specs.declared.refusals.Refusal.{Refusal}
use Rattle.routine.specs.declared.refusals.Refusal.TheVariants.{TableForm, SignalKind}
use Rattle.routine.specs.declared.refusals.Refusal.TheVariants.{StatementRecord, Parts, SignalUse}
use Rattle.routine.specs.declared.refusals.Refusal.TheVariants.{Scope, EndlessLoop}
use Rattle.routine.specs.declared.refusals.Refusal.TheVariants.{AlreadyOpen, AlreadyOver}
use Rattle.routine.specs.declared.refusals.Refusal.TheVariants.{NoInstantLeft, NotInput}
use Rattle.routine.specs.declared.refusals.Refusal.TheVariants.{NotOpenToStep, NoSuchStatement}
use Rattle.routine.specs.declared.refusals.Refusal.TheVariants.{NotReady, NotOpenToClose}
use Rattle.routine.specs.declared.refusals.Refusal.TheVariants.{StillReady}
use Rattle.routine.specs.declared.refusals.Refusal.TheVariants.{RecordForm, RecordHead, RecordMarks}
use Rattle.routine.specs.declared.refusals.Refusal.TheVariants.{Memory}

-- the number, as docs/REFUSALS.md lists it
abbrev pub number_of : Refusal → Option ℕ
number_of TableForm = Some 11
number_of (SignalKind s) = Some 12
number_of (StatementRecord i) = Some 13
number_of (Parts i) = Some 21
number_of (SignalUse i) = Some 22
number_of (Scope i) = Some 23
number_of (EndlessLoop i) = Some 24
number_of AlreadyOpen = Some 31
number_of AlreadyOver = Some 32
number_of NoInstantLeft = Some 33
number_of (NotInput s) = Some 34
number_of NotOpenToStep = Some 41
number_of (NoSuchStatement i) = Some 42
number_of (NotReady i) = Some 43
number_of NotOpenToClose = Some 51
number_of (StillReady i) = Some 52
number_of RecordForm = Some 61
number_of (RecordHead o) = Some 62
number_of (RecordMarks i) = Some 63
number_of Memory = None

-- the layer of the engine that refuses
abbrev pub layer_of : Refusal → Option ℕ
layer_of TableForm = Some 1
layer_of (SignalKind s) = Some 1
layer_of (StatementRecord i) = Some 1
layer_of (Parts i) = Some 2
layer_of (SignalUse i) = Some 2
layer_of (Scope i) = Some 2
layer_of (EndlessLoop i) = Some 2
layer_of AlreadyOpen = Some 3
layer_of AlreadyOver = Some 3
layer_of NoInstantLeft = Some 3
layer_of (NotInput s) = Some 3
layer_of NotOpenToStep = Some 3
layer_of (NoSuchStatement i) = Some 3
layer_of (NotReady i) = Some 3
layer_of NotOpenToClose = Some 3
layer_of (StillReady i) = Some 3
layer_of RecordForm = Some 4
layer_of (RecordHead o) = Some 4
layer_of (RecordMarks i) = Some 4
layer_of Memory = None

-- the signal, the statement or the offset; 0 where the refusal names no place
abbrev pub place_of : Refusal → ℕ
place_of TableForm = 0
place_of (SignalKind s) = s
place_of (StatementRecord i) = i
place_of (Parts i) = i
place_of (SignalUse i) = i
place_of (Scope i) = i
place_of (EndlessLoop i) = i
place_of AlreadyOpen = 0
place_of AlreadyOver = 0
place_of NoInstantLeft = 0
place_of (NotInput s) = s
place_of NotOpenToStep = 0
place_of (NoSuchStatement i) = i
place_of (NotReady i) = i
place_of NotOpenToClose = 0
place_of (StillReady i) = i
place_of RecordForm = 0
place_of (RecordHead o) = o
place_of (RecordMarks i) = i
place_of Memory = 0

-- a refusal in print, by its number and its place
abbrev pub line : Option ℕ → ℕ → List ℕ
line None p = codes "out of memory"
line (Some n) p = codes "refused " ++ (decimal n ++ (codes " " ++ decimal p))

abbrev pub refusal_line : Refusal → List ℕ
refusal_line e = line (number_of e) (place_of e)

-- the answer r is what the definition d says, seen by `view`
abbrev pub Answers : {A B : Type 0} → Result A Refusal → (B → A) → Result B Refusal → Type 0
Answers d view (Ok x) = d ≡ Ok (view x)
Answers d view (Err e) = d ≡ Err e

-- the same of an answer that takes memory: what the definition refuses is refused so, whatever
-- memory there is; where it says a value, the answer is that value or want of memory
abbrev pub AnswersOrMemory : {A B : Type 0} → Result A Refusal → (B → A) → Result B Refusal → Type 0
AnswersOrMemory (Ok x) view r = MatchResult r (λ t. view t ≡ x) (λ e. e ≡ Memory)
AnswersOrMemory (Err e) view r = r ≡ Err e

-- the same of a value that says itself whether there is a refusal: its only error is want of memory
abbrev pub SaysOrMemory : {A B E : Type 0} → Result A Refusal → (B → Result A Refusal) → Result B E
    → Type 0
SaysOrMemory (Ok x) said r = IfOk r (λ t. said t ≡ Ok x)
SaysOrMemory (Err e) said r = IsOkAnd r (λ t. said t ≡ Err e)
