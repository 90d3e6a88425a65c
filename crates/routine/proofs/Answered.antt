-- what an answer that takes memory shows of its definition
use Rattle.std.proofs.Common.{◌≡◌, ℕ, ◌+◌, Bool, true, false, cond, List, [], ◌∷◌, is_some, Some}
use Rattle.std.proofs.Common.{None, Ok, Err, Option, Result, refl, sym, ap, ◌∙◌, subst, arith}
use Rattle.routine.specs.declared.kinds.SignalKind.{SignalKind}
use Rattle.routine.specs.declared.kinds.Kind.{Kind}
use Rattle.routine.specs.declared.kinds.Statement.{Statement}
use Rattle.routine.specs.declared.refusals.Refusal.{Refusal}
use Rattle.routine.specs.declared.refusals.Refusal.TheVariants.{TableForm}
use Rattle.routine.specs.declared.refusals.Refusal.TheVariants.{SignalKind as BadSignalKind}
use Rattle.routine.specs.declared.refusals.Refusal.TheVariants.{StatementRecord, Memory}
use Rattle.routine.specs.Kinds.{kinds}
use Rattle.routine.specs.Layout.{onto, signal_kind, spelled, fitting, headed, signal_count}
use Rattle.routine.specs.Layout.{statement_count, signal_bytes, record_bytes, signals_from}
use Rattle.routine.specs.Layout.{records_from, with_statements, with_signals, read_of}
use Rattle.routine.specs.Meaning.{check_of}
use Rattle.routine.specs.Refusals.{number_of, AnswersOrMemory}
use Rattle.routine.specs.View.{judged, then_checked, load_of}
use Rattle.routine.proofs.Checking.{chain, verdict_by, misnamed, misuse, unscope, endlessness}

-- it is a refusal, and no want of memory
abbrev pub HasNumber : Refusal → Type 0
HasNumber e = is_some (number_of e) ≡ true

-- a definition that refuses says a number, so it says no want of memory
abbrev pub Numbered : {A : Type 0} → Result A Refusal → Type 0
Numbered (Ok x) = Unit {0}
Numbered (Err e) = HasNumber e

-- so does what a test finds
abbrev pub Named : Option Refusal → Type 0
Named None = Unit {0}
Named (Some e) = HasNumber e

onto_numbered : {A : Type 0} (e : Refusal) (o : Option A) (r : Result (List A) Refusal)
    → HasNumber e → Numbered r → Numbered (onto e o r)
onto_numbered e None r h g = h
onto_numbered e (Some x) (Ok xs) h g = tt
onto_numbered e (Some x) (Err d) h g = g

signals_numbered : (bytes : List ℕ) (i : ℕ) → Numbered (signals_from i bytes)
signals_numbered [] i = tt
signals_numbered (b ∷ bs) i =
    onto_numbered (BadSignalKind i) (signal_kind b) (signals_from (i + 1) bs) refl
    (signals_numbered bs (i + 1))

records_numbered : (g n : ℕ) (bytes : List ℕ) (i : ℕ) → Numbered (records_from g n i bytes)
records_numbered g n [] i = tt
records_numbered g n (a ∷ []) i = tt
records_numbered g n (a ∷ (b ∷ [])) i = tt
records_numbered g n (a ∷ (b ∷ (c ∷ []))) i = tt
records_numbered g n (a ∷ (b ∷ (c ∷ (d ∷ rest)))) i =
    onto_numbered (StatementRecord i) (fitting g n i (spelled a b c d))
    (records_from g n (i + 1) rest) refl (records_numbered g n rest (i + 1))

statements_numbered : (gs : List SignalKind) (r : Result (List Statement) Refusal) → Numbered r
    → Numbered (with_statements gs r)
statements_numbered gs (Ok ss) h = tt
statements_numbered gs (Err e) h = h

all_numbered : (bytes : List ℕ) (r : Result (List SignalKind) Refusal) → Numbered r
    → Numbered (with_signals bytes r)
all_numbered bytes (Ok gs) h =
    statements_numbered gs (records_from (signal_count bytes) (statement_count bytes) 0
    (record_bytes bytes)) (records_numbered (signal_count bytes) (statement_count bytes)
    (record_bytes bytes) 0)
all_numbered bytes (Err e) h = h

headed_numbered : (b : Bool) (r : Result (List SignalKind × List Statement) Refusal) → Numbered r
    → Numbered (cond b r (Err TableForm))
headed_numbered true r h = h
headed_numbered false r h = refl

-- reading refuses by a number
read_numbered : (bytes : List ℕ) → Numbered (read_of bytes)
read_numbered bytes =
    headed_numbered (headed bytes) (with_signals bytes (signals_from 0 (signal_bytes bytes)))
    (all_numbered bytes (signals_from 0 (signal_bytes bytes))
    (signals_numbered (signal_bytes bytes) 0))

chain_named : (a b c d : Option ℕ) → Named (chain a b c d)
chain_named (Some i) b c d = refl
chain_named None (Some i) c d = refl
chain_named None None (Some i) d = refl
chain_named None None None (Some i) = refl
chain_named None None None None = tt

check_named : (gs : List SignalKind) (ks : List Kind) → Named (check_of gs ks)
check_named gs ks =
    subst Named (sym (verdict_by gs ks (misnamed gs ks) (misuse gs ks) (unscope gs ks)
    (endlessness gs ks) refl refl refl refl))
    (chain_named (misnamed gs ks) (misuse gs ks) (unscope gs ks) (endlessness gs ks))

judged_numbered : (p : List SignalKind × List Statement) (o : Option Refusal) → Named o
    → Numbered (judged p o)
judged_numbered p None h = tt
judged_numbered p (Some e) h = h

checked_numbered : (r : Result (List SignalKind × List Statement) Refusal) → Numbered r
    → Numbered (then_checked r)
checked_numbered (Ok p) h =
    judged_numbered p (check_of p.0 (kinds p.1)) (check_named p.0 (kinds p.1))
checked_numbered (Err e) h = h

-- loading refuses by a number
pub load_numbered : (bytes : List ℕ) → Numbered (load_of bytes)
load_numbered bytes = checked_numbered (read_of bytes) (read_numbered bytes)

-- a value that is answered is the definition's
pub value_said : {A B : Type 0} (d : Result A Refusal) (view : B → A) (x : B)
    → AnswersOrMemory d view (Ok x) → d ≡ Ok (view x)
value_said (Ok y) view x h = ap Ok (sym h)
value_said (Err e) view x h = absurd (let z : ◌≡◌ {A = ℕ} 0 1 = cc in omega arith)

-- a refusal with a number is the definition's
pub refusal_said : {A B : Type 0} (d : Result A Refusal) (view : B → A) (e : Refusal) → HasNumber e
    → AnswersOrMemory d view (Err e) → d ≡ Err e
refusal_said (Ok y) view e n h =
    absurd (let z : ◌≡◌ {A = Bool} false true =
    ap (λ (r : Refusal). is_some (number_of r)) (sym h) ∙ n in let y : ◌≡◌ {A = ℕ} 0 1 = cc in
    omega arith)
refusal_said (Err f) view e n h = let g : e ≡ f = cc in ap Err (sym g)

-- want of memory is answered only where the definition says a value
pub something_said : {A B : Type 0} (d : Result A Refusal) (view : B → A) (e : Refusal) → e ≡ Memory
    → Numbered d → AnswersOrMemory d view (Err e)
    → (x : A) × (d ≡ Ok x)
something_said (Ok y) view e m n h = (y, refl)
something_said (Err f) view e m n h =
    let g : e ≡ f = cc in absurd
    (let z : ◌≡◌ {A = Bool} false true =
    ap (λ (r : Refusal). is_some (number_of r)) (sym m ∙ g) ∙ n in
    let y : ◌≡◌ {A = ℕ} 0 1 = cc in omega arith)
