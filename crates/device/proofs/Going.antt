-- a count that reacts to words, one after another, and a record that is taken over between them
use Rattle.std.proofs.Common.{◌≡◌, ℕ, ◌+◌, ◌<◌, ◌≤◌, Bool, ◌⊎◌, inl, inr, refl, sym, ap, ◌∙◌, subst}
use Rattle.std.proofs.Common.{List, [], ◌∷◌, ◌++◌, length, drop, get_or, append_assoc}
use Rattle.std.proofs.Common.{Some, None, Ok, Err, Option, Result}
use Rattle.std.specs.Prelude.{IfErr}
use Rattle.std.proofs.lemmas.List.{append-nil, drop_more}
use Rattle.routine.specs.declared.checked.Routine.{Routine}
use Rattle.routine.specs.declared.kinds.SignalKind.{SignalKind}
use Rattle.routine.specs.declared.kinds.Kind.{Kind}
use Rattle.routine.specs.declared.kinds.Statement.{Statement}
use Rattle.routine.specs.declared.refusals.Refusal.{Refusal}
use Rattle.routine.specs.declared.refusals.Refusal.TheVariants.{Memory}
use Rattle.routine.specs.Kinds.{kinds}
use Rattle.routine.specs.Refusals.{AnswersOrMemory}
use Rattle.routine.specs.View.{table_kinds, table_signals}
use Rattle.routine.specs.View.{load_of, routine_content}
use Rattle.routine.proofs.Answered.{value_said}
use Rattle.signals.specs.declared.board.Board.{Ghosts}
use Rattle.record.specs.Answers.{answer}
use Rattle.record.specs.Record.{record_of}
use Rattle.record.specs.Sound.{Sound}
use Rattle.record.specs.State.{State}
use Rattle.record.specs.Taking.{taking_refusal, state_in}
use Rattle.record.proofs.Restored.{restored}
use Rattle.count.specs.declared.answers.Closing.{Closing}
use Rattle.count.specs.declared.counts.Count.{Count}
use Rattle.count.specs.Calls.{after, new_state}
use Rattle.count.specs.CountView.{kinds_of, signals_of, state_of, SameRoutine, Reacts, TakesOver}
use Rattle.device.specs.Closings.{Reply, onto, answered, closings, of_new, by_one, told, GoesOn}
use Rattle.device.specs.Closings.{resumed, by_record}

onto_twice : (cs ds : List Closing) (r : Reply) → onto cs (onto ds r) ≡ onto (cs ++ ds) r
onto_twice cs ds (Ok es) = ap Ok (sym (append_assoc cs ds es))
onto_twice cs ds (Err e) = refl

onto_none : (r : Reply) → onto [] r ≡ r
onto_none (Ok cs) = refl
onto_none (Err e) = refl

-- an answer that is Ok was not refused
taken : (why : Option Refusal) (x y : Closing) (s t u : State) (f : State → Reply)
    → Ok x ≡ answer why y → t ≡ after why s u → answered why y (f u) ≡ onto (x ∷ []) (f t)
taken None x y s t u f p q = cc
taken (Some e) x y s t u f p q = cc

refused : (why : Option Refusal) (e : Refusal) (y : Closing) (r : Reply)
    → Err e ≡ answer why y → answered why y r ≡ Err e
refused None e y r p = cc
refused (Some x) e y r p = cc

stopped : (why : Option Refusal) (e : Refusal) (r : Reply)
    → Err e ≡ answer {X = Unit {0}} why tt → resumed why r ≡ Err e
stopped None e r p = cc
stopped (Some x) e r p = cc

resumes : (why : Option Refusal) (s t u : State) (f : State → Reply)
    → Ok tt ≡ answer {X = Unit {0}} why tt → t ≡ after why s u → resumed why (f u) ≡ f t
resumes None s t u f p q = cc
resumes (Some e) s t u f p q = cc

module _ {B : Type 0} {G : Ghosts B} (present : B → List Bool) where
  -- c reacted to words of ws, of which vs are left, and is d
  pub record Going (c d : Count B G) (ws vs : List ℕ) (cs ds : List Closing) : Type 0 where
    pub routine : SameRoutine c d
    pub told : (more : List ℕ) → told present cs c (ws ++ more) ≡ told present ds d (vs ++ more)

  module _ (c d next : Count B G) (ws : List ℕ) (cs ds : List Closing) (i : ℕ) (l : i < length ws)
      (g : Going c d ws (drop i ws) cs ds) where
    -- the next word is the one at place i
    ahead : Going c d ws (get_or ws i 0 ∷ drop (i + 1) ws) cs ds
    ahead = subst (λ (vs : List ℕ). Going c d ws vs cs ds) (drop_more ws i 0 l) g

    -- it reacts to it
    pub going_next : (x : Closing) (es : List Closing)
        → Reacts present d next (get_or ws i 0) (Ok x) → es ≡ ds ++ (x ∷ [])
        → Going c next ws (drop (i + 1) ws) cs es
    unfolding closings
    going_next x es r e =
        record {
          routine =
              record { kinds = r.kinds ∙ g.routine.kinds; signals = r.signals ∙ g.routine.signals };
          told = λ more. ahead.told more ∙ one_more (drop (i + 1) ws ++ more);
        }
      where
        one_more : (rest : List ℕ)
            → told present ds d (get_or ws i 0 ∷ rest) ≡ told present es next rest
        one_more rest =
            let after_it = λ (s : State). closings (signals_of d) (kinds_of d) s rest in
            let t = taken _ x _ _ _ _ after_it r.says r.leaves in
            rw (e, r.signals, r.kinds)
            (ap (onto ds) t ∙ onto_twice ds (x ∷ []) (after_it (state_of present next)))

    -- it is refused
    pub going_refused : (e : Refusal) → Reacts present d next (get_or ws i 0) (Err e)
        → (more : List ℕ) → told present cs c (ws ++ more) ≡ Err e
    unfolding closings
    going_refused e r more = ahead.told more ∙ ap (onto ds) (refused _ e _ _ r.says)

  -- no word is left
  pub told_all : (d : Reply) (c e : Count B G) (ws : List ℕ) (cs ds : List Closing)
      → GoesOn present c e ws cs ds → d ≡ told present cs c (ws ++ []) → d ≡ Ok ds
  unfolding closings
  told_all d c e ws cs ds x f = f ∙ x.told [] ∙ ap Ok (append-nil ds)

  -- (c is a new count of the table's routine)
  module _ (table : List ℕ) (r : Routine) (c : Count B G) (cs : List Closing) (none : cs ≡ [])
      (loaded : AnswersOrMemory (load_of table) routine_content (Ok r))
      (k : kinds_of c ≡ table_kinds r.table) (g : signals_of c ≡ table_signals r.table)
      (s : state_of present c ≡ new_state (table_kinds r.table)) where
    pub told_new : (ws : List ℕ) → by_one table ws ≡ told present cs c ws
    told_new ws =
        rw (none, k, g, s)
        (ap (λ d. of_new d ws) (value_said (load_of table) routine_content r loaded)
        ∙ sym (onto_none (of_new (Ok (routine_content r)) ws)))

    -- after it reacted to words
    pub told_next : (ws more : List ℕ) (e : Count B G) (ds : List Closing)
        → GoesOn present c e ws cs ds → by_one table (ws ++ more) ≡ told present ds e more
    told_next ws more e ds x = told_new (ws ++ more) ∙ x.told more

-- a table that is not loaded
pub not_loaded : {R : Type 0} (d : Result (List SignalKind × List Statement) Refusal)
    (view : R → List SignalKind × List Statement) (e : Refusal) (ws : List ℕ)
    → AnswersOrMemory d view (Err e) → (e ≡ Memory) ⊎ (of_new d ws ≡ Err e)
not_loaded (Ok p) view e ws h = inl h
not_loaded (Err f) view e ws h = inr (cc)

-- its refusal is the definition's
pub as_refused : {R Y : Type 0} (d : Result (List SignalKind × List Statement) Refusal)
    (view : R → List SignalKind × List Statement) (e : Refusal)
    (r : Result Y Refusal) → r ≡ Err e → AnswersOrMemory d view (Err e) → IfErr d (λ x. r ≡ Err x)
as_refused (Ok p) view e r i h = tt
as_refused (Err f) view e r i h = cc

-- and a table that is loaded has none
pub not_refused : {R : Type 0} (d : Result (List SignalKind × List Statement) Refusal)
    (view : R → List SignalKind × List Statement) (x : R) (P : Refusal → Type 0)
    → AnswersOrMemory d view (Ok x) → IfErr d P
not_refused d view x P h = subst (λ r. IfErr r P) (sym (value_said d view x h)) tt

-- a table is loaded as the same routine each time: c and d are counts of one, start of the other
module _ {A B : Type 0} {F : Ghosts A} {G : Ghosts B} (table : List ℕ) (q r : Routine)
    (c d : Count A F) (start : Count B G)
    (h : AnswersOrMemory (load_of table) routine_content (Ok q))
    (k : AnswersOrMemory (load_of table) routine_content (Ok r)) (x : SameRoutine c d) where
  same : routine_content r ≡ routine_content q
  same =
      let a = value_said (load_of table) routine_content q h in
      let b = value_said (load_of table) routine_content r k in
      cc

  -- so the other is a count of the routine that the one has gone on with
  pub same_routine : kinds_of c ≡ table_kinds q.table → signals_of c ≡ table_signals q.table
      → kinds_of start ≡ table_kinds r.table → signals_of start ≡ table_signals r.table
      → (kinds_of start ≡ kinds_of d) × (signals_of start ≡ signals_of d)
  same_routine a g b f = (
    b ∙ ap (λ t. kinds t.1) same ∙ sym a ∙ sym x.kinds,
    f ∙ ap (λ t. t.0) same ∙ sym g
        ∙ sym x.signals,
  )

-- the record of a sound state says it
pub says_it : (gs : List SignalKind) (ks : List Kind) (s : State) (bytes : List ℕ)
    → length ks ≤ 256 → length gs ≤ 64 → Sound gs ks s
    → bytes ≡ record_of (length gs) (length ks) s → state_in (length ks) bytes ≡ s
says_it gs ks s bytes n g sound written =
    ap (state_in (length ks)) written ∙ (restored gs ks s n g sound).1

-- a count takes a record over
module _ {B : Type 0} {G : Ghosts B} (present : B → List Bool) (start there : Count B G)
    (bytes : List ℕ) (cs : List Closing) where
  -- and is refused
  pub record_refused : (e : Refusal) → TakesOver present start there bytes (Err e)
      → (ws : List ℕ) → by_record (signals_of start) (kinds_of start) bytes cs ws ≡ Err e
  record_refused e t ws =
      stopped (taking_refusal (signals_of start) (kinds_of start) bytes) e _ t.says

  -- and goes on where the record says
  pub record_taken : TakesOver present start there bytes (Ok tt)
      → (ws : List ℕ)
      → by_record (signals_of start) (kinds_of start) bytes cs ws
      ≡ told present cs there (ws ++ [])
  record_taken t ws =
      rw (append-nil ws, t.signals, t.kinds)
      (resumes (taking_refusal (signals_of start) (kinds_of start) bytes) _ _ _
      (λ s. onto cs (closings (signals_of start) (kinds_of start) s ws)) t.says t.leaves)

-- the record of the first device is accepted on the second, and says where the first stands: so
-- what the first is to answer is what the second answers
pub told_there : {A B : Type 0} {F : Ghosts A} {G : Ghosts B} (p : A → List Bool)
    (here : Count A F) (start : Count B G) (bytes : List ℕ)
    → taking_refusal (signals_of here) (kinds_of here) bytes ≡ None
    → state_in (length (kinds_of here)) bytes ≡ state_of p here
    → (kinds_of start ≡ kinds_of here) × (signals_of start ≡ signals_of here)
    → (cs : List Closing) (ws : List ℕ)
    → told p cs here ws ≡ by_record (signals_of start) (kinds_of start) bytes cs ws
told_there p here start bytes accepted says same cs ws =
    rw (same.0, same.1, accepted, says) refl
