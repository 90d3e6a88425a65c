-- what devices answer to words, one after another
use Rattle.std.specs.Prelude.{◌≡◌, ℕ, Bool, ◌⊎◌, List, [], ◌∷◌, ◌++◌, length}
use Rattle.std.specs.Prelude.{Some, None, Ok, Err, Option, Result, MatchResult}
use Rattle.routine.specs.declared.kinds.SignalKind.{SignalKind}
use Rattle.routine.specs.declared.kinds.Kind.{Kind}
use Rattle.routine.specs.declared.kinds.Statement.{Statement}
use Rattle.routine.specs.declared.refusals.Refusal.{Refusal}
use Rattle.routine.specs.declared.refusals.Refusal.TheVariants.{Memory}
use Rattle.routine.specs.Kinds.{kinds}
use Rattle.routine.specs.View.{load_of}
use Rattle.signals.specs.declared.board.Board.{Ghosts}
use Rattle.record.specs.State.{State}
use Rattle.record.specs.Taking.{taking_refusal, state_in}
use Rattle.count.specs.declared.answers.Closing.{Closing}
use Rattle.count.specs.declared.counts.Count.{Count}
use Rattle.count.specs.Calls.{new_state, begin_refusal, react_closing, react_state}
use Rattle.count.specs.CountView.{kinds_of, signals_of, state_of, SameRoutine}

-- closings, or a refusal
abbrev pub Reply : Type 0
Reply = Result (List Closing) Refusal

-- closings, and then those of a reply
abbrev pub onto : List Closing → Reply → Reply
onto cs (Ok ds) = Ok (cs ++ ds)
onto cs (Err e) = Err e

-- a word's refusal, or its closing and then those of a reply
abbrev pub answered : Option Refusal → Closing → Reply → Reply
answered None c later = onto (c ∷ []) later
answered (Some e) c later = Err e

-- the closings of a count that stands at s and reacts to each of the words, or the first refusal
unfoldable pub closings : List SignalKind → List Kind → State → List ℕ → Reply
closings gs ks s [] = Ok []
closings gs ks s (w ∷ ws) =
    answered (begin_refusal gs s w) (react_closing gs ks s w)
    (closings gs ks (react_state gs ks s w) ws)

-- the closings of a new count of what was loaded
abbrev pub of_new : Result (List SignalKind × List Statement) Refusal → List ℕ → Reply
of_new (Ok p) ws = closings p.0 (kinds p.1) (new_state (kinds p.1)) ws
of_new (Err e) ws = Err e

-- what one device answers: a new count of the table's routine reacts to all words
abbrev pub by_one : List ℕ → List ℕ → Reply
by_one table ws = of_new (load_of table) ws

abbrev pub resumed : Option Refusal → Reply → Reply
resumed None r = r
resumed (Some e) r = Err e

-- the closings cs, and then what a count of a routine answers to the words after it took the record
-- over; or the refusal of the record
abbrev pub by_record : List SignalKind → List Kind → List ℕ → List Closing → List ℕ → Reply
by_record gs ks bytes cs ws =
    resumed (taking_refusal gs ks bytes)
    (onto cs (closings gs ks (state_in (length ks) bytes) ws))

-- the answer r is d, seen by `view`, or want of memory
abbrev pub IsOrMemory : {A B : Type 0} → Result A Refusal → (B → A) → Result B Refusal → Type 0
IsOrMemory d view r = MatchResult r (λ x. d ≡ Ok (view x)) (λ e. (e ≡ Memory) ⊎ (d ≡ Err e))

module _ {B : Type 0} {G : Ghosts B} (present : B → List Bool) where
  -- the closings cs, and then what c answers to the words
  abbrev pub told : List Closing → Count B G → List ℕ → Reply
  told cs c ws = onto cs (closings (signals_of c) (kinds_of c) (state_of present c) ws)

  -- c reacted to the words and is d, and its closings cs are ds now: what it answers to more words
  -- is the same
  pub record GoesOn (c d : Count B G) (ws : List ℕ) (cs ds : List Closing) : Type 0 where
    pub routine : SameRoutine c d
    pub told : (more : List ℕ) → told cs c (ws ++ more) ≡ told ds d more

  -- c reacted to all the words so, or there is no memory, or a word is refused
  abbrev pub ReactsAll : Count B G → Count B G → List ℕ → List Closing → List Closing
      → Result (Unit {0}) Refusal → Type 0
  ReactsAll c d ws cs ds r =
      MatchResult r (λ x. GoesOn c d ws cs ds)
      (λ e. (e ≡ Memory) ⊎ ((more : List ℕ) → told cs c (ws ++ more) ≡ Err e))
