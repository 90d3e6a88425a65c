-- what listeners hear of calls, and of a relay, whose second board goes on from a record
use Rattle.std.specs.Prelude.{◌≡◌, ℕ, Bool, false, List, [], ◌∷◌, ◌++◌, length, Some}
use Rattle.routine.specs.declared.kinds.Kind.{Kind}
use Rattle.routine.specs.declared.kinds.SignalKind.{SignalKind}
use Rattle.routine.specs.declared.refusals.Refusal.{Refusal}
use Rattle.routine.specs.Kinds.{marks}
use Rattle.signals.specs.declared.board.Board.{Ghosts}
use Rattle.record.specs.State.{State}
use Rattle.record.specs.Record.{record_of}
use Rattle.record.specs.Taking.{taking_refusal}
use Rattle.count.specs.declared.counts.Count.{Count}
use Rattle.count.specs.Calls.{new_state}
use Rattle.count.specs.CountView.{kinds_of, signals_of, state_of, SameRoutine}
use Rattle.relay.specs.declared.news.News.{News}
use Rattle.relay.specs.declared.news.News.TheVariants.{Begun, Stepped, Closed, Reacted, TakenOver}
use Rattle.relay.specs.declared.news.News.TheVariants.{Refused}
use Rattle.relay.specs.Asked.{Asked, OfBytes}
use Rattle.relay.specs.History.{Transition, begins, steps, closes, reacts, takes_over, refuses}
use Rattle.relay.specs.History.{transition_of, after_call, trace, after_calls}
use Rattle.relay.specs.ClosedInstants.{taken, AsModel, SameInstants}

-- what was heard, and whether something of it was lost, as for want of memory
pub record Ear : Type 0 where
  pub heard : List Transition
  pub lost : Bool

-- where nothing is lost now, nothing was before, and the transitions ps were heard since
pub record Grows (old new : Ear) (ps : List Transition) : Type 0 where
  pub kept : new.lost ≡ false → old.lost ≡ false
  pub heard : new.lost ≡ false → new.heard ≡ old.heard ++ ps

-- the transition that a listener hears of
abbrev pub hears : News → Transition
hears (Begun word) = begins word
hears (Stepped k) = steps k
hears (Closed c rows) = closes c (marks rows.now)
hears (Reacted word c rows v) = reacts word c (marks rows.now) v.now
hears TakenOver = takes_over
hears (Refused r) = refuses r

module _ {B : Type 0} {G : Ghosts B} where
  -- a call on c that leaves d, while what was heard grows from old to new by its transition
  pub record Tells (present : B → List Bool) (c d : Count B G) (call : Asked)
      (old new : Ear) : Type 0 where
    pub tells : Grows old new
        (transition_of (signals_of c) (kinds_of c) (state_of present c) call ∷ [])
    pub leaves : state_of present d
        ≡ after_call (signals_of c) (kinds_of c) (state_of present c) call
    pub routine : SameRoutine c d

  -- the same of calls one after another, by their trace
  pub record TellsAll (present : B → List Bool) (c d : Count B G) (calls : List Asked)
      (old new : Ear) : Type 0 where
    pub tells : Grows old new (trace (signals_of c) (kinds_of c) (state_of present c) calls)
    pub leaves : state_of present d
        ≡ after_calls (signals_of c) (kinds_of c) (state_of present c) calls
    pub routine : SameRoutine c d

-- (of a routine) earlier calls from the state t on, then a record, then later calls, while what was
-- heard grows from old to new
module _ (gs : List SignalKind) (ks : List Kind) (t : State) (earlier : List Asked) (bytes : List ℕ)
    (later : List Asked) (old new : Ear) where
  -- whatever calls the record comes from: what is heard goes on where they left their count
  abbrev pub GoesOn : Type 0
  GoesOn =
      (cs : List Asked) → OfBytes cs
      → bytes ≡ record_of (length gs) (length ks) (after_calls gs ks (new_state ks) cs)
      → Grows old new (trace gs ks t earlier
      ++ (takes_over ∷ trace gs ks (after_calls gs ks (new_state ks) cs) later))

  -- a record that is refused: that is heard, and what is heard goes on where the earlier calls
  -- ended
  abbrev pub StaysWhereRefused : Type 0
  StaysWhereRefused =
      (r : Refusal) → taking_refusal gs ks bytes ≡ Some r
      → Grows old new (trace gs ks t earlier
      ++ (refuses r ∷ trace gs ks (after_calls gs ks t earlier) later))

-- what was heard in a relay: the trace ps of the calls on the first board, and after the take over
-- the trace qs of those on the second; nothing was lost, and no take over was accepted in them
pub record Observation (old new old' new' : Ear) (ps qs : List Transition) : Type 0 where
  pub first : new.lost ≡ false
  pub second : new'.lost ≡ false
  pub before : new.heard ≡ old.heard ++ ps
  pub later : new'.heard ≡ old'.heard ++ (takes_over ∷ qs)
  pub untaken : taken (ps ++ qs) ≡ false

-- what was heard in a relay is as the plain model says
abbrev pub ObservedAsModel : List SignalKind → List Kind → Ear → Ear → Ear → Ear → Type 0
ObservedAsModel gs ks old new old' new' = (ps qs : List Transition)
    → Observation old new old' new' ps qs → AsModel gs ks (ps ++ qs)

-- what was heard in two relays of a routine of n statements: the same first words give the same
-- closed instants
abbrev pub ObservedAlike : ℕ → (a a' b b' c c' d d' : Ear) → Type 0
ObservedAlike n a a' b b' c c' d d' = (ps qs rs ss : List Transition)
    → Observation a a' b b' ps qs → Observation c c' d d' rs ss
    → SameInstants n (ps ++ qs) (rs ++ ss)
