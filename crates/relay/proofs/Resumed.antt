-- earlier calls, a record, and later calls: what is heard goes on where the record was left
use Rattle.std.proofs.Common.{◌≡◌, ℕ, ◌≤◌, Bool, List, [], ◌∷◌, ◌++◌, length, Some, None, Option}
use Rattle.std.proofs.Common.{append_assoc, sym, refl, ap, ap₂, ◌∙◌, subst}
use Rattle.routine.specs.declared.kinds.Kind.{Kind}
use Rattle.routine.specs.declared.kinds.SignalKind.{SignalKind}
use Rattle.routine.specs.declared.refusals.Refusal.{Refusal}
use Rattle.signals.specs.declared.board.Board.{Ghosts}
use Rattle.rules.specs.Theorems.{Checked}
use Rattle.record.specs.State.{State}
use Rattle.record.specs.Sound.{Sound}
use Rattle.record.specs.Record.{record_of}
use Rattle.record.specs.Taking.{taking_refusal, state_in}
use Rattle.record.proofs.Restored.{restored}
use Rattle.count.specs.declared.counts.Count.{Count}
use Rattle.count.specs.Calls.{after, new_state}
use Rattle.count.specs.CountView.{kinds_of, signals_of, state_of}
use Rattle.relay.specs.Asked.{Asked, take_over}
use Rattle.relay.specs.History.{Transition, takes_over, if_accepted, transition_of, after_call}
use Rattle.relay.specs.History.{trace, after_calls}
use Rattle.relay.specs.Heard.{Ear, Grows, TellsAll, GoesOn, StaysWhereRefused}
use Rattle.relay.proofs.Histories.{trace_append, after_append}
use Rattle.relay.proofs.Reached.{sound_start, sound_calls}

-- the same, where the list of what was heard is equal
pub grows_as : (a b : Ear) (x y : List Transition) → Grows a b x → x ≡ y → Grows a b y
grows_as a b x y g e = subst (Grows a b) e g

grows_more : (a b c : Ear) (x y : List Transition) → Grows a b x → Grows b c y → Grows a c (x ++ y)
grows_more a b c x y p q =
    record {
      kept = λ h. p.kept (q.kept h);
      heard = λ h. q.heard h ∙ ap (λ (z : List Transition). z ++ y) (p.heard (q.kept h))
          ∙ append_assoc a.heard x y;
    }

module _ (gs : List SignalKind) (ks : List Kind) where
  trace_cons : (c : Asked) (cs : List Asked) (s : State)
      → trace gs ks s (c ∷ cs) ≡ transition_of gs ks s c ∷ trace gs ks (after_call gs ks s c) cs
  unfolding trace
  trace_cons c cs s = refl

  module _ (t : State) (earlier : List Asked) (bytes : List ℕ) (later : List Asked) (old new : Ear)
      (all : Grows old new (trace gs ks t (earlier ++ (take_over bytes ∷ later)))) where
    -- the trace, where o says why the record is refused, if it is
    abbrev trace_by : Option Refusal → List Transition
    trace_by o = trace gs ks t earlier
        ++ (if_accepted o takes_over
        ∷ trace gs ks (after o (after_calls gs ks t earlier) (state_in (length ks) bytes)) later)

    by_answer : (o : Option Refusal) → taking_refusal gs ks bytes ≡ o → Grows old new (trace_by o)
    by_answer o h =
        grows_as old new _ _ all
        (trace_append gs ks earlier (take_over bytes ∷ later) t
        ∙ ap (λ ps. trace gs ks t earlier ++ ps)
        (trace_cons (take_over bytes) later (after_calls gs ks t earlier))
        ∙ ap trace_by h)

    -- a record that is refused
    pub refuses_on : StaysWhereRefused gs ks t earlier bytes later old new
    refuses_on r h = by_answer (Some r) h

    -- the record of a sound state
    pub from_sound : length ks ≤ 256 → length gs ≤ 64 → (s : State) → Sound gs ks s
        → bytes ≡ record_of (length gs) (length ks) s
        → Grows old new (trace gs ks t earlier ++ (takes_over ∷ trace gs ks s later))
    from_sound n m s S e =
        let back = restored gs ks s n m S in
        grows_as old new _ _ (by_answer None (ap (taking_refusal gs ks) e ∙ back.0))
        (ap (λ (x : State). trace gs ks t earlier ++ (takes_over ∷ trace gs ks x later))
        (ap (state_in (length ks)) e ∙ back.1))

    -- the record of a state to which calls lead
    pub goes_on : Checked gs ks → length ks ≤ 256 → length gs ≤ 64
        → GoesOn gs ks t earlier bytes later old new
    goes_on C n m cs u e = from_sound n m (after_calls gs ks (new_state ks) cs)
        (sound_calls gs ks C n cs (new_state ks) u (sound_start gs ks C n)) e

  -- the record of a sound state: where the later calls leave the count
  pub left_from_sound : length ks ≤ 256 → length gs ≤ 64 → (s t : State) → Sound gs ks s
      → (bytes : List ℕ) → bytes ≡ record_of (length gs) (length ks) s → (later : List Asked)
      → after_calls gs ks t (take_over bytes ∷ later) ≡ after_calls gs ks s later
  unfolding after_calls
  left_from_sound n m s t S bytes e later =
      let back = restored gs ks s n m S in
      ap (λ (b : List ℕ). after_calls gs ks
      (after (taking_refusal gs ks b) t (state_in (length ks) b)) later) e
      ∙ ap₂ (λ (o : Option Refusal) (x : State).
      after_calls gs ks (after o t x) later) back.0 back.1

module _ {B : Type 0} {G : Ghosts B} (present : B → List Bool) where
  -- calls after others
  tells_after : (a b c : Count B G) (cs ds : List Asked) (x y z : Ear) → TellsAll present a b cs x y
      → TellsAll present b c ds y z → TellsAll present a c (cs ++ ds) x z
  tells_after a b c cs ds x y z p q =
      let gs = signals_of a in
      let ks = kinds_of a in
      let s = state_of present a in
      let e = p.routine in
      let r : Grows y z (trace gs ks (after_calls gs ks s cs) ds) =
      grows_as y z _ _ q.tells
      (ap₂ (λ (xs : List SignalKind) (ys : List Kind).
      trace xs ys (state_of present b) ds) e.signals e.kinds
      ∙ ap (λ (t : State). trace gs ks t ds) p.leaves) in
      let l : state_of present c ≡ after_calls gs ks (after_calls gs ks s cs) ds =
      q.leaves ∙ ap₂ (λ (xs : List SignalKind) (ys : List Kind).
      after_calls xs ys (state_of present b) ds) e.signals e.kinds
      ∙ ap (λ (t : State). after_calls gs ks t ds) p.leaves in
      record {
        tells = grows_as x z _ _ (grows_more x y z _ _ p.tells r)
            (sym (trace_append gs ks cs ds s));
        leaves = l ∙ sym (after_append gs ks cs ds s);
        routine = record {
          kinds = q.routine.kinds ∙ e.kinds;
          signals = q.routine.signals ∙ e.signals;
        };
      }

  -- the three lists of calls, one after another, as one list
  pub resumed : (a b c d : Count B G) (earlier : List Asked) (bytes : List ℕ) (later : List Asked)
      (w x y z : Ear)
      → TellsAll present a b earlier w x → TellsAll present b c (take_over bytes ∷ []) x y
      → TellsAll present c d later y z
      → TellsAll present a d (earlier ++ (take_over bytes ∷ later)) w z
  resumed a b c d earlier bytes later w x y z p q r =
      tells_after a b d earlier (take_over bytes ∷ later) w x z p
      (tells_after b c d (take_over bytes ∷ []) later x y z q r)
