-- calls carried out and told one after another
use Rattle.std.proofs.Common.{ℕ, ◌+◌, ◌<◌, ◌≡◌, Bool, false, List, [], ◌∷◌, ◌++◌, map, append_assoc}
use Rattle.std.proofs.Common.{length, drop, get_or, subst, sym, ap, ap₂, ◌∙◌}
use Rattle.std.proofs.lemmas.List.{append-nil, drop_more}
use Rattle.routine.specs.declared.kinds.Kind.{Kind}
use Rattle.routine.specs.declared.kinds.SignalKind.{SignalKind}
use Rattle.signals.specs.declared.board.Board.{Ghosts}
use Rattle.record.specs.State.{State}
use Rattle.count.specs.CountView.{kinds_of, signals_of, state_of, SameRoutine}
use Rattle.count.specs.declared.counts.Count.{Count}
use Rattle.relay.specs.declared.call.Call.{Call}
use Rattle.relay.specs.Asked.{Asked, asked}
use Rattle.relay.specs.Heard.{Ear, Tells, TellsAll}
use Rattle.relay.specs.History.{Transition, transition_of, after_call, trace, after_calls}

module _ {B : Type 0} {G : Ghosts B} (present : B → List Bool) where
  -- of the calls on c some have been told, and d is left; the rest is still to be carried out
  pub record Telling (c d : Count B G) (calls rest : List Asked) (old new : Ear) : Type 0 where
    pub kept : new.lost ≡ false → old.lost ≡ false
    pub tells : new.lost ≡ false
        → new.heard ++ trace (signals_of c) (kinds_of c) (state_of present d) rest
        ≡ old.heard ++ trace (signals_of c) (kinds_of c) (state_of present c) calls
    pub leaves : after_calls (signals_of c) (kinds_of c) (state_of present d) rest
        ≡ after_calls (signals_of c) (kinds_of c) (state_of present c) calls
    pub routine : SameRoutine c d

  -- one call more
  telling_more : (c d e : Count B G) (calls rest : List Asked) (call : Asked)
      (old new new' : Ear) → Telling c d calls (call ∷ rest) old new
      → Tells present d e call new new' → Telling c e calls rest old new'
  unfolding trace after_calls
  telling_more c d e calls rest call old new new' h x =
      let gs = signals_of c in
      let ks = kinds_of c in
      let r = h.routine in
      let p : Transition = transition_of gs ks (state_of present d) call in
      let tell : new'.lost ≡ false → new'.heard ≡ new.heard ++ (p ∷ []) =
      λ o. x.tells.heard o ∙ ap₂
      (λ (xs : List SignalKind) (ys : List Kind).
      new.heard ++ (transition_of xs ys (state_of present d) call ∷ [])) r.signals r.kinds in
      let leave : state_of present e ≡ after_call gs ks (state_of present d) call =
      x.leaves ∙ ap₂ (λ (xs : List SignalKind) (ys : List Kind).
      after_call xs ys (state_of present d) call) r.signals r.kinds in
      record {
        kept = λ o. h.kept (x.tells.kept o);
        tells = λ o. ap₂ (λ (n : List Transition) (s : State). n ++ trace gs ks s rest)
            (tell o) leave
            ∙ append_assoc new.heard (p ∷ [])
            (trace gs ks (after_call gs ks (state_of present d) call) rest)
            ∙ h.tells (x.tells.kept o);
        leaves = ap (λ (s : State). after_calls gs ks s rest) leave ∙ h.leaves;
        routine = record {
          kinds = x.routine.kinds ∙ r.kinds;
          signals = x.routine.signals ∙ r.signals;
        };
      }

  -- the call at place i of the code's list
  pub telling_next : (c d e : Count B G) (all : List Asked) (calls : List Call) (i : ℕ) (x : Call)
      (old new new' : Ear) → i < length calls
      → Telling c d all (map asked (drop i calls)) old new
      → Tells present d e (asked (get_or calls i x)) new new'
      → Telling c e all (map asked (drop (i + 1) calls)) old new'
  telling_next c d e all calls i x old new new' l h y =
      telling_more c d e all (map asked (drop (i + 1) calls))
      (asked (get_or calls i x)) old new new'
      (subst (λ (xs : List Call). Telling c d all (map asked xs) old new)
      (drop_more calls i x l) h) y

  -- all are told
  pub telling_all : (c d : Count B G) (calls : List Asked) (old new : Ear)
      → Telling c d calls [] old new → TellsAll present c d calls old new
  unfolding trace after_calls
  telling_all c d calls old new h =
      record {
        tells = record {
          kept = h.kept;
          heard = λ o. sym (append-nil new.heard) ∙ h.tells o;
        };
        leaves = h.leaves;
        routine = h.routine;
      }
