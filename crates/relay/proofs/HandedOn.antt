-- a count that is handed over and goes on elsewhere, and a relay of two such halves
use Rattle.std.proofs.Common.{◌≡◌, ℕ, ◌≤◌, Bool, List, [], ◌∷◌, ◌++◌, length, vec_items, ap, ap₂}
use Rattle.std.proofs.Common.{◌∙◌, subst}
use Rattle.routine.specs.declared.kinds.Kind.{Kind}
use Rattle.routine.specs.declared.kinds.SignalKind.{SignalKind}
use Rattle.routine.specs.declared.checked.Routine.{Routine}
use Rattle.routine.specs.Kinds.{marks}
use Rattle.routine.specs.View.{table_kinds, table_signals}
use Rattle.signals.specs.declared.board.Board.{Ghosts}
use Rattle.record.specs.State.{State}
use Rattle.record.specs.Sound.{Sound}
use Rattle.record.specs.Record.{record_of}
use Rattle.count.specs.declared.counts.Count.{Count}
use Rattle.count.specs.CountView.{kinds_of, signals_of, state_of}
use Rattle.count.specs.Calls.{new_state}
use Rattle.relay.specs.Asked.{Asked, take_over}
use Rattle.relay.specs.Heard.{Ear, Grows, TellsAll}
use Rattle.relay.specs.History.{takes_over, trace, after_calls}
use Rattle.relay.specs.Relays.{HandsOn, Relays, LeftAs, at_last}
use Rattle.relay.specs.declared.two_boards.Relayed.{Relayed}
use Rattle.relay.proofs.Resumed.{grows_as, from_sound, left_from_sound}

-- (of a routine) a sound state s that is handed on by its record
module _ (gs : List SignalKind) (ks : List Kind) (few : length ks ≤ 256) (some : length gs ≤ 64)
    (s : State) (S : Sound gs ks s) (bytes : List ℕ)
    (handed : bytes ≡ record_of (length gs) (length ks) s) (ds : List Asked) where
  -- to a count c of the same routine, which takes it over, carries out the calls ds and is d
  module _ {B : Type 0} {G : Ghosts B} (present : B → List Bool) (c d : Count B G)
      (e : signals_of c ≡ gs) (f : kinds_of c ≡ ks) (old new : Ear)
      (T : TellsAll present c d ([] ++ (take_over bytes ∷ ds)) old new) where
    -- what is heard there
    pub later_heard : Grows old new (takes_over ∷ trace gs ks s ds)
    unfolding trace
    later_heard =
        let u = state_of present c in
        from_sound gs ks u [] bytes ds old new
        (grows_as old new _ _ T.tells
        (ap₂ (λ (x : List SignalKind) (y : List Kind).
        trace x y u (take_over bytes ∷ ds)) e f)) few some s S handed

    -- the state in which it is left
    pub left_at : state_of present d ≡ after_calls gs ks s ds
    left_at =
        let u = state_of present c in
        T.leaves ∙ ap₂ (λ (x : List SignalKind) (y : List Kind).
        after_calls x y u (take_over bytes ∷ ds)) e f
        ∙ left_from_sound gs ks few some s u S bytes handed ds

    pub left_signals : signals_of d ≡ gs
    left_signals = T.routine.signals ∙ e

    pub left_kinds : kinds_of d ≡ ks
    left_kinds = T.routine.kinds ∙ f

    -- its record then
    pub left_record : (last : List ℕ)
        → last ≡ record_of (length (signals_of d)) (length (kinds_of d)) (state_of present d)
        → last ≡ record_of (length gs) (length ks) (after_calls gs ks s ds)
    left_record last e =
        e ∙ ap₂ (λ (x : List SignalKind) (y : List Kind).
        record_of (length x) (length y) (state_of present d)) left_signals left_kinds
        ∙ ap (record_of (length gs) (length ks)) left_at

    -- its routine then
    pub left_routine : (r : Routine) → r ≡ d.rows.routine
        → LeftAs gs ks (after_calls gs ks s ds).marks r
    left_routine r e =
        record {
          signals = ap (λ (x : Routine). table_signals x.table) e ∙ left_signals;
          kinds = ap (λ (x : Routine). table_kinds x.table) e ∙ left_kinds;
          marks = ap (λ (x : Routine). marks (vec_items x.table.statements)) e
              ∙ ap (λ (x : State). x.marks) left_at;
        }

-- a relay of the routine gs ks: the state s of a new count, whose routine is xs ys; the calls cs,
-- which lead to the state t, where the routine is us vs; and the hand-over
module _ {A B : Type 0} (first : A → List Bool) (second : B → List Bool)
    (gs xs us : List SignalKind) (ks ys vs : List Kind) (cs ds : List Asked) (s t : State)
    (old new old' new' : Ear)
    (e : xs ≡ gs) (f : ys ≡ ks) (i : s ≡ new_state ks) (e2 : us ≡ xs) (f2 : vs ≡ ys)
    (heard : Grows old new (trace xs ys s cs)) (leaves : t ≡ after_calls xs ys s cs)
    (r : Relayed A B) (q : Routine) where
  midway : t ≡ after_calls gs ks (new_state ks) cs
  midway = leaves ∙ ap₂ (λ (x : List SignalKind) (y : List Kind). after_calls x y s cs) e f
      ∙ ap (λ (u : State). after_calls gs ks u cs) i

  -- both halves together
  pub relayed : HandsOn first second us vs t ds old' new' r
      → LeftAs us vs (after_calls us vs t ds).marks q
      → Relays first second gs ks cs ds old new old' new' r
      × LeftAs gs ks (at_last gs ks cs ds).marks q
  relayed h l = (
    record {
      before = grows_as old new _ _ heard
          (ap₂ (λ (x : List SignalKind) (y : List Kind). trace x y s cs) e f
          ∙ ap (λ (u : State). trace gs ks u cs) i);
      hands_on = subst (λ (u : State). HandsOn first second gs ks u ds old' new' r) midway
          (subst (λ (y : List Kind). HandsOn first second gs y t ds old' new' r) (f2 ∙ f)
          (subst (λ (x : List SignalKind). HandsOn first second x vs t ds old' new' r)
          (e2 ∙ e) h));
    },
    record {
      signals = l.signals ∙ e2 ∙ e;
      kinds = l.kinds ∙ f2 ∙ f;
      marks = l.marks ∙ ap (λ (u : State). u.marks)
          (ap₂ (λ (x : List SignalKind) (y : List Kind). after_calls x y t ds) (e2 ∙ e) (f2 ∙ f)
          ∙ ap (λ (u : State). after_calls gs ks u ds) midway);
    },
  )

-- the second relay has the routine that the first gave back
pub same_relay : {A B : Type 0} (first : A → List Bool) (second : B → List Bool)
    (gs xs : List SignalKind) (ks ys : List Kind) (cs ds : List Asked) (old new old' new' : Ear)
    (r : Relayed A B)
    → xs ≡ gs → ys ≡ ks → Relays first second xs ys cs ds old new old' new' r
    → Relays first second gs ks cs ds old new old' new' r
same_relay first second gs xs ks ys cs ds old new old' new' r e f P =
    subst (λ (y : List Kind). Relays first second gs y cs ds old new old' new' r) f
    (subst (λ (x : List SignalKind). Relays first second x ys cs ds old new old' new' r) e P)
