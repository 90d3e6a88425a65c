-- what is heard in a relay is as the model says, and in two relays the words alone decide
use Rattle.std.proofs.Common.{◌≡◌, ◌≤◌, Bool, List, ◌∷◌, ◌++◌, length, sym, ap, ap₂, ◌∙◌, subst}
use Rattle.std.proofs.lemmas.List.{append_cancel_left}
use Rattle.routine.specs.declared.kinds.Kind.{Kind}
use Rattle.routine.specs.declared.kinds.SignalKind.{SignalKind}
use Rattle.rules.specs.Theorems.{Checked}
use Rattle.count.specs.Calls.{new_state}
use Rattle.relay.specs.Asked.{Asked}
use Rattle.relay.specs.Heard.{Ear, ObservedAsModel, ObservedAlike}
use Rattle.relay.specs.History.{Transition, takes_over, trace, after_calls}
use Rattle.relay.specs.ClosedInstants.{taken, AsModel}
use Rattle.relay.specs.Relays.{Relays}
use Rattle.relay.specs.declared.two_boards.Relayed.{Relayed}
use Rattle.relay.proofs.Histories.{trace_append, as_model, same_instants}

module _ (gs : List SignalKind) (ks : List Kind) where
  -- what was heard in a relay is as the model says
  pub observed_as_model : Checked gs ks → length ks ≤ 256
      → {A B : Type 0} (first : A → List Bool) (second : B → List Bool) (cs ds : List Asked)
      (old new old' new' : Ear) (r : Relayed A B)
      → Relays first second gs ks cs ds old new old' new' r
      → ObservedAsModel gs ks old new old' new'
  observed_as_model C few first second cs ds old new old' new' r R ps qs T =
      let s = new_state ks in
      let a : List Transition = trace gs ks s cs in
      let b : List Transition = trace gs ks (after_calls gs ks s cs) ds in
      let e : ps ≡ a = append_cancel_left old.heard ps a (sym T.before ∙ R.before.heard T.first) in
      let f' : takes_over ∷ qs ≡ takes_over ∷ b =
      append_cancel_left old'.heard (takes_over ∷ qs) (takes_over ∷ b)
      (sym T.later ∙ R.hands_on.later.heard T.second) in
      let f : qs ≡ b = (cc) in
      let whole : ps ++ qs ≡ trace gs ks s (cs ++ ds) =
      ap₂ ◌++◌ e f ∙ sym (trace_append gs ks cs ds s) in
      subst (AsModel gs ks) (sym whole)
      (as_model gs ks C few (cs ++ ds) (ap taken (sym whole) ∙ T.untaken))

  -- what was heard in two relays, where each is as the model says
  pub observed_alike : (a a' b b' c c' d d' : Ear) → ObservedAsModel gs ks a a' b b'
      → ObservedAsModel gs ks c c' d d' → ObservedAlike (length ks) a a' b b' c c' d d'
  observed_alike a a' b b' c c' d d' M N ps qs rs ss T U =
      same_instants gs ks (ps ++ qs) (rs ++ ss) (M ps qs T) (N rs ss U)

-- the second relay is of the routine that the first gave back
pub same_model : (gs xs : List SignalKind) (ks ys : List Kind) (a a' b b' : Ear) → xs ≡ gs → ys ≡ ks
    → ObservedAsModel xs ys a a' b b' → ObservedAsModel gs ks a a' b b'
same_model gs xs ks ys a a' b b' e f M =
    subst (λ (y : List Kind). ObservedAsModel gs y a a' b b') f
    (subst (λ (x : List SignalKind). ObservedAsModel x ys a a' b b') e M)
