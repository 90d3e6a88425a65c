-- a react that tells what it steps: its transition has all of it
use Rattle.std.proofs.Common.{◌≡◌, ℕ, zero, suc, ◌≤◌, false, List, [], ◌∷◌, ◌++◌, length, Some}
use Rattle.std.proofs.Common.{None, Option, Ok, sym, ap, ap₂, ◌∙◌, subst, arith}
use Rattle.routine.specs.declared.kinds.Kind.{Kind}
use Rattle.routine.specs.declared.kinds.SignalKind.{SignalKind}
use Rattle.routine.specs.declared.refusals.Refusal.{Refusal}
use Rattle.rules.specs.Rules.{Mark}
use Rattle.rules.specs.Model.{Config, stepped, lowest_ready, first_then, path, enough}
use Rattle.record.specs.Answers.{answer}
use Rattle.record.specs.State.{State}
use Rattle.record.proofs.Answered.{not_refused, answered}
use Rattle.count.specs.declared.answers.Closing.{Closing}
use Rattle.count.specs.Calls.{after, begin_refusal, begin_state, react_closing, react_state}
use Rattle.count.specs.Calls.{steps_from}
use Rattle.count.specs.Traces.{Trace, Extends}
use Rattle.relay.specs.Asked.{react}
use Rattle.relay.specs.Heard.{Ear, Grows}
use Rattle.relay.specs.History.{Transition, reacts, if_accepted, transition_of}

first_then_short : (n : ℕ) (o : Option ℕ) (f : ℕ → List ℕ) → ((i : ℕ) → length (f i) ≤ n)
    → length (first_then o f) ≤ suc n
first_then_short n None f h = omega arith
first_then_short n (Some i) f h = let l = h i in omega arith

-- the model's path has no more steps than it may have
path_short : (ks : List Kind) (n : ℕ) (c : Config) → length (path ks n c) ≤ n
unfolding path
path_short ks zero c = omega arith
path_short ks (suc n) c =
    first_then_short n (lowest_ready ks c) (λ i. path ks n (stepped ks c i))
    (λ i. path_short ks n (stepped ks c i))

-- an empty row with a place for each step of an instant was told all of it
pub all_heard : (ks : List Kind) → length ks ≤ 256 → (s : State) (old new : Trace)
    → old ≡ record { steps = []; lost = false; room = 1024 } → Extends old new (steps_from ks s)
    → new.steps ≡ steps_from ks s
all_heard ks few s old new e h =
    let l = path_short ks (enough ks) (s.marks, s.present) in
    let fresh : old.lost ≡ false = ap (λ (t : Trace). t.lost) e in
    let room : old.room ≡ 1024 = ap (λ (t : Trace). t.room) e in
    h.told (h.fits fresh (omega arith)).0 ∙ ap (λ (t : Trace). t.steps ++ steps_from ks s) e

module _ (gs : List SignalKind) (ks : List Kind) (s : State) (word : ℕ) where
  -- an accepted react, with what it answers and leaves, is the transition of the call
  accepted_transition : (closing : Closing) (ms : List Mark) (v : List ℕ)
      → begin_refusal gs s word ≡ None → closing ≡ react_closing gs ks s word
      → ms ≡ (react_state gs ks s word).marks → v ≡ steps_from ks (begin_state s word)
      → reacts word closing ms v ≡ transition_of gs ks s (react word)
  accepted_transition closing ms v none e f g =
      ap₂ (λ (c : Closing) (xs : List Mark). reacts word c xs v) e f
      ∙ ap (reacts word (react_closing gs ks s word) (react_state gs ks s word).marks) g
      ∙ ap (λ (o : Option Refusal).
      if_accepted o (reacts word (react_closing gs ks s word) (react_state gs ks s word).marks
      (steps_from ks (begin_state s word)))) (sym none)

  -- so where that was heard, the transition was heard
  pub react_tells : (closing : Closing) (ms : List Mark) (v : List ℕ) (t : State) (old new : Ear)
      → Ok closing ≡ answer (begin_refusal gs s word) (react_closing gs ks s word)
      → t ≡ after (begin_refusal gs s word) s (react_state gs ks s word) → ms ≡ t.marks
      → v ≡ steps_from ks (begin_state s word)
      → Grows old new (reacts word closing ms v ∷ [])
      → Grows old new (transition_of gs ks s (react word) ∷ [])
  react_tells closing ms v t old new says leaves marks steps h =
      let none = not_refused (begin_refusal gs s word) closing (react_closing gs ks s word) says in
      let close = answered (begin_refusal gs s word) closing (react_closing gs ks s word) says in
      let state : t ≡ react_state gs ks s word =
      leaves ∙ ap (λ (o : Option Refusal). after o s (react_state gs ks s word)) none in
      subst (λ (p : Transition). Grows old new (p ∷ []))
      (accepted_transition closing ms v none close
      (marks ∙ ap (λ (u : State). u.marks) state) steps) h
