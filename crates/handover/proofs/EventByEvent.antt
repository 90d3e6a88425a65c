-- events written one after another, and a relay of two such lists
use Rattle.std.proofs.Common.{◌≡◌, ℕ, ◌+◌, ◌<◌, ◌≤◌, List, [], ◌∷◌, ◌++◌, map, length, drop, get_or}
use Rattle.std.proofs.Common.{append_assoc, refl, sym, ap, ap₂, ◌∙◌, subst, string_bytes, vec_items}
use Rattle.std.proofs.lemmas.List.{append-nil, drop_more, at_drop_all}
use Rattle.std.proofs.lemmas.Grind.{flat_map-append}
use Rattle.std.specs.List.{flat_map}
use Rattle.relay.specs.declared.events.Event.{Event}
use Rattle.relay.specs.History.{Transition}
use Rattle.relay.specs.ClosedInstants.{ClosedInstant, closed_by, stepped_then, closed_instants}
use Rattle.relay.specs.ClosedInstants.{left_open}
use Rattle.relay.specs.KeptEvents.{tells}
use Rattle.handover.specs.declared.transcripts.Transcript.{Transcript}
use Rattle.handover.specs.RelayTexts.{transition_line, trace_lines, instant_line}
use Rattle.handover.specs.Story.{handed_text}
use Rattle.handover.specs.Transcript.{WritesEvents, WritesRelay}

module _ (n : ℕ) where
  -- what is written so far, and what is still to be written, the trace ps, are together what stood
  -- there before and then the whole trace qs
  pub record Growing (old so_far : Transcript) (qs ps : List Transition) : Type 0 where
    pub text : string_bytes so_far.text ++ trace_lines (vec_items so_far.stepped) ps
        ≡ string_bytes old.text ++ trace_lines (vec_items old.stepped) qs
    pub instants : string_bytes so_far.instants
        ++ flat_map instant_line (closed_instants n (vec_items so_far.stepped) ps)
        ≡ string_bytes old.instants
        ++ flat_map instant_line (closed_instants n (vec_items old.stepped) qs)
    pub stepped : left_open (vec_items so_far.stepped) ps ≡ left_open (vec_items old.stepped) qs

  -- nothing is written yet
  pub growing_none : (t : Transcript) (ps : List Transition) → Growing t t ps ps
  growing_none t ps = record { text = refl; instants = refl; stepped = refl }

  -- one transition more
  growing_more : (old so_far next : Transcript) (qs ps : List Transition) (p : Transition)
      → Growing old so_far qs (p ∷ ps)
      → string_bytes next.text
      ≡ string_bytes so_far.text ++ transition_line (vec_items so_far.stepped) p
      → string_bytes next.instants
      ≡ string_bytes so_far.instants
      ++ flat_map instant_line (closed_by n (vec_items so_far.stepped) p)
      → vec_items next.stepped ≡ stepped_then (vec_items so_far.stepped) p → Growing old next qs ps
  growing_more old so_far next qs ps p h a b c =
      let v = vec_items so_far.stepped in
      let w = stepped_then v p in
      record {
        text = ap₂ (λ t u. t ++ trace_lines u ps) a c
            ∙ append_assoc (string_bytes so_far.text) (transition_line v p) (trace_lines w ps)
            ∙ h.text;
        instants = ap₂ (λ t u. t ++ flat_map instant_line (closed_instants n u ps)) b c
            ∙ append_assoc (string_bytes so_far.instants) (flat_map instant_line (closed_by n v p))
            (flat_map instant_line (closed_instants n w ps))
            ∙ ap (λ t. string_bytes so_far.instants ++ t)
            (sym (flat_map-append instant_line (closed_by n v p) (closed_instants n w ps)))
            ∙ h.instants;
        stepped = ap (λ u. left_open u ps) c ∙ h.stepped;
      }

  -- the event at place i of the code's list
  pub growing_next : (old so_far next : Transcript) (qs : List Transition) (events : List Event)
      (i : ℕ) (x : Event) → i < length events → x ≡ get_or events i x
      → Growing old so_far qs (map tells (drop i events))
      → string_bytes next.text
      ≡ string_bytes so_far.text ++ transition_line (vec_items so_far.stepped) (tells x)
      → string_bytes next.instants
      ≡ string_bytes so_far.instants
      ++ flat_map instant_line (closed_by n (vec_items so_far.stepped) (tells x))
      → vec_items next.stepped ≡ stepped_then (vec_items so_far.stepped) (tells x)
      → Growing old next qs (map tells (drop (i + 1) events))
  growing_next old so_far next qs events i x l is h =
      growing_more old so_far next qs (map tells (drop (i + 1) events)) (tells x)
      (subst (λ (es : List Event). Growing old so_far qs (map tells es))
      (drop_more events i x l ∙ ap (λ (y : Event). y ∷ drop (i + 1) events) (sym is)) h)

  -- all is written
  pub growing_all : (old so_far : Transcript) (qs : List Transition) (events : List Event) (i : ℕ)
      → length events ≤ i → Growing old so_far qs (map tells (drop i events))
      → WritesEvents n old so_far qs
  growing_all old so_far qs events i l g =
      let h : Growing old so_far qs [] =
      subst (λ (es : List Event). Growing old so_far qs (map tells es))
      (at_drop_all (λ xs. xs) events i l) g in
      record {
        text = sym (append-nil (string_bytes so_far.text)) ∙ h.text;
        instants = sym (append-nil (string_bytes so_far.instants)) ∙ h.instants;
        stepped = h.stepped;
      }

  -- the closed instants of one trace after another
  closed_instants_append : (v : List ℕ) (ps qs : List Transition)
      → closed_instants n v (ps ++ qs)
      ≡ closed_instants n v ps ++ closed_instants n (left_open v ps) qs
  closed_instants_append v [] qs = refl
  closed_instants_append v (p ∷ ps) qs =
      ap (λ (es : List ClosedInstant). closed_by n v p ++ es)
      (closed_instants_append (stepped_then v p) ps qs)
      ∙ sym (append_assoc (closed_by n v p) (closed_instants n (stepped_then v p) ps)
      (closed_instants n (left_open (stepped_then v p) ps) qs))

  -- a relay is written: the trace before, on an empty transcript; the hand-over; the trace after it
  pub writes_relay : (start one next two : Transcript) (before later : List Transition)
      (handed : List ℕ) → string_bytes start.text ≡ [] → string_bytes start.instants ≡ []
      → vec_items start.stepped ≡ []
      → WritesEvents n start one before
      → string_bytes next.text ≡ string_bytes one.text ++ handed_text handed
      → string_bytes next.instants ≡ string_bytes one.instants
      → vec_items next.stepped ≡ vec_items one.stepped → WritesEvents n next two later
      → WritesRelay n before handed later two
  writes_relay start one next two before later handed a b c g h i j k =
      let v = left_open [] before in
      let stepped : vec_items next.stepped ≡ v = j ∙ g.stepped ∙ ap (λ u. left_open u before) c in
      let text : string_bytes next.text ≡ trace_lines [] before ++ handed_text handed =
      h ∙ ap (λ t. t ++ handed_text handed) (g.text ∙ ap₂ (λ t u. t ++ trace_lines u before) a c) in
      let instants : string_bytes next.instants
      ≡ flat_map instant_line (closed_instants n [] before) =
      i ∙ g.instants ∙ ap₂ (λ t u.
      t ++ flat_map instant_line (closed_instants n u before)) b c in
      record {
        text = k.text ∙ ap₂ (λ t u. t ++ trace_lines u later) text stepped
            ∙ append_assoc (trace_lines [] before) (handed_text handed) (trace_lines v later);
        instants = k.instants ∙ ap₂
            (λ t u. t ++ flat_map instant_line (closed_instants n u later)) instants stepped
            ∙ sym (flat_map-append instant_line (closed_instants n [] before)
            (closed_instants n v later))
            ∙ ap (flat_map instant_line) (sym (closed_instants_append [] before later));
      }
