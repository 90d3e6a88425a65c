-- the transcripts of two relays, and when their instants are the same
use Rattle.std.proofs.Common.{◌≡◌, ℕ, suc, ◌+◌, Bool, false, List, [], ◌∷◌, ◌++◌, length, take}
use Rattle.std.proofs.Common.{drop, Some, refl, ap, ap₂, ◌∙◌, arith}
use Rattle.std.specs.Prelude.{slice_get}
use Rattle.std.specs.List.{flat_map}
use Rattle.routine.specs.declared.kinds.Kind.{Kind}
use Rattle.routine.specs.declared.kinds.SignalKind.{SignalKind}
use Rattle.relay.specs.Asked.{Asked}
use Rattle.relay.specs.Heard.{Ear, Observation, ObservedAlike}
use Rattle.relay.specs.History.{Transition, takes_over}
use Rattle.relay.specs.ClosedInstants.{taken, closed_instants}
use Rattle.relay.specs.Relays.{Relays}
use Rattle.relay.specs.declared.two_boards.Relayed.{Relayed}
use Rattle.handover.specs.declared.transcripts.Transcript.{Transcript}
use Rattle.handover.specs.Transcript.{WritesRelay, IsTranscript}
use Rattle.handover.specs.RelayTexts.{instant_line}
use Rattle.handover.specs.Story.{relay_text, instants_text, before_of, handed_of, later_of}
use Rattle.handover.specs.Story.{whole_of, text_of, instants_of, SameWords}

-- lists of one length that agree wherever both have something
same_lists : {X : Type 0} (xs ys : List X) → length xs ≡ length ys
    → ((k : ℕ) (a b : X) → slice_get xs k ≡ Some a → slice_get ys k ≡ Some b → a ≡ b) → xs ≡ ys
same_lists [] [] l h = refl
same_lists [] (y ∷ ys) l h = absurd (omega arith)
same_lists (x ∷ xs) [] l h = absurd (omega arith)
same_lists (x ∷ xs) (y ∷ ys) l h =
    ap₂ ◌∷◌ (h 0 x y refl refl) (same_lists xs ys (omega arith) (λ k a b e f. h (suc k) a b e f))

module _ (gs : List SignalKind) (ks : List Kind) where
  module _ {A B : Type 0} (first : A → List Bool) (second : B → List Bool) (cs ds : List Asked)
      (a a' b b' : Ear) (r : Relayed A B)
      (R : Relays first second gs ks cs ds a a' b b' r) (one : a'.lost ≡ false)
      (other : b'.lost ≡ false) where
    -- what was heard in the relay, where nothing was lost
    pub observation_of : taken (whole_of gs ks cs ds) ≡ false
        → Observation a a' b b' (before_of gs ks cs) (later_of gs ks cs ds)
    observation_of t = record {
      first = one;
      second = other;
      before = R.before.heard one;
      later = R.hands_on.later.heard other;
      untaken = t;
    }

    -- listeners that had heard nothing before
    module _ (fresh : a ≡ record { heard = []; lost = false })
        (fresh' : b ≡ record { heard = []; lost = false }) where
      heard_before : a'.heard ≡ before_of gs ks cs
      heard_before = R.before.heard one ∙ ap (λ (e : Ear). e.heard ++ before_of gs ks cs) fresh

      heard_later : drop 1 b'.heard ≡ later_of gs ks cs ds
      heard_later = ap (drop 1)
          (R.hands_on.later.heard other
          ∙ ap (λ (e : Ear). e.heard ++ (takes_over ∷ later_of gs ks cs ds)) fresh')

      -- what is written of what was heard is the transcript of the calls
      pub is_transcript : (n : ℕ) → n ≡ length ks → (t : Transcript)
          → WritesRelay n a'.heard r.handed (drop 1 b'.heard) t → IsTranscript gs ks cs ds t
      unfolding text_of instants_of
      is_transcript n m t T =
          record {
            text = T.text ∙ ap (λ (ps : List Transition).
                relay_text ps r.handed (drop 1 b'.heard)) heard_before
                ∙ ap (λ (bs : List ℕ). relay_text (before_of gs ks cs) bs
                (drop 1 b'.heard)) R.hands_on.handed
                ∙ ap (relay_text (before_of gs ks cs) (handed_of gs ks cs)) heard_later;
            instants = T.instants ∙ ap₂
                (λ (ps qs : List Transition). instants_text n (ps ++ qs)) heard_before heard_later
                ∙ ap (λ k. instants_text k (whole_of gs ks cs ds)) m;
          }

  -- two relays with the same words: the same closed instants, so the same text of them
  pub same_instants_of : (cs ds es fs : List Asked) (a a' b b' c c' d d' : Ear)
      → ObservedAlike (length ks) a a' b b' c c' d d'
      → Observation a a' b b' (before_of gs ks cs) (later_of gs ks cs ds)
      → Observation c c' d d' (before_of gs ks es) (later_of gs ks es fs)
      → SameWords gs ks cs ds es fs
      → instants_of gs ks cs ds ≡ instants_of gs ks es fs
  unfolding instants_of
  same_instants_of cs ds es fs a a' b b' c c' d d' law T U S =
      let same = law (before_of gs ks cs) (later_of gs ks cs ds) (before_of gs ks es)
      (later_of gs ks es fs) T U in
      ap (flat_map instant_line)
      (same_lists (closed_instants (length ks) [] (whole_of gs ks cs ds))
      (closed_instants (length ks) [] (whole_of gs ks es fs)) S.many
      (λ k x y e f. same k (ap (take (k + 1)) S.words) x y e f))
