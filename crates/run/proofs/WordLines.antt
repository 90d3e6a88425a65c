-- the lines that a count has still to print, and the line of one word
use Rattle.std.proofs.Common.{◌≡◌, ℕ, Bool, List, [], ◌∷◌, ◌++◌, Some, None, Ok, Err, Option}
use Rattle.std.proofs.Common.{append_assoc, sym, ap, ◌∙◌}
use Rattle.std.proofs.lemmas.List.{append-nil}
use Rattle.routine.specs.declared.refusals.Refusal.{Refusal}
use Rattle.signals.specs.declared.board.Board.{Ghosts}
use Rattle.count.specs.declared.answers.Closing.{Closing}
use Rattle.count.specs.declared.counts.Count.{Count}
use Rattle.record.specs.Answers.{answer}
use Rattle.record.specs.State.{State}
use Rattle.count.specs.Calls.{after}
use Rattle.count.specs.CountView.{kinds_of, signals_of, state_of, Reacts}
use Rattle.run.specs.Listing.{closing_line, refused_line, line_of, lines}

-- the line of a word that the count accepts
accepted : (why : Option Refusal) (x y : Closing) (s t u : State) (f : State → List ℕ)
    → Ok x ≡ answer why y → t ≡ after why s u → line_of why y (f u) ≡ closing_line x ++ f t
accepted None x y s t u f p q = cc
accepted (Some e) x y s t u f p q = cc

-- the line of a word that it refuses
refused : (why : Option Refusal) (e : Refusal) (y : Closing) (rest : List ℕ) → Err e ≡ answer why y
    → line_of why y rest ≡ refused_line e
refused None e y rest p = cc
refused (Some x) e y rest p = cc

module _ {B : Type 0} {G : Ghosts B} (present : B → List Bool) where
  -- what a count has still to print of those words
  abbrev pub to_come : Count B G → List ℕ → List ℕ
  to_come c ws = lines (signals_of c) (kinds_of c) (state_of present c) ws

  -- it reacts to the next word and is d: a was written before, and then b
  module _ (c d : Count B G) (w : ℕ) (ws a b t : List ℕ) (todo : a ++ to_come c (w ∷ ws) ≡ t) where
    -- it accepts the word
    pub line_more : (x : Closing) → Reacts present c d w (Ok x) → b ≡ a ++ closing_line x
        → b ++ to_come d ws ≡ t
    unfolding lines
    line_more x r e =
        let line = accepted _ x _ _ _ _
        (λ s. lines (signals_of c) (kinds_of c) s ws) r.says r.leaves in
        rw (e, append_assoc a, r.signals, r.kinds, ← line) todo

    -- it refuses the word
    pub line_last : (e : Refusal) → Reacts present c d w (Err e) → b ≡ a ++ refused_line e → b ≡ t
    unfolding lines
    line_last e r f = f ∙ ap (λ l. a ++ l) (sym (refused _ e _ _ r.says)) ∙ todo

  -- no word is left
  pub line_none : (c : Count B G) (a t : List ℕ) → a ++ to_come c [] ≡ t → a ≡ t
  unfolding lines
  line_none c a t todo = sym (append-nil a) ∙ todo
