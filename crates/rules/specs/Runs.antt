-- runs of any labelled transition system (which labels are ready, and the state after one)
use Rattle.std.specs.Prelude.{List, [], ◌∷◌}

-- the labels that are taken on the way from one state to another
pub data Run {S L : Type 0} (Ready : S → L → Type 0) (next : S → L → S) : S → List L → S
    → Type 0 where
  still : {s : S} → Run Ready next s [] s
  then : {s z : S} {i : L} {w : List L} → Ready s i → Run Ready next (next s i) w z
      → Run Ready next s (i ∷ w) z

-- nothing is ready
abbrev pub Quiet : {S L : Type 0} (Ready : S → L → Type 0) → S → Type 0
Quiet {S} {L} Ready s = (i : L) → ¬ (Ready s i)
