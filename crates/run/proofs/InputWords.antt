-- the words of the chunks that a loop has still to go through
use Rattle.std.proofs.Common.{◌≡◌, ℕ, ◌+◌, ◌<◌, ◌≤◌, List, [], ◌∷◌, length, get_or, drop, map, refl}
use Rattle.std.proofs.Common.{ap, add-one}
use Rattle.std.proofs.Math.Seq.{drop-cons}
use Rattle.std.proofs.lemmas.List.{drop_all}
use Rattle.std.specs.Int.{w64, from_le_bytes}

-- from the i-th chunk on
abbrev pub words_after : List (List ℕ) → ℕ → List ℕ
words_after cs i = map (from_le_bytes w64) (drop i cs)

-- one chunk more
pub words_more : (cs : List (List ℕ)) (i w : ℕ) → i < length cs
    → w ≡ from_le_bytes w64 (get_or cs i []) → words_after cs i ≡ w ∷ words_after cs (i + 1)
words_more cs i w l e = rw (drop-cons cs i [] l, add-one, e) refl

-- no chunk is left
pub words_done : (cs : List (List ℕ)) (i : ℕ) → length cs ≤ i → words_after cs i ≡ []
words_done cs i l = ap (map (from_le_bytes w64)) (drop_all i cs l)
