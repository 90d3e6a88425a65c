-- Sets of signals, and those that a function of the signal's number makes.
use Rattle.std.specs.Prelude.{◌≡◌, ℕ, ◌<◌, ◌≤◌, Bool, true, false, ◌≢◌, List, map, length, get_or}
use Rattle.std.specs.Prelude.{replicate, nat_lt, slice_index_or, slice_set}
use Rattle.std.proofs.Common.{sym, ◌∙◌, ap, ⊎_elim, arith}
use Rattle.std.specs.List.{range_with_len}
use Rattle.std.proofs.lemmas.List.FromFn.{length-map-range_with_len, get_or-map-range_with_len}
use Rattle.std.proofs.lemmas.List.{ext_get_or, length-set, length-replicate, get_or-replicate}
use Rattle.std.proofs.lemmas.List.{get_or-set_same, get_or-set_other, get_or_past, set_past}
use Rattle.std.proofs.lemmas.Bool.{cases_eq, cases_lt, lt-ltb, le-ltb}
use Rattle.signals.specs.Sets.{empty}

-- the empty set has a place for each signal
pub length-empty : length empty ≡ 64
unfolding empty
length-empty = length-replicate 64 false

-- the empty set has no signal, of any number
pub get_or-empty : (s : ℕ) → slice_index_or empty s false ≡ false
unfolding empty
get_or-empty s =
    ⊎_elim
    (λ (l : s < 64). get_or-replicate 64 s false false l)
    (λ (l : 64 ≤ s). get_or_past (replicate 64 false) s false
    (omega (arith, length-replicate 64 false)))
    (cases_lt s 64)

-- a number above 63 is in no set
pub get_or-above : (p : List Bool) (s : ℕ) → length p ≡ 64 → 64 ≤ s
    → slice_index_or p s false ≡ false
get_or-above p s e h = get_or_past p s false (omega arith)

-- and to raise or lower it changes nothing
pub set-above : (p : List Bool) (s : ℕ) (v : Bool) → length p ≡ 64 → 64 ≤ s → slice_set p s v ≡ p
set-above p s v e h = set_past p s v (omega arith)

-- a signal that was raised is there, if its number is below 64
pub get_or-raised : (p : List Bool) (s : ℕ) → length p ≡ 64
    → slice_index_or (slice_set p s true) s false ≡ nat_lt s 64
get_or-raised p s e =
    ⊎_elim
    (λ (l : s < 64). get_or-set_same p s true false (omega arith) ∙ sym (lt-ltb s 64 l))
    (λ (l : 64 ≤ s). get_or-above (slice_set p s true) s (length-set p s true ∙ e) l
    ∙ sym (le-ltb s 64 l))
    (cases_lt s 64)

-- a signal that was lowered is not there
pub get_or-lowered : (p : List Bool) (s : ℕ) → length p ≡ 64
    → slice_index_or (slice_set p s false) s false ≡ false
get_or-lowered p s e =
    ⊎_elim
    (λ (l : s < 64). get_or-set_same p s false false (omega arith))
    (λ (l : 64 ≤ s). get_or-above (slice_set p s false) s (length-set p s false ∙ e) l)
    (cases_lt s 64)

-- the set that f makes is p, if they agree on each signal
pub map_is : (f : ℕ → Bool) (p : List Bool) → length p ≡ 64
    → ((k : ℕ) → k < 64 → f k ≡ slice_index_or p k false) → map f (range_with_len 0 64) ≡ p
map_is f p e h =
    ext_get_or false (map f (range_with_len 0 64)) p (length-map-range_with_len f 0 64 ∙ sym e)
    (λ k l. let m : k < 64 = omega (arith, length-map-range_with_len f 0 64) in
    get_or-map-range_with_len f 0 64 k k false m (omega arith) ∙ h k m)

-- a function that is false of each signal makes the empty set
pub map-empty : (f : ℕ → Bool) → ((k : ℕ) → k < 64 → f k ≡ false)
    → map f (range_with_len 0 64) ≡ empty
map-empty f h = map_is f empty length-empty (λ k l. h k l ∙ sym (get_or-empty k))

-- what g makes is what f makes with s set to v, where g is v at s and f at every other signal
pub map-set : (f g : ℕ → Bool) (s : ℕ) (v : Bool) → s < 64 → g s ≡ v
    → ((k : ℕ) → k < 64 → k ≢ s → g k ≡ f k)
    → map g (range_with_len 0 64) ≡ slice_set (map f (range_with_len 0 64)) s v
map-set f g s v l e h =
    let p : List Bool = map f (range_with_len 0 64) in
    let n : length p ≡ 64 = length-map-range_with_len f 0 64 in
    map_is g (slice_set p s v) (length-set p s v ∙ n)
    (λ k m. ⊎_elim
    (λ q. ap g q ∙ e ∙ sym (ap (λ j. get_or (slice_set p s v) j false) q
    ∙ get_or-set_same p s v false (omega arith)))
    (λ ne. h k m ne ∙ sym (get_or-set_other p s k v false ne
    ∙ get_or-map-range_with_len f 0 64 k k false m (omega arith)))
    (cases_eq k s))
