-- The set of a word.
use Rattle.std.specs.Prelude.{◌≡◌, ℕ, suc, ◌+◌, ◌-◌, ◌*◌, ◌/◌, ◌%◌, ◌^◌, ◌<◌, ◌≤◌, true, false, ◌≢◌}
use Rattle.std.specs.Prelude.{◌⊎◌, map, ◌==◌, nat_eq, slice_index_or, slice_set}
use Rattle.std.proofs.Common.{sym, ◌∙◌, ap, inl, inr, ⊎_elim, arith}
use Rattle.std.proofs.Math.Nat.{div-eq_of_lt, zero-div}
use Rattle.std.specs.Int.Bits.{bit_and, bit_or, bit_xor, xor_add_and, shifted_even, and_zero_r}
use Rattle.std.specs.Int.Bits.{or_zero_r}
use Rattle.std.proofs.Math.Pow.{ones_split}
use Rattle.std.specs.List.{range_with_len}
use Rattle.std.proofs.lemmas.Nat.{pow_pos, pow-add, pow_below, shl-shr, one_shl, mod_below}
use Rattle.std.proofs.lemmas.Nat.{shr_high, and_shr, or_shr, xor_shr, and_mod, or_mod, xor_mod}
use Rattle.std.proofs.lemmas.Nat.{and_mask}
use Rattle.std.proofs.lemmas.List.FromFn.{get_or-map-range_with_len}
use Rattle.std.proofs.lemmas.Bool.{cases_lt, cases_eq}
use Rattle.signals.specs.Sets.{empty, word_set}
use Rattle.signals.proofs.Sets.{map-empty, map-set}

-- bit k of w
abbrev bit : ℕ → ℕ → ℕ
bit w k = w / 2 ^ k % 2

bit_cases : (w k : ℕ) → (bit w k ≡ 0) ⊎ (bit w k ≡ 1)
bit_cases w k = let h : bit w k < 2 = mod_below (w / 2 ^ k) 2 (omega arith) in
    ⊎_elim inl (λ ne. inr (omega arith)) (cases_eq (bit w k) 0)

bit-or : (a b k : ℕ) → bit (bit_or a b) k ≡ bit_or (bit a k) (bit b k)
bit-or a b k = ap (λ n. n % 2) (or_shr a b k) ∙ or_mod (a / 2 ^ k) (b / 2 ^ k) 1

bit-and : (a b k : ℕ) → bit (bit_and a b) k ≡ bit_and (bit a k) (bit b k)
bit-and a b k = ap (λ n. n % 2) (and_shr a b k) ∙ and_mod (a / 2 ^ k) (b / 2 ^ k) 1

bit-xor : (a b k : ℕ) → bit (bit_xor a b) k ≡ bit_xor (bit a k) (bit b k)
bit-xor a b k = ap (λ n. n % 2) (xor_shr a b k) ∙ xor_mod (a / 2 ^ k) (b / 2 ^ k) 1

-- 2 ^ s has bit s
bit_own : (s : ℕ) → bit (2 ^ s) s ≡ 1
bit_own s = ap (λ n. n % 2) (ap (λ n. n / 2 ^ s) (omega arith) ∙ shl-shr 1 s)

-- and no bit below it
bit_below : (s j : ℕ) → bit (2 ^ (suc j + s)) s ≡ 0
bit_below s j =
    ap (λ n. n % 2) (ap (λ n. n / 2 ^ s) (pow-add 2 (suc j) s) ∙ shl-shr (2 ^ suc j) s)
    ∙ ap (λ n. n % 2) (omega arith)
    ∙ shifted_even 1 j

-- and no other
bit_other : (s k : ℕ) → k ≢ s → bit (2 ^ s) k ≡ 0
bit_other s k ne =
    ⊎_elim
    (λ (l : k < s). ap (λ t. bit (2 ^ t) k) (omega arith) ∙ bit_below k (s - k - 1))
    (λ (l : s ≤ k). ap (λ n. n % 2) (div-eq_of_lt (pow_below s k (omega arith))))
    (cases_lt k s)

-- each bit of the word of 64 ones is 1
bit_ones : (k : ℕ) → k < 64 → bit (2 ^ 64 - 1) k ≡ 1
bit_ones k h =
    let j : ℕ = 63 - k in
    let z : 64 ≡ suc j + k = omega arith in
    let e : 2 ^ 64 - 1 ≡ (2 ^ suc j - 1) * 2 ^ k + (2 ^ k - 1) =
    ap (λ n. 2 ^ n - 1) z ∙ ones_split (suc j) k in
    let q : (2 ^ 64 - 1) / 2 ^ k ≡ 2 ^ suc j - 1 =
    ap (λ n. n / 2 ^ k) e ∙ shr_high (2 ^ suc j - 1) k (2 ^ k - 1) (omega (arith, pow_pos k)) in
    ap (λ n. n % 2) q ∙ omega (arith, pow_pos (suc j), shifted_even 1 j)

-- the complement of a word is its exclusive or with the word of ones
complement_xor : (m : ℕ) → m < 2 ^ 64 → (2 ^ 64 - 1) - m ≡ bit_xor m (2 ^ 64 - 1)
complement_xor m h =
    let a : bit_and m (2 ^ 64 - 1) ≡ m % 2 ^ 64 = and_mask m 64 in
    let x = xor_add_and m (2 ^ 64 - 1) in
    omega (arith, a, x)

-- the complement of 2 ^ s lacks bit s
bit_complement_own : (s : ℕ) → s < 64 → bit (bit_xor (2 ^ s) (2 ^ 64 - 1)) s ≡ 0
bit_complement_own s h =
    bit-xor (2 ^ s) (2 ^ 64 - 1) s
    ∙ ap (λ n. bit_xor n (bit (2 ^ 64 - 1) s)) (bit_own s)
    ∙ ap (λ n. bit_xor 1 n) (bit_ones s h)

-- and has every other
bit_complement_other : (s k : ℕ) → k < 64 → k ≢ s → bit (bit_xor (2 ^ s) (2 ^ 64 - 1)) k ≡ 1
bit_complement_other s k h ne =
    bit-xor (2 ^ s) (2 ^ 64 - 1) k
    ∙ ap (λ n. bit_xor n (bit (2 ^ 64 - 1) k)) (bit_other s k ne)
    ∙ ap (λ n. bit_xor 0 n) (bit_ones k h)

or_one : (b : ℕ) → (b ≡ 0) ⊎ (b ≡ 1) → bit_or b 1 ≡ 1
or_one b h = ⊎_elim (λ e. ap (λ n. bit_or n 1) e) (λ e. ap (λ n. bit_or n 1) e) h

and_one : (b : ℕ) → (b ≡ 0) ⊎ (b ≡ 1) → bit_and b 1 ≡ b
and_one b h = ⊎_elim (λ e. ap (λ n. bit_and n 1) e ∙ sym e) (λ e. ap (λ n. bit_and n 1) e ∙ sym e) h

-- a signal is in the set where its bit is 1
pub get_or-word_set : (w s : ℕ) → s < 64
    → slice_index_or (word_set w) s false ≡ (w / 2 ^ s % 2 == 1)
unfolding word_set
get_or-word_set w s h = get_or-map-range_with_len (λ k. nat_eq (bit w k) 1) 0 64 s s false h
    (omega arith)

-- the word 0 makes the empty set
pub word_set-zero : word_set 0 ≡ empty
unfolding word_set
word_set-zero = map-empty (λ k. nat_eq (bit 0 k) 1)
    (λ k h. ap (λ n. nat_eq (n % 2) 1) (zero-div (2 ^ k)))

-- what `(w >> s) & 1 == 1` tells
pub word_set-tested : (w s : ℕ) → s < 64
    → (bit_and (w / 2 ^ s) 1 == 1) ≡ slice_index_or (word_set w) s false
word_set-tested w s h = ap (λ n. nat_eq n 1) (and_mask (w / 2 ^ s) 1) ∙ sym (get_or-word_set w s h)

-- the set of `w | 1 << s`
pub word_set-raised : (w s : ℕ) → s < 64
    → word_set (bit_or w ((1 * 2 ^ s) % 2 ^ 64)) ≡ slice_set (word_set w) s true
unfolding word_set
word_set-raised w s h =
    ap (λ m. map (λ k. nat_eq (bit (bit_or w m) k) 1) (range_with_len 0 64)) (one_shl s 64 h)
    ∙ map-set (λ k. nat_eq (bit w k) 1) (λ k. nat_eq (bit (bit_or w (2 ^ s)) k) 1) s true h
    (ap (λ n. nat_eq n 1) (bit-or w (2 ^ s) s ∙ ap (λ n. bit_or (bit w s) n) (bit_own s)
    ∙ or_one (bit w s) (bit_cases w s)))
    (λ k l ne. ap (λ n. nat_eq n 1)
    (bit-or w (2 ^ s) k ∙ ap (λ n. bit_or (bit w k) n) (bit_other s k ne)
    ∙ or_zero_r (bit w k)))

-- the set of `w & !(1 << s)`
pub word_set-lowered : (w s : ℕ) → s < 64
    → word_set (bit_and w ((2 ^ 64 - 1) - (1 * 2 ^ s) % 2 ^ 64)) ≡ slice_set (word_set w) s false
unfolding word_set
word_set-lowered w s h =
    let m : ℕ = bit_xor (2 ^ s) (2 ^ 64 - 1) in
    let e : (2 ^ 64 - 1) - (1 * 2 ^ s) % 2 ^ 64 ≡ m =
    ap (λ n. (2 ^ 64 - 1) - n) (one_shl s 64 h) ∙ complement_xor (2 ^ s) (pow_below s 64 h) in
    ap (λ n. map (λ k. nat_eq (bit (bit_and w n) k) 1) (range_with_len 0 64)) e
    ∙ map-set (λ k. nat_eq (bit w k) 1) (λ k. nat_eq (bit (bit_and w m) k) 1) s false h
    (ap (λ n. nat_eq n 1) (bit-and w m s ∙ ap (λ n. bit_and (bit w s) n) (bit_complement_own s h)
    ∙ and_zero_r (bit w s)))
    (λ k l ne. ap (λ n. nat_eq n 1)
    (bit-and w m k ∙ ap (λ n. bit_and (bit w k) n) (bit_complement_other s k l ne)
    ∙ and_one (bit w k) (bit_cases w k)))
