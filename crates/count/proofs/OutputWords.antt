-- a word made from its highest bit down
use Rattle.std.proofs.Common.{◌≡◌, ℕ, suc, ◌+◌, ◌-◌, ◌*◌, ◌%◌, ◌^◌, ◌<◌, ◌≤◌, Bool, true, false}
use Rattle.std.proofs.Common.{cond, List, [], ◌∷◌, length, get_or, fold, bit_or, sym, ap, ◌∙◌, ap₂}
use Rattle.std.proofs.Common.{arith, pow_mono}
use Rattle.std.specs.Int.Bits.{or_zero_r}
use Rattle.std.proofs.lemmas.Nat.{or_disjoint, and_mask}
use Rattle.rules.specs.Model.{word_from}
use Rattle.record.proofs.Words.{word_below}

word_more : (P : ℕ → Bool) (n k : ℕ) → k < n
    → cond (P k) 1 0 + 2 * word_from P (n - (k + 1)) (k + 1) ≡ word_from P (n - k) k
word_more P n k l = let e : n - k ≡ suc (n - (k + 1)) = omega arith in
    sym (ap (λ (f : ℕ). word_from P f k) e)

word_fits : (P : ℕ → Bool) (f i : ℕ) → f ≤ 63 → word_from P f i < 2 ^ 63
word_fits P f i l = omega (arith, word_below P f i, pow_mono l)

word_step : (P : ℕ → Bool) (n k : ℕ) (b : Bool) → 0 < k → k ≤ n → b ≡ P (k - 1)
    → cond b 1 0 + 2 * word_from P (n - k) k ≡ word_from P (n - (k - 1)) (k - 1)
word_step P n k b z l e =
    let f : n - k ≡ n - (k - 1 + 1) = omega arith in
    let j : k ≡ k - 1 + 1 = omega arith in
    ap₂ (λ x y. x + 2 * y) (ap (λ (v : Bool). cond v 1 0) e) (ap₂ (word_from P) f j)
    ∙ word_more P n (k - 1) (omega arith)

-- a word moved up by one, and its lowest bit says whether P holds of s
abbrev pub with_bit : (ℕ → Bool) → ℕ → ℕ → ℕ
with_bit P w s = bit_or (w * 2 % 2 ^ 64) (cond (P s) 1 0)

-- the next bit, below those that stand
next_bit : (w : ℕ) (b : Bool) → w < 2 ^ 63
    → bit_or (w * 2 % 2 ^ 64) (cond b 1 0) ≡ cond b 1 0 + 2 * w
next_bit w false l = or_zero_r _ ∙ omega arith
next_bit w true l = or_disjoint (w * 2 % 2 ^ 64) 1 (and_mask (w * 2 % 2 ^ 64) 1 ∙ omega arith)
    ∙ omega arith

-- a fold over the numbers below n, from the highest down
word_folded : (P : ℕ → Bool) (m n : ℕ) (xs : List ℕ) → m ≤ 64 → n ≤ m → length xs ≡ n
    → ((k : ℕ) → k < n → get_or xs k 0 ≡ n - 1 - k)
    → fold (with_bit P) (word_from P (m - n) n) xs
    ≡ word_from P m 0
word_folded P m n [] few l e h = let z : n ≡ 0 = omega (arith, e) in
    ap₂ (word_from P) (let d : m - n ≡ m = omega arith in d) z
word_folded P m n (x ∷ xs) few l e h =
    let z : 0 < n = omega (arith, e) in
    let y : x ≡ n - 1 = h 0 z ∙ omega arith in
    let t : bit_or (word_from P (m - n) n * 2 % 2 ^ 64) (cond (P x) 1 0)
    ≡ word_from P (m - (n - 1)) (n - 1) =
    next_bit (word_from P (m - n) n) (P x) (word_fits P (m - n) n (omega arith))
    ∙ word_step P m n (P x) z l (ap P y) in
    ap (λ w. fold (with_bit P) w xs) t
    ∙ word_folded P m (n - 1) xs few (omega arith) (omega (arith, e))
    (λ k b. h (suc k) (omega arith) ∙ omega arith)

-- the fold over all numbers below n makes their word
pub word_made : (P : ℕ → Bool) (n : ℕ) (xs : List ℕ) → n ≤ 64 → length xs ≡ n
    → ((k : ℕ) → k < n → get_or xs k 0 ≡ n - 1 - k)
    → fold (with_bit P) 0 xs ≡ word_from P n 0
word_made P n xs few l h =
    let z : 0 ≡ n - n = omega arith in
    ap (λ w. fold (with_bit P) w xs)
    (ap (λ (f : ℕ). word_from P f n) z) ∙ word_folded P n n xs few (omega arith) l h
