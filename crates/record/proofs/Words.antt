-- a set of signals as a word, and back
use Rattle.std.proofs.Common.{◌≡◌, ℕ, zero, suc, ◌+◌, ◌/◌, ◌^◌, ◌<◌, ◌≤◌, Bool, true, false, cond}
use Rattle.std.proofs.Common.{length, get_or, refl, sym, ap, ◌∙◌, ⊎_elim, pow-suc, arith}
use Rattle.std.proofs.Common.{ext_get_or, ◌==◌}
use Rattle.std.specs.Int.{bit_at}
use Rattle.std.proofs.lemmas.Nat.Bits.{bit_at_lowest, bit_at-suc, bit_at-lt, bit_at_above}
use Rattle.std.proofs.lemmas.Nat.Bits.{same_from_bits_below}
use Rattle.std.proofs.lemmas.Bool.{cases_lt}
use Rattle.routine.specs.declared.tables.TheConstants.{MOST_SIGNALS}
use Rattle.signals.specs.declared.board.TheConstants.{SIGNALS}
use Rattle.signals.specs.Sets.{word_set}
use Rattle.signals.specs.Sizes.{length-word_set}
use Rattle.signals.proofs.Sets.{get_or-above}
use Rattle.signals.proofs.WordSets.{get_or-word_set}
use Rattle.rules.specs.Rules.{Signals}
use Rattle.rules.specs.Model.{word_from}
use Rattle.record.specs.Sound.{Within}

digit : (b : Bool) → cond b 1 0 ≤ 1
digit true = omega arith
digit false = omega arith

-- a word of n bits is below 2 ^ n
pub word_below : (P : ℕ → Bool) (n i : ℕ) → word_from P n i < 2 ^ n
word_below P zero i = omega arith
word_below P (suc n) i = omega (arith, word_below P n (i + 1), digit (P i), pow-suc 2 n)

-- bit k of the word from bit i on says whether P holds of i + k
bit_of : (P : ℕ → Bool) (n i k j : ℕ) → k < n → i + k ≡ j
    → bit_at (word_from P n i) k ≡ cond (P j) 1 0
bit_of P zero i k j l e = absurd (omega arith)
bit_of P (suc n) i zero j l e =
    let same : i ≡ j = omega arith in
    bit_at_lowest (word_from P (suc n) i) ∙ omega (arith, digit (P i))
    ∙ ap (λ q. cond (P q) 1 0) same
bit_of P (suc n) i (suc k) j l e =
    let half : word_from P (suc n) i / 2 ≡ word_from P n (i + 1) = omega (arith, digit (P i)) in
    bit_at-suc (word_from P (suc n) i) k ∙ ap (λ w. bit_at w k) half
    ∙ bit_of P n (i + 1) k j (omega arith) (omega arith)

is_one : (b : Bool) → (cond b 1 0 == 1) ≡ b
is_one true = refl
is_one false = refl

as_digit : (d : ℕ) → d < 2 → cond (d == 1) 1 0 ≡ d
as_digit zero l = refl
as_digit (suc zero) l = refl
as_digit (suc (suc d)) l = absurd (omega arith)

-- a word below 2 ^ g is the word of its own set
pub word_again : (w g : ℕ) → g ≤ MOST_SIGNALS → w < 2 ^ g
    → word_from (λ s. get_or (word_set w) s false) g 0 ≡ w
word_again w g few l =
    same_from_bits_below g (word_from (λ s. get_or (word_set w) s false) g 0) w
    (word_below (λ s. get_or (word_set w) s false) g 0) l
    (λ k b. bit_of (λ s. get_or (word_set w) s false) g 0 k k b (omega arith)
    ∙ ap (λ c. cond c 1 0) (get_or-word_set w k (omega arith))
    ∙ as_digit (bit_at w k) (bit_at-lt w k))

-- a word below 2 ^ g has signals below g
pub word_within : (w g : ℕ) → w < 2 ^ g → Within g (word_set w)
word_within w g l s m =
    ⊎_elim
    (λ (b : s < SIGNALS). get_or-word_set w s b ∙ ap (λ d. d == 1) (bit_at_above w g s l m))
    (λ (b : SIGNALS ≤ s). get_or-above (word_set w) s (length-word_set w) b)
    (cases_lt s SIGNALS)

-- the set of the word of a set of signals below g is that set
pub set_again : (e : Signals) (g : ℕ) → length e ≡ SIGNALS → Within g e
    → word_set (word_from (λ s. get_or e s false) g 0) ≡ e
set_again e g long h =
    let w = word_from (λ s. get_or e s false) g 0 in
    ext_get_or false (word_set w) e (length-word_set w ∙ sym long)
    (λ s l. let b : s < SIGNALS = omega (arith, length-word_set w) in
    get_or-word_set w s b
    ∙ ⊎_elim
    (λ (c : s < g). ap (λ d. d == 1) (bit_of (λ q. get_or e q false) g 0 s s c (omega arith))
    ∙ is_one (get_or e s false))
    (λ (c : g ≤ s). ap (λ d. d == 1) (bit_at_above w g s (word_below (λ q. get_or e q false) g 0) c)
    ∙ sym (h s c))
    (cases_lt s g))
