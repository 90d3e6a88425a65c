-- what is written of a word in hexadecimal
use Rattle.std.proofs.Common.{◌≡◌, ℕ, zero, suc, ◌-◌, ◌/◌, ◌%◌, ◌^◌, ◌<◌, ◌≤◌, false, List, [], ◌∷◌}
use Rattle.std.proofs.Common.{◌++◌, length, length-append, replicate, sym, refl, ap, ◌∙◌}
use Rattle.std.proofs.Common.{append_assoc, arith, nat_eq, eqb-true}
use Rattle.std.proofs.Math.Nat.{div-div-eq-div-mul, pow-succ', zero-div}
use Rattle.std.proofs.lemmas.Bool.{cond_both, eqb-false}
use Rattle.std.proofs.lemmas.List.{append-nil}
use Rattle.std.specs.Fmt.{digits, digits_onto, padded_integral, format_spec, char_count}
use Rattle.rules.specs.Texts.{digit, hex}

-- the last digit stands after those of a sixteenth
hex_last : (k n : ℕ) → hex (suc k) n ≡ hex k (n / 16) ++ (digit (n % 16) ∷ [])
unfolding hex
hex_last zero n = let e : n / 1 ≡ n = omega arith in ap (λ (m : ℕ). digit (m % 16) ∷ []) e
hex_last (suc k) n =
    let e : n / 16 ^ suc k ≡ n / 16 / 16 ^ k =
    ap (λ (p : ℕ). n / p) (pow-succ' 16 k) ∙ sym (div-div-eq-div-mul n 16 (16 ^ k)) in
    ap (λ (m : ℕ). digit (m % 16) ∷ hex (suc k) n) e
    ∙ ap (λ (ds : List ℕ). digit (n / 16 / 16 ^ k % 16) ∷ ds) (hex_last k n)

hex_nought : (k : ℕ) → hex k 0 ≡ replicate k 48
unfolding hex
hex_nought zero = refl
hex_nought (suc k) = ap (λ (m : ℕ). digit (m % 16) ∷ hex k 0) (zero-div (16 ^ k))
    ∙ ap (λ (ds : List ℕ). 48 ∷ ds) (hex_nought k)

-- out is some digits and then acc, and the digits, after noughts, are k of n
record Written (k n : ℕ) (acc out : List ℕ) : Type 0 where
  digits : List ℕ
  is : out ≡ digits ++ acc
  few : length digits ≤ k
  whole : hex k n ≡ replicate (k - length digits) 48 ++ digits

module _ (k n : ℕ) (acc : List ℕ) where
  abbrev last : List ℕ
  last = digit (n % 16) ∷ []

  alone : n / 16 ≡ 0 → Written (suc k) n acc (last ++ acc)
  alone z =
      record {
        digits = last;
        is = refl;
        few = omega arith;
        whole = hex_last k n ∙ ap (λ (m : ℕ). hex k m ++ last) z
            ∙ ap (λ l. l ++ last) (hex_nought k)
            ∙ ap (λ (j : ℕ). replicate j 48 ++ last) (omega arith);
      }

  behind : (out : List ℕ) → Written k (n / 16) (last ++ acc) out → Written (suc k) n acc out
  behind out w =
      let e = length-append w.digits last in
      record {
        digits = w.digits ++ last;
        is = w.is ∙ sym (append_assoc w.digits last acc);
        few = omega (arith, w.few);
        whole = hex_last k n ∙ ap (λ l. l ++ last) w.whole ∙ append_assoc _ w.digits last
            ∙ ap (λ (j : ℕ). replicate j 48 ++ (w.digits ++ last)) (omega (arith, w.few));
      }

onto : (i k n : ℕ) (acc : List ℕ) → k < i → n < 16 ^ suc k
    → Written (suc k) n acc (digits_onto i 16 false n acc)
onto zero k n acc le small = absurd (omega arith)
onto (suc i) zero n acc le small =
    cond_both (nat_eq (n / 16) 0) _ _ (Written 1 n acc) (λ e. alone 0 n acc (eqb-true (n / 16) 0 e))
    (λ e. absurd (eqb-false (n / 16) 0 e (omega arith)))
onto (suc i) (suc k) n acc le small =
    cond_both (nat_eq (n / 16) 0) _ _ (Written (suc (suc k)) n acc)
    (λ e. alone (suc k) n acc (eqb-true (n / 16) 0 e))
    (λ e. behind (suc k) n acc _
    (onto i k (n / 16) (last k n acc ++ acc) (omega arith)
    (omega (arith, pow-succ' 16 (suc k)))))

-- `{:016x}` fills up with noughts
filled : (ds : List ℕ) → padded_integral (format_spec 32 0 4 16 (2 ^ 64 - 1)) false [] ds
    ≡ replicate (16 - length ds) 48 ++ ds
unfolding padded_integral char_count
filled ds = ap (λ l. replicate (16 - length ds - 0 - 0) 48 ++ l) (append-nil ds)
    ∙ ap (λ (j : ℕ). replicate j 48 ++ ds) (omega arith)

whole_of : (n : ℕ) → digits 16 false n ≡ digits_onto 64 16 false n []
unfolding digits
whole_of n = refl

-- what `{:016x}` writes of a word
pub written_hex : (n : ℕ) → n < 2 ^ 64
    → padded_integral (format_spec 32 0 4 16 (2 ^ 64 - 1)) false [] (digits 16 false n) ≡ hex 16 n
written_hex n small =
    let r = onto 64 15 n [] (omega arith) small in
    let e = whole_of n ∙ r.is ∙ append-nil r.digits in
    filled (digits 16 false n) ∙ ap (λ ds. replicate (16 - length ds) 48 ++ ds) e ∙ sym r.whole
