-- the lines of the report
use Rattle.std.proofs.Common.{◌≡◌, ℕ, zero, suc, ◌^◌, ◌-◌, [], codes, refl, rules, arith}
use Rattle.std.specs.List.{repeat}
use Rattle.std.specs.Fmt.{format_spec, styled_text, padded, take_chars, char_count}

-- an empty text under a width is so many blanks
pub blanks : (width : ℕ)
    → styled_text (format_spec 32 0 0 width (2 ^ 64 - 1)) [] ≡ repeat width (codes " ")
unfolding padded take_chars char_count lib.Utf8.encode
blanks zero = refl
blanks (suc w) = let e : suc w - 0 - 0 ≡ suc w = omega arith in rw e (search rules)
