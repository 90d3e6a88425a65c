-- what is written of an instant
use Rattle.std.specs.Prelude.{ℕ, zero, suc, ◌+◌, ◌/◌, ◌%◌, ◌^◌, cond, List, [], ◌∷◌, ◌++◌, codes}
use Rattle.std.specs.Prelude.{decimal, nat_lt}
use Rattle.rules.specs.declared.status.Status.{Status}
use Rattle.rules.specs.Letters.{letter_of}

-- 0 to 9, then a to f
abbrev pub digit : ℕ → ℕ
digit d = cond (nat_lt d 10) (48 + d) (87 + d)

-- so many hexadecimal digits of a number, the highest first
unfoldable pub hex : ℕ → ℕ → List ℕ
hex zero n = []
hex (suc i) n = digit (n / 16 ^ i % 16) ∷ hex i n

-- an instant: its number, the output word, the status, the steps
abbrev pub instant_text : ℕ → ℕ → Status → ℕ → List ℕ
instant_text instant outputs status steps =
    decimal instant ++ (codes " "
    ++ (hex 16 outputs ++ (codes " " ++ (letter_of status ++ (codes " " ++ decimal steps)))))
