-- what a program prints of a table
use Rattle.std.specs.Prelude.{ℕ, List, ◌++◌, Ok, Err, Result, string_bytes}
use Rattle.routine.specs.declared.refusals.Refusal.{Refusal}
use Rattle.routine.specs.Refusals.{refusal_line}
use Rattle.routine.specs.Texts.{line_end}
use Rattle.input.specs.declared.printed.Printed.{Printed}
use Rattle.input.specs.declared.printed.Printed.TheVariants.{Refused, Lines}

-- the refusal, or the text
abbrev pub said : Printed → Result (List ℕ) Refusal
said (Refused e) = Err e
said (Lines t) = Ok (string_bytes t)

-- in print: the text, or a line for the refusal
abbrev pub in_print : Result (List ℕ) Refusal → List ℕ
in_print (Ok text) = text
in_print (Err e) = refusal_line e ++ line_end

-- what is printed
abbrev pub printed_text : Printed → List ℕ
printed_text p = in_print (said p)
