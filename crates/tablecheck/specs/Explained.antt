-- what is printed of a table
use Rattle.std.specs.Prelude.{ℕ, List, ◌++◌, Ok, Err, Result}
use Rattle.routine.specs.declared.refusals.Refusal.{Refusal}
use Rattle.routine.specs.Refusals.{refusal_line}
use Rattle.routine.specs.Texts.{line_end, reason_text}
use Rattle.input.specs.Printed.{said}
use Rattle.tablecheck.specs.declared.explained.Explained.{Explained}

-- the text, or two lines for the refusal, by its number and in plain words
abbrev pub in_print : Result (List ℕ) Refusal → List ℕ
in_print (Ok text) = text
in_print (Err e) = refusal_line e ++ (line_end ++ (reason_text e ++ line_end))

abbrev pub explained_text : Explained → List ℕ
explained_text e = in_print (said e.0)
