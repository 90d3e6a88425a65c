-- what the contents of a table announce
use Rattle.std.specs.Prelude.{◌≡◌, ℕ, ◌+◌, ◌*◌, ◌≤◌, true, false, List, length, Ok, Err, Result}
use Rattle.routine.specs.declared.reader.Header.{Header}
use Rattle.routine.specs.declared.refusals.Refusal.{Refusal}
use Rattle.routine.specs.declared.refusals.Refusal.TheVariants.{TableForm}
use Rattle.routine.specs.declared.tables.TheConstants.{CONTENTS_BYTES, STATEMENT_BYTES}
use Rattle.routine.specs.declared.tables.TheConstants.{MOST_SIGNALS, MOST_STATEMENTS}
use Rattle.routine.specs.Layout.{headed, signal_count, statement_count}

-- how many there are of each, where the contents and the length are right
abbrev pub Headed : List ℕ → Result Header Refusal → Type 0
Headed bytes (Ok h) =
    (headed bytes ≡ true) × (h.signals ≡ signal_count bytes)
    × (h.statements ≡ statement_count bytes)
    × (length bytes ≡ CONTENTS_BYTES + h.signals + STATEMENT_BYTES * h.statements)
    × (h.signals ≤ MOST_SIGNALS) × (1 ≤ h.statements) × (h.statements ≤ MOST_STATEMENTS)
Headed bytes (Err e) = (headed bytes ≡ false) × (e ≡ TableForm)
