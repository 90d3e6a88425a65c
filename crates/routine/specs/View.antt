-- what a table and a routine hold, as lists
use Rattle.std.specs.Prelude.{◌≡◌, ℕ, ◌<◌, List, Some, None, Ok, Err, vec_items, vec_len, Option}
use Rattle.std.specs.Prelude.{Result}
use Rattle.routine.specs.declared.kinds.SignalKind.{SignalKind}
use Rattle.routine.specs.declared.kinds.Kind.{Kind}
use Rattle.routine.specs.declared.kinds.Statement.{Statement}
use Rattle.routine.specs.declared.refusals.Refusal.{Refusal}
use Rattle.routine.specs.declared.tables.Table.{Table}
use Rattle.routine.specs.declared.checked.Routine.{Routine}
use Rattle.routine.specs.Kinds.{kinds, Shape, no_part, one_part, two_parts}
use Rattle.routine.specs.Tree.{Tree, tree_at}
use Rattle.routine.specs.Layout.{read_of}
use Rattle.routine.specs.Meaning.{check_of}

-- the signals, and the kinds of the statements
abbrev pub table_signals : Table → List SignalKind
table_signals t = vec_items t.signals

abbrev pub table_kinds : Table → List Kind
table_kinds t = kinds (vec_items t.statements)

-- how many statements it has
abbrev pub count_of : Table → ℕ
count_of t = vec_len t.statements

-- the tree of a routine
abbrev pub tree_of : Routine → Tree
tree_of r = tree_at (table_kinds r.table) 0

-- what a table says
abbrev pub content : Table → List SignalKind × List Statement
content t = (table_signals t, vec_items t.statements)

-- what checking answers: the same table as a routine, or the definition's refusal
abbrev pub Checks : Table → Result Routine Refusal → Type 0
Checks t (Ok r) = (check_of (table_signals t) (table_kinds t) ≡ None) × (r.table ≡ t)
Checks t (Err e) = check_of (table_signals t) (table_kinds t) ≡ Some e

-- the parts of statement i lie above it and below n
abbrev pub PartsRise : ℕ → ℕ → Shape → Type 0
PartsRise n i (no_part k) = Unit {0}
PartsRise n i (one_part k a) = (i < a) × (a < n)
PartsRise n i (two_parts k a b) = (i < a) × (a < n) × (i < b) × (b < n)

-- what is read, or the refusal of its check
abbrev pub judged : List SignalKind × List Statement → Option Refusal
    → Result (List SignalKind × List Statement) Refusal
judged p None = Ok p
judged p (Some e) = Err e

-- a table that is read is checked next
abbrev pub then_checked : Result (List SignalKind × List Statement) Refusal
    → Result (List SignalKind × List Statement) Refusal
then_checked (Ok p) = judged p (check_of p.0 (kinds p.1))
then_checked (Err e) = Err e

-- the signals and the statements of the routine that the bytes say, or why they are none
abbrev pub load_of : List ℕ → Result (List SignalKind × List Statement) Refusal
load_of bytes = then_checked (read_of bytes)

-- what the table of a routine says
abbrev pub routine_content : Routine → List SignalKind × List Statement
routine_content r = content r.table
