-- what the rows of a count hold, as lists
use Rattle.std.specs.Prelude.{◌≡◌, ℕ, List, vec_items, vec_len}
use Rattle.routine.specs.declared.kinds.Kind.{Kind}
use Rattle.routine.specs.declared.kinds.Mark.{Mark}
use Rattle.routine.specs.declared.kinds.SignalKind.{SignalKind}
use Rattle.routine.specs.Kinds.{kinds, marks}
use Rattle.routine.specs.Tree.{Tree, tree_at}
use Rattle.count.specs.declared.machine.Rows.{Rows}

-- the kinds of the statements, their marks, and the signals
abbrev pub kinds_in : Rows → List Kind
kinds_in r = kinds (vec_items r.routine.table.statements)

abbrev pub marks_in : Rows → List Mark
marks_in r = marks (vec_items r.routine.table.statements)

abbrev pub signals_in : Rows → List SignalKind
signals_in r = vec_items r.routine.table.signals

-- how many statements there are
abbrev pub count_in : Rows → ℕ
count_in r = vec_len r.routine.table.statements

-- the tree of statement i
abbrev pub tree_in : Rows → ℕ → Tree
tree_in r i = tree_at (kinds_in r) i

-- u has the routine of t, and the marks ms
pub record Marked (t u : Rows) (ms : List Mark) : Type 0 where
  pub kinds : kinds_in u ≡ kinds_in t
  pub signals : signals_in u ≡ signals_in t
  pub len : count_in u ≡ count_in t
  pub marks : marks_in u ≡ ms
