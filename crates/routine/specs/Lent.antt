-- what is lent of a table, and what is read of its bytes before it takes memory
use Rattle.std.specs.Prelude.{ℕ, List, length}
use Rattle.routine.specs.declared.kinds.SignalKind.{SignalKind}
use Rattle.routine.specs.declared.kinds.Kind.{Kind}
use Rattle.routine.specs.declared.kinds.Statement.{Statement}
use Rattle.routine.specs.declared.rows.Rows.{Rows}
use Rattle.routine.specs.declared.drafts.Draft.{Draft}
use Rattle.routine.specs.Kinds.{kinds}

-- the signals and the kinds of the statements
abbrev pub lent_signals : Rows → List SignalKind
lent_signals r = r.signals.now

abbrev pub lent_kinds : Rows → List Kind
lent_kinds r = kinds r.statements.now

-- how many statements there are
abbrev pub lent_count : Rows → ℕ
lent_count r = length r.statements.now

-- what a draft says
abbrev pub draft_content : Draft → List SignalKind × List Statement
draft_content d = (d.signals.items, d.statements.items)
