-- what a statement is: its parts, and its kind by the number of them
use Rattle.std.specs.Prelude.{ℕ, List, map, slice_index_or}
use Rattle.routine.specs.declared.kinds.Kind.{Kind}
use Rattle.routine.specs.declared.kinds.Kind.TheVariants.{Nothing, Stop, Emit, Wait, Sequence}
use Rattle.routine.specs.declared.kinds.Kind.TheVariants.{Parallel, Loop, When, Kill, Local}
use Rattle.routine.specs.declared.kinds.Mark.{Mark}
use Rattle.routine.specs.declared.kinds.Mark.TheVariants.{Idle}
use Rattle.routine.specs.declared.kinds.Statement.{Statement}

-- what each statement of a table is
abbrev pub kinds : List Statement → List Kind
kinds ss = map (λ (x : Statement). x.kind) ss

-- the mark of each
abbrev pub marks : List Statement → List Mark
marks ss = map (λ (x : Statement). x.mark) ss

-- a statement that no count has begun
abbrev pub fresh : Kind → Statement
fresh k = record { kind = k; mark = Idle }

-- a statement without parts, with its signal
pub data Leaf : Type 0 where
  nothing stop : Leaf
  emit wait : ℕ → Leaf

-- a statement with one part
pub data One : Type 0 where
  loop : One
  kill local : ℕ → One

-- a statement with two parts
pub data Two : Type 0 where
  sequence parallel : Two
  when : ℕ → Two

-- a statement and the numbers of its parts
pub data Shape : Type 0 where
  no_part : Leaf → Shape
  one_part : One → ℕ → Shape
  two_parts : Two → ℕ → ℕ → Shape

-- a statement by the number of its parts: what the rules go by
abbrev pub shape : Kind → Shape
shape Nothing = no_part nothing
shape Stop = no_part stop
shape (Emit s) = no_part (emit s)
shape (Wait s) = no_part (wait s)
shape (Sequence a b) = two_parts sequence a b
shape (Parallel a b) = two_parts parallel a b
shape (Loop a) = one_part loop a
shape (When s a b) = two_parts (when s) a b
shape (Kill s a) = one_part (kill s) a
shape (Local s a) = one_part (local s) a

-- statement i of a table, nothing where there is none
abbrev pub kind_at : List Kind → ℕ → Kind
kind_at ks i = slice_index_or ks i Nothing

abbrev pub shape_at : List Kind → ℕ → Shape
shape_at ks i = shape (kind_at ks i)
