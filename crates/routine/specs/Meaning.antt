-- the tests of a table's meaning; each holds of the statements that fail
use Rattle.std.specs.Prelude.{ℕ, zero, suc, ◌+◌, Bool, true, false, cond, not, ◌&&◌, List}
use Rattle.std.specs.Prelude.{length, is_some, Some, None, Option, ◌==◌, slice_index_or}
use Rattle.std.specs.List.{list_any, range_with_len}
use Rattle.routine.specs.declared.kinds.SignalKind.{SignalKind}
use Rattle.routine.specs.declared.kinds.SignalKind.TheVariants.{Input, Output, Local as Own}
use Rattle.routine.specs.declared.kinds.Kind.{Kind}
use Rattle.routine.specs.declared.kinds.Kind.TheVariants.{Nothing, Stop, Emit, Wait, Sequence}
use Rattle.routine.specs.declared.kinds.Kind.TheVariants.{Parallel, Loop, When, Kill, Local}
use Rattle.routine.specs.declared.refusals.Refusal.{Refusal}
use Rattle.routine.specs.declared.refusals.Refusal.TheVariants.{Parts, SignalUse, Scope}
use Rattle.routine.specs.declared.refusals.Refusal.TheVariants.{EndlessLoop}
use Rattle.routine.specs.Search.{lowest}
use Rattle.routine.specs.Kinds.{Shape, no_part, one_part, two_parts, kind_at, shape_at}
use Rattle.routine.specs.Tree.{tree_at, inside, can_end}

-- how often a statement names a as a part
abbrev pub names : Shape → ℕ → ℕ
names (no_part k) a = 0
names (one_part k p) a = cond (a == p) 1 0
names (two_parts k p q) a = cond (a == p) 1 0 + cond (a == q) 1 0

-- and how often the first n statements do
abbrev pub named : List Kind → ℕ → ℕ → ℕ
named ks zero a = 0
named ks (suc n) a = names (shape_at ks n) a + named ks n a

-- other than 0, and not named as a part exactly once
abbrev pub is_misnamed : List Kind → ℕ → Bool
is_misnamed ks i = not (i == 0) && not (named ks (length ks) i == 1)

abbrev pub is_input : SignalKind → Bool
is_input Input = true
is_input Output = false
is_input Own = false

abbrev pub is_local : SignalKind → Bool
is_local Input = false
is_local Output = false
is_local Own = true

-- the two kinds are the same
abbrev pub same : SignalKind → SignalKind → Bool
same Input Input = true
same Input Output = false
same Input Own = false
same Output Input = false
same Output Output = true
same Output Own = false
same Own Input = false
same Own Output = false
same Own Own = true

-- the kind of signal s; a number that is none counts as an input
abbrev pub signal_at : List SignalKind → ℕ → SignalKind
signal_at gs s = slice_index_or gs s Input

-- an emit of an input, or a local statement whose signal is not local
abbrev pub misuses : List SignalKind → Kind → Bool
misuses gs Nothing = false
misuses gs Stop = false
misuses gs (Emit s) = is_input (signal_at gs s)
misuses gs (Wait s) = false
misuses gs (Sequence a b) = false
misuses gs (Parallel a b) = false
misuses gs (Loop a) = false
misuses gs (When s a b) = false
misuses gs (Kill s a) = false
misuses gs (Local s a) = not (is_local (signal_at gs s))

-- the statement is a local statement of s
abbrev pub declares : Kind → ℕ → Bool
declares Nothing s = false
declares Stop s = false
declares (Emit x) s = false
declares (Wait x) s = false
declares (Sequence a b) s = false
declares (Parallel a b) s = false
declares (Loop a) s = false
declares (When x a b) s = false
declares (Kill x a) s = false
declares (Local x a) s = x == s

-- statement j is a local statement of s, and i lies inside it
abbrev pub encloses : List Kind → ℕ → ℕ → ℕ → Bool
encloses ks s i j = declares (kind_at ks j) s && inside (tree_at ks j) i

-- statement i lies inside a local statement of s
abbrev pub in_scope : List Kind → ℕ → ℕ → Bool
in_scope ks s i = list_any (encloses ks s i) (range_with_len 0 (length ks))

-- a signal that is local, used outside its scope
abbrev pub is_out_of_scope : List SignalKind → List Kind → ℕ → ℕ → Bool
is_out_of_scope gs ks i s = is_local (signal_at gs s) && not (in_scope ks s i)

-- a use of a local signal outside its scope, or a local statement with the signal of a lower one
abbrev pub unscoped : List SignalKind → List Kind → ℕ → Kind → Bool
unscoped gs ks i Nothing = false
unscoped gs ks i Stop = false
unscoped gs ks i (Emit s) = is_out_of_scope gs ks i s
unscoped gs ks i (Wait s) = is_out_of_scope gs ks i s
unscoped gs ks i (Sequence a b) = false
unscoped gs ks i (Parallel a b) = false
unscoped gs ks i (Loop a) = false
unscoped gs ks i (When s a b) = is_out_of_scope gs ks i s
unscoped gs ks i (Kill s a) = is_out_of_scope gs ks i s
unscoped gs ks i (Local s a) = list_any (λ j. declares (kind_at ks j) s) (range_with_len 0 i)

-- a loop whose first can end at once
abbrev pub endless : List Kind → Kind → Bool
endless ks Nothing = false
endless ks Stop = false
endless ks (Emit s) = false
endless ks (Wait s) = false
endless ks (Sequence a b) = false
endless ks (Parallel a b) = false
endless ks (Loop a) = can_end (tree_at ks a)
endless ks (When s a b) = false
endless ks (Kill s a) = false
endless ks (Local s a) = false

-- the refusal of a test at the statement that it found, or what the later tests say
abbrev pub refusing : Option ℕ → (ℕ → Refusal) → Option Refusal → Option Refusal
refusing None why later = later
refusing (Some i) why later = Some (why i)

-- the first refusal that applies: each test over the whole table before the next
unfoldable pub check_of : List SignalKind → List Kind → Option Refusal
check_of gs ks =
    refusing (lowest (is_misnamed ks) (length ks)) Parts
    (refusing (lowest (λ i. misuses gs (kind_at ks i)) (length ks)) SignalUse
    (refusing (lowest (λ i. unscoped gs ks i (kind_at ks i)) (length ks)) Scope
    (refusing (lowest (λ i. endless ks (kind_at ks i)) (length ks)) EndlessLoop None)))

-- no test fails
abbrev pub passes : List SignalKind → List Kind → Bool
passes gs ks = not (is_some (check_of gs ks))
