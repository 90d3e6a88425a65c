-- what the tests of a table say, in the words of the proofs
use Rattle.std.proofs.Common.{ℕ, ◌≡◌, List, ◌<◌, length}
use Rattle.routine.specs.declared.kinds.Kind.{Kind}
use Rattle.routine.specs.declared.kinds.SignalKind.{SignalKind}
use Rattle.routine.specs.declared.kinds.SignalKind.TheVariants.{Local}
use Rattle.routine.specs.Kinds.{Shape, no_part, one_part, two_parts, shape_at}
use Rattle.routine.specs.Meaning.{signal_at}
use Rattle.routine.specs.Tree.{can_end, tree_at}
use Rattle.routine.proofs.Once.{Once}
use Rattle.routine.proofs.Trees.{Under, Rising}
use Rattle.rules.specs.Rules.{One, loop, kill, local}
use Rattle.rules.proofs.TreeScopes.{BindsOne, NamesLeaf, NamesTwo}
use Rattle.rules.proofs.StepsLeft.{Loops}

-- the row's statement is local to s
abbrev pub RowBinds : Shape → ℕ → Type 0
RowBinds (no_part k) s = ⊥
RowBinds (one_part k a) s = BindsOne k s
RowBinds (two_parts k a b) s = ⊥

abbrev pub UsesOne : One → ℕ → Type 0
UsesOne loop s = ⊥
UsesOne (kill a) s = a ≡ s
UsesOne (local a) s = ⊥

-- the row's statement emits, waits for, looks at or is killed by s
abbrev pub RowUses : Shape → ℕ → Type 0
RowUses (no_part k) s = NamesLeaf k s
RowUses (one_part k a) s = UsesOne k s
RowUses (two_parts k a b) s = NamesTwo k s

-- only local signals have a local statement, each at most one, and what uses them lies inside it
pub record Scopes (ks : List Kind) (gs : List SignalKind) : Type 0 where
  pub inner_only : (i s : ℕ) → i < length ks → RowBinds (shape_at ks i) s → signal_at gs s ≡ Local
  pub alone : (i j s : ℕ) → i < length ks → j < length ks → RowBinds (shape_at ks i) s
      → RowBinds (shape_at ks j) s → i ≡ j
  pub within : (i s : ℕ) → i < length ks → RowUses (shape_at ks i) s → signal_at gs s ≡ Local
      → (j : ℕ) × (j < length ks) × RowBinds (shape_at ks j) s × Under ks j i

-- a loop's first part cannot end at once
abbrev pub Turning : List Kind → Shape → Type 0
Turning ks (no_part k) = Unit {0}
Turning ks (one_part k a) = Loops k (can_end (tree_at ks a))
Turning ks (two_parts k a b) = Unit {0}

-- all tests of a table together
pub record Table (ks : List Kind) (gs : List SignalKind) : Type 0 where
  pub some_row : 0 < length ks
  pub shaped : Rising ks
  pub once : Once ks
  pub scopes : Scopes ks gs
  pub turning : (i : ℕ) → i < length ks → Turning ks (shape_at ks i)
