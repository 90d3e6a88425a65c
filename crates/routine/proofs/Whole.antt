-- the tree of a routine has each statement once
use Rattle.std.proofs.Common.{◌≡◌, ℕ, ◌<◌, ◌≤◌, cond, ltb, List, length, vec_items, vec_len, arith}
use Rattle.routine.specs.declared.kinds.Kind.{Kind}
use Rattle.routine.specs.declared.checked.Routine.{Routine}
use Rattle.routine.specs.Tree.{tree, tree_at, occurs, size}
use Rattle.routine.specs.View.{table_signals, table_kinds, tree_of}
use Rattle.routine.proofs.Lists.{kinds_length}
use Rattle.routine.proofs.Trees.{Rising, rising, fuel}
use Rattle.routine.proofs.Once.{Once, occurs_once, whole_size}
use Rattle.routine.proofs.Passed.{once}

module _ (r : Routine) where
  abbrev ks : List Kind
  ks = table_kinds r.table

  -- its parts lie above their statement
  pub rises : Rising ks
  rises = rising (vec_len r.table.signals) ks r.table.formed

  -- each statement but the first is named once
  named_once : Once ks
  named_once = once (table_signals r.table) ks r.passed

  -- it has a statement
  pub some_statement : 0 < length ks
  some_statement =
      let v = r.table.statements in
      omega (arith, kinds_length (vec_items v) (vec_len v) v.ok.0, r.table.some)

  -- each number below n occurs once in its tree, and no other
  pub each_once : (n : ℕ) → n ≡ length ks → (i : ℕ) → occurs (tree_of r) i ≡ cond (ltb i n) 1 0
  each_once n e i = rw e (occurs_once ks rises named_once some_statement i)

  -- its tree has as many statements as it
  pub all_statements : size (tree_of r) ≡ length ks
  all_statements = whole_size ks rises named_once some_statement

  -- more fuel than statements gives the same tree
  pub any_fuel : (deep : ℕ) → length ks ≤ deep → tree ks deep 0 ≡ tree_of r
  unfolding tree_at
  any_fuel deep l = fuel ks rises deep (length ks) 0 some_statement (omega arith) (omega arith)
