-- a routine that is checked passes the tests of a table
use Rattle.std.proofs.Common.{ℕ, Bool, ◌≡◌, true, ◌<◌, arith}
use Rattle.std.proofs.Common.{false, List, ◌&&◌, not, length, ap, subst}
use Rattle.std.proofs.lemmas.Bool.{both_ways, and_parts}
use Rattle.routine.specs.declared.checked.Routine.{Routine}
use Rattle.routine.specs.declared.kinds.Kind.{Kind}
use Rattle.routine.specs.declared.kinds.SignalKind.{SignalKind}
use Rattle.routine.specs.declared.kinds.SignalKind.TheVariants.{Local}
use Rattle.routine.specs.Kinds.{shape, kind_at, shape_at}
use Rattle.routine.specs.Layout.{Formed}
use Rattle.routine.specs.Meaning.{declares, misuses, signal_at, unscoped, is_out_of_scope, endless}
use Rattle.routine.specs.Meaning.{in_scope, encloses}
use Rattle.std.specs.List.{list_any, range_with_len}
use Rattle.routine.specs.Tree.{inside, contains, tree_at}
use Rattle.routine.specs.View.{table_signals, table_kinds}
use Rattle.routine.proofs.Passed.{Tested, tested, once}
use Rattle.routine.proofs.Searches.{some_passes, none_passes}
use Rattle.routine.proofs.Trees.{Rising, rising, in_under, contains_in}
use Rattle.routine.proofs.Whole.{some_statement}
use Rattle.routine.specs.Meaning.{is_local}
use Rattle.rules.specs.Rules.{Tree, leaf, one, two}
use Rattle.rules.specs.Theorems.{Checked}
use Rattle.rules.proofs.TableTests.{RowBinds, RowUses, Turning, Scopes, Table}

-- what is inside a statement is in its tree
pub inside_contains : (t : Tree) (i : ℕ) → inside t i ≡ true → contains t i ≡ true
inside_contains (leaf n k) i h = grind arith
inside_contains (one n k p) i h = grind arith
inside_contains (two n k p q) i h = grind arith

binds_declares : (k : Kind) (s : ℕ) → RowBinds (shape k) s → declares k s ≡ true
binds_declares k s h = grind arith

declares_binds : (k : Kind) (s : ℕ) → declares k s ≡ true → RowBinds (shape k) s
declares_binds k s h = grind arith

binds_local : (gs : List SignalKind) (k : Kind) (s : ℕ) → misuses gs k ≡ false
    → RowBinds (shape k) s → signal_at gs s ≡ Local
binds_local gs k s h b = grind arith

uses_out_of_scope : (gs : List SignalKind) (ks : List Kind) (i : ℕ) (k : Kind) (s : ℕ)
    → unscoped gs ks i k ≡ false → RowUses (shape k) s → is_out_of_scope gs ks i s ≡ false
uses_out_of_scope gs ks i k s h u = grind arith

binds_alone : (gs : List SignalKind) (ks : List Kind) (i : ℕ) (k : Kind) (s : ℕ)
    → unscoped gs ks i k ≡ false → RowBinds (shape k) s
    → list_any (λ j. declares (kind_at ks j) s) (range_with_len 0 i) ≡ false
binds_alone gs ks i k s h b = grind arith

use_in_scope : (b c : Bool) → (b && not c) ≡ false → b ≡ true → c ≡ true
use_in_scope b c h e = grind arith

turning_says : (ks : List Kind) (k : Kind) → endless ks k ≡ false → Turning ks (shape k)
turning_says ks k h = grind arith

module _ (gs : List SignalKind) (ks : List Kind) (C : Checked gs ks) where
  tests : Tested gs ks
  tests = tested gs ks C.passed

  pub rises : Rising ks
  rises = rising (length gs) ks C.formed

  not_below : (i j s : ℕ) → i < length ks → RowBinds (shape_at ks i) s → RowBinds (shape_at ks j) s
      → ¬ (j < i)
  not_below i j s l b c h =
      let a = binds_alone gs ks i (kind_at ks i) s (tests.scopes i l) b in
      both_ways _ (none_passes (λ j. declares (kind_at ks j) s) i a j h)
      (binds_declares (kind_at ks j) s c)

  scopes : Scopes ks gs
  scopes =
      record {
        inner_only = λ i s l b. binds_local gs (kind_at ks i) s (tests.uses i l) b;
        alone = λ i j s l m b c. let x = not_below i j s l b c in let y = not_below j i s m c b in
            omega arith;
        within = λ i s l u x.
            let a = uses_out_of_scope gs ks i (kind_at ks i) s (tests.scopes i l) u in
            let d = use_in_scope (is_local (signal_at gs s)) (in_scope ks s i) a (ap is_local x) in
            let f = some_passes (encloses ks s i) (length ks) d in
            let g = and_parts _ _ f.2 in (
              f.0,
              f.1,
              declares_binds (kind_at ks f.0) s g.0,
              in_under ks rises f.0 f.1 i
                  (contains_in (tree_at ks f.0) i (inside_contains (tree_at ks f.0) i g.1)),
            );
      }

  -- a checked routine passes the tests
  pub table : Table ks gs
  table =
      record {
        some_row = C.some;
        shaped = rises;
        once = once gs ks C.passed;
        scopes = scopes;
        turning = λ i l. turning_says ks (kind_at ks i) (tests.loops i l);
      }

-- every routine is checked
pub of_routine : (r : Routine) → Checked (table_signals r.table) (table_kinds r.table)
of_routine r =
    record {
      formed = subst (λ (g : ℕ).
          Formed g (table_kinds r.table)) r.table.signals.ok.0 r.table.formed;
      some = some_statement r;
      passed = r.passed;
    }
