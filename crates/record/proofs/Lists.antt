-- how many statements and marks a table has, and the marks of a record
use Rattle.std.proofs.Common.{◌≡◌, ℕ, ◌+◌, ◌≤◌, List, length, map, take, slice_index, vec_items}
use Rattle.std.proofs.Common.{vec_len, sym, ap, ◌∙◌, arith}
use Rattle.std.proofs.lemmas.List.{length-map, take-map}
use Rattle.std.proofs.lemmas.List.FromFn.{take-map-range_with_len}
use Rattle.routine.specs.declared.kinds.Statement.{Statement}
use Rattle.routine.specs.declared.tables.Table.{Table}
use Rattle.routine.specs.declared.tables.TheConstants.{MOST_STATEMENTS}
use Rattle.routine.specs.Kinds.{marks}
use Rattle.routine.specs.View.{table_kinds}
use Rattle.record.specs.declared.layout.TheConstants.{MARKS_START}
use Rattle.record.specs.Taking.{mark_in, marks_read, counted, marks_in}
use Rattle.routine.proofs.Lists.{kinds_length}

-- as many marks as statements
pub marks_length : (ss : List Statement) (n : ℕ) → n ≡ length ss → length (marks ss) ≡ n
marks_length ss n e = length-map ss (λ (r : Statement). r.mark) ∙ sym e

module _ (t : Table) where
  -- as many kinds as statements
  pub kinds_many : length (table_kinds t) ≡ vec_len t.statements
  kinds_many = kinds_length (vec_items t.statements) (vec_len t.statements) t.statements.ok.0

  -- as many marks as kinds
  pub marks_many : length (marks (vec_items t.statements)) ≡ length (table_kinds t)
  marks_many = marks_length (vec_items t.statements) (vec_len t.statements) t.statements.ok.0
      ∙ sym kinds_many

  -- not above the most
  pub few_kinds : length (table_kinds t) ≤ MOST_STATEMENTS
  few_kinds = let m = kinds_many in let l = t.most in omega arith

-- the first n bytes that are read as marks
pub read_cut : (n : ℕ) (bytes : List ℕ) → n ≤ MOST_STATEMENTS
    → take n (marks_read MOST_STATEMENTS bytes) ≡ marks_read n bytes
unfolding marks_read
read_cut n bytes l = take-map-range_with_len
    (λ i. mark_in (slice_index bytes (MARKS_START + i))) 0 MOST_STATEMENTS n l

-- the same of what they are to the rules of other statements
pub marks_cut : (n : ℕ) (bytes : List ℕ) → n ≤ MOST_STATEMENTS
    → take n (marks_in MOST_STATEMENTS bytes) ≡ marks_in n bytes
marks_cut n bytes l = take-map counted n (marks_read MOST_STATEMENTS bytes)
    ∙ ap (map counted) (read_cut n bytes l)
