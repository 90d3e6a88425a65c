-- a table's rows, as a list of statements
use Rattle.std.proofs.Common.{◌≡◌, ℕ, ◌+◌, ◌≤◌, sum_by, take, take_all, zero, suc, refl, List}
use Rattle.std.proofs.Common.{length, get_or, sym, ap, ◌∙◌, arith}
use Rattle.std.proofs.lemmas.List.{get_or-map, length-map}
use Rattle.std.proofs.lemmas.List.Sums.{sum_by_more}
use Rattle.routine.specs.declared.kinds.Kind.{Kind}
use Rattle.routine.specs.declared.kinds.Kind.TheVariants.{Nothing}
use Rattle.routine.specs.declared.kinds.Statement.{Statement}
use Rattle.routine.specs.Kinds.{kinds, kind_at, shape, fresh}
use Rattle.routine.specs.Meaning.{names, named}

-- a statement has one kind
pub kinds_length : (ss : List Statement) (n : ℕ) → n ≡ length ss → length (kinds ss) ≡ n
kinds_length ss n e = length-map ss (λ (y : Statement). y.kind) ∙ sym e

-- how often a statement is named, summed over the rows
module _ (ss : List Statement) (a : ℕ) where
  abbrev by_row : Statement → ℕ
  by_row x = names (shape x.kind) a

  pub summed : (n : ℕ) → n ≤ length ss → sum_by by_row (take n ss) ≡ named (kinds ss) n a
  summed zero l = refl
  summed (suc n) l =
      let e : suc n ≡ n + 1 = omega arith in
      let k : kind_at (kinds ss) n ≡ (get_or ss n (fresh Nothing)).kind =
      get_or-map (λ (y : Statement). y.kind) ss n (fresh Nothing) Nothing l in
      let h = summed n (omega arith) in
      let f = ap (λ (x : Kind). names (shape x) a) k in
      rw e (sum_by_more by_row ss n (fresh Nothing) l ∙ omega (arith, f, h))

  -- the sum over all rows is how often the statement is named
  pub named_sum : sum_by by_row ss ≡ named (kinds ss) (length (kinds ss)) a
  named_sum =
      sym (ap (sum_by by_row) (take_all (length ss) ss (omega arith)))
      ∙ summed (length ss) (omega arith)
      ∙ ap (λ (n : ℕ). named (kinds ss) n a) (sym (length-map ss (λ (y : Statement). y.kind)))
