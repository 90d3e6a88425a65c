use Rattle.std.proofs.Common.{◌≡◌, ◌≤◌, length, take, rules, tests, arith, sum_by, ◌∙◌}
use Rattle.std.proofs.lemmas.Iterator.{YieldsList-from_slice}
use Rattle.std.proofs.lemmas.Iterator.Adapters.{fits_from_length, at_most_from_yields_List}
use Rattle.routine.specs.declared.kinds.Statement.{Statement}
use Rattle.routine.specs.declared.tables.TheConstants.{MOST_STATEMENTS}
use Rattle.routine.specs.Kinds.{kinds, shape}
use Rattle.routine.specs.Meaning.{names}
use Rattle.routine.proofs.Trees.{rising}
use Rattle.routine.proofs.Naming.{named_sum_below}
use Rattle.routine.proofs.rows.Rows.named.Goals as goal

pub sum-requires-clause-fits : goal.sum-requires-clause-fits
sum-requires-clause-fits c =
    let few : length c.split_at.result.0.now ≤ MOST_STATEMENTS =
    omega (arith, c.split_at.ensures.front_len, c.count.ensures.rows, c.args.self.now.most) in
    fits_from_length _ _ MOST_STATEMENTS _
    (at_most_from_yields_List (YieldsList-from_slice c.split_at.result.0.now cc) few)
    c.map.ensures.closure (omega arith) (λ x r q k. search (rules, tests))

pub returns : goal.returns
returns c =
    let t = c.args.self.now in
    let ss = t.statements.now in
    let e : c.sum.result
    ≡ sum_by (λ (x : Statement). names (shape x.kind) c.args.a) (take c.min.result ss) =
    search rules in
    e ∙ named_sum_below ss c.args.a c.min.result
    (rising (length t.signals.now) (kinds ss) t.formed) (search (rules, arith))
