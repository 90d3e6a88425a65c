use Rattle.std.proofs.Common.{true, false, rules, tests}
use Rattle.std.proofs.lemmas.Iterator.{first_from_Range}
use Rattle.routine.proofs.Searches.{finds}
use Rattle.routine.proofs.rows.Rows.offender.Goals as goal

pub returns : goal.returns
returns g c =
    finds (goal.F-post g c.args.fails) c.count.result _ c.find.result c.count.ensures.listed
    (first_from_Range _ _ _ _ (λ i. goal.F-post g c.args.fails i true)
    (λ i. goal.F-post g c.args.fails i false) c.find.ensures.ran
    (λ x q k. search (rules, tests)) (λ x q k. (search (rules, tests), search (rules, tests))))
