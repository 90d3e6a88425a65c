use Rattle.std.proofs.Common.{◌≡◌, ℕ, true, false, length, sym, ◌∙◌, rules}
use Rattle.std.proofs.lemmas.Iterator.{first_from_Range}
use borrow.Author.Tests.{tests}
use Rattle.routine.proofs.Searches.{finds, lowest_by}
use Rattle.rules.specs.Rules.{rule}
use Rattle.count.specs.View.{marks_in, tree_in}
use Rattle.count.specs.CountView.{kinds_of}
use Rattle.count.proofs.Sound.{lowest_rule}
use Rattle.count.proofs.counts.Count.lowest_ready.Goals as goal

pub returns-clause-by_rule : goal.returns-clause-by_rule
returns-clause-by_rule g c =
    let s = c.args.self.now in
    let P = λ (i : ℕ). rule (tree_in s.rows i) (marks_in s.rows) (g.B.Board.present s.board) in
    lowest_by P
    (finds (λ i b. P i ≡ b) c.statements.result
    (length (kinds_of s)) c.find.result c.statements.ensures
    (first_from_Range _ _ _ c.find.result (λ (i : ℕ). P i ≡ true)
    (λ (i : ℕ). P i ≡ false) c.find.ensures.ran (λ x q k. search (rules, tests))
    (λ x q k. search (rules, tests))))
    (λ i b l h. sym h)

pub returns-clause-ready : goal.returns-clause-ready
returns-clause-ready g c =
    let s = c.args.self.now in
    returns-clause-by_rule g c ∙ lowest_rule s.rows (g.B.Board.present s.board)
