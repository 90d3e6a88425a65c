use Rattle.std.proofs.Common.{◌≡◌, ℕ, true, false, sym, ◌∙◌, rules}
use Rattle.std.proofs.lemmas.Iterator.{first_from_Range}
use borrow.Author.Tests.{tests}
use Rattle.rules.specs.Rules.{rule}
use Rattle.count.specs.View.{marks_in, tree_in}
use Rattle.count.specs.CountView.{kinds_of, signals_of}
use Rattle.count.proofs.Sound.{checked}
use Rattle.count.proofs.Front.{guard_lowest, from_lowest}
use Rattle.count.proofs.counts.Count.ready_from.Goals as goal

pub returns-then-guard_applies : goal.returns-then-guard_applies
returns-then-guard_applies g c =
    let s = c.args.self.now in
    let f = c.args.front in
    guard_lowest (signals_of s) (kinds_of s) (checked s.rows) (marks_in s.rows)
    (g.B.Board.present s.board) f.from f.guard c.requires
    (sym c.guard_applies.ensures ∙ c.if-guard_applies.true)

pub returns : goal.returns
returns g c =
    let s = c.args.self.now in
    let f = c.args.front in
    let e = g.B.Board.present s.board in
    let P = λ (i : ℕ). rule (tree_in s.rows i) (marks_in s.rows) e in
    from_lowest (signals_of s) (kinds_of s) (checked s.rows)
    (marks_in s.rows) e f.from f.guard c.requires
    (sym c.guard_applies.ensures ∙ c.if-guard_applies.false)
    c.statements.result c.statements.ensures c.find.result
    (first_from_Range _ _ _ c.find.result (λ (i : ℕ). P i ≡ true)
    (λ (i : ℕ). P i ≡ false) c.find.ensures.ran (λ x q k. search (rules, tests))
    (λ x q k. search (rules, tests)))
