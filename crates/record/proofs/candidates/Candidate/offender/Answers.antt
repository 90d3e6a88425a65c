use Rattle.std.proofs.Common.{◌≡◌, ℕ, true, false, length, sym, rules}
use Rattle.std.proofs.lemmas.Iterator.{first_from_Range}
use borrow.Author.Tests.{tests}
use Rattle.routine.specs.View.{table_kinds}
use Rattle.routine.proofs.Searches.{finds, lowest_by}
use Rattle.record.specs.Taking.{breaks}
use Rattle.record.proofs.candidates.Candidate.offender.Goals as goal

pub returns : goal.returns
returns c =
    let ks = table_kinds c.args.self.now.routine.now.table in
    let P = breaks ks c.args.phase c.args.self.now.marks.now in
    lowest_by P
    (finds (λ i b. P i ≡ b) _ (length ks) c.find.result c.count.ensures.value
    (first_from_Range _ _ _ c.find.result (λ (i : ℕ). P i ≡ true)
    (λ (i : ℕ). P i ≡ false) c.find.ensures.ran (λ x q k. search (rules, tests))
    (λ x q k. search (rules, tests))))
    (λ i b l e. sym e)
