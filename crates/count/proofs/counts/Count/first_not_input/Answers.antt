use Rattle.std.proofs.Common.{◌≡◌, ℕ, Bool, true, false, not, ◌&&◌, slice_index_or, refl, sym, ap}
use Rattle.std.proofs.Common.{◌∙◌, rules}
use Rattle.std.proofs.lemmas.Iterator.{first_from_Range}
use borrow.Author.Tests.{tests}
use Rattle.signals.specs.declared.board.TheConstants.{SIGNALS}
use Rattle.count.specs.CountView.{signals_of}
use Rattle.count.specs.Calls.{is_not_input, first_not_input}
use Rattle.routine.proofs.Searches.{finds, lowest_by}
use Rattle.routine.specs.declared.kinds.SignalKind.TheVariants.{Local}
use Rattle.routine.specs.Meaning.{is_input}
use Rattle.count.proofs.Shown.{no_bit, lowest_longer}
use Rattle.count.proofs.counts.Count.first_not_input.Goals as goal

pub returns : goal.returns
unfolding first_not_input
returns g c =
    let w = c.args.word in
    let gs = signals_of c.args.self.now in
    let P = is_not_input gs w in
    let n = c.width.result in
    lowest_by P
    (finds (λ s b. P s ≡ b) n n c.find.result refl
    (first_from_Range _ _ _ c.find.result (λ (s : ℕ). P s ≡ true)
    (λ (s : ℕ). P s ≡ false) c.find.ensures.ran (λ x q k. search (rules, tests))
    (λ x q k. search (rules, tests))))
    (λ s b l e. sym e)
    ∙ sym (lowest_longer P n SIGNALS c.width.ensures.short
    (λ k l. ap (λ (b : Bool). b && not (is_input (slice_index_or gs k Local)))
    (no_bit w n k c.width.ensures.within l)))
