use Rattle.std.proofs.Common.{ℕ, false, get_or, refl, sym, ◌∙◌, rules}
use Rattle.std.proofs.lemmas.List.FromFn.{fill_by_all}
use Rattle.signals.specs.declared.board.TheConstants.{SIGNALS}
use Rattle.record.proofs.Arrays.{made}
use Rattle.count.proofs.words.snapshot.Goals as goal

pub returns : goal.returns
returns g c =
    let b = g.B.Board.present c.args.board.now in
    made _ _ (λ (i : ℕ). get_or b i false)
    (λ i y q e. search rules) _ false SIGNALS c.from_fn.ensures.items
    ∙ sym (fill_by_all (λ (i : ℕ). get_or b i false) b SIGNALS false
    (g.met.B.Board.size c.args.board.now) (λ k l. refl))
