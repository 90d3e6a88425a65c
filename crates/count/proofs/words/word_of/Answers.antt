use Rattle.std.proofs.Common.{◌≡◌, ◌-◌, rules, arith, get_or, sym, ap, ◌∙◌}
use Rattle.std.proofs.lemmas.Option.{same_Some}
use Rattle.std.proofs.iter.runs.Sources.{range_runs_back}
use Rattle.count.proofs.OutputWords.{with_bit, word_made}
use Rattle.count.proofs.words.word_of.Goals as goal

-- the fold runs over the numbers from the highest down
pub returns : goal.returns
returns g c P says =
    let n = c.args.n in
    let f = c.fold.ensures.runs in
    let r = c.rev.ensures.runs f.0 f.0.seen f.1 in
    let d = range_runs_back r.0 r.0.seen in
    let top : r.0.from.end ≡ n = ap (λ x. x.end) r.1 in
    let low : r.0.from.start ≡ 0 = ap (λ x. x.start) r.1 in
    let long : r.0.len ≡ n = omega (arith, d.1 (r.2.1 ∙ f.2), top, low) in
    f.3 (with_bit P) (λ x y q h k. search (rules, says))
    ∙ word_made P n f.0.items c.requires.few (omega (arith, f.0.long, r.2.0.0, long))
    (λ k l. ap (λ xs. get_or xs k 0) (sym r.2.0.1)
    ∙ same_Some _ _ (sym (r.0.reads k 0 (omega arith)) ∙ d.3 k (omega arith))
    ∙ ap (λ m. m - 1 - k) top)
