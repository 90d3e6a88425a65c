use Rattle.std.proofs.Common.{ℕ, ◌+◌, slice_index, refl, sym, ◌∙◌, rules}
use Rattle.std.proofs.lemmas.List.FromFn.{length-map-range_with_len, get_or-map-range_with_len}
use Rattle.std.proofs.lemmas.List.FromFn.{fill_by_all}
use Rattle.record.specs.Taking.{part}
use Rattle.record.proofs.Arrays.{made}
use Rattle.record.proofs.reading.part.Goals as goal

pub returns : goal.returns
returns g c =
    let bytes = c.args.bytes.now in
    let p = c.args.place in
    let n = g.row.N in
    let h = λ (i : ℕ). slice_index bytes (p + i) in
    made _ _ h (λ i y q e. search rules) _ 0 n c.from_fn.ensures.items
    ∙ sym (fill_by_all h (part bytes n p) n 0 (length-map-range_with_len (slice_index bytes) p n)
    (λ k l. get_or-map-range_with_len (slice_index bytes) p n k (p + k) 0 l refl))
