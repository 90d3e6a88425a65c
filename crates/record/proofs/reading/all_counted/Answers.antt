use Rattle.std.proofs.Common.{◌≡◌, Some, map, get_or, sym, ◌∙◌, ext_get_or, arith, rules}
use Rattle.std.proofs.lemmas.List.{length-map}
use lib.ListN.{get_or-map}
use Rattle.rules.specs.Rules.{Idle}
use Rattle.record.specs.Taking.{counted}
use Rattle.record.proofs.reading.all_counted.Goals as goal

pub returns : goal.returns
returns c =
    let ms = c.args.marks.now in
    let m = c.map.ensures.items in
    ext_get_or Idle c.map.result (map counted ms)
    (m.long ∙ sym (length-map ms counted ∙ c.told-marks))
    (λ i l. let called = (m.at i (Some Idle) Idle (omega (arith, m.long))).2 in
    let e : get_or c.map.result i Idle ≡ counted (get_or ms i (Some Idle)) = search rules in
    e ∙ sym (get_or-map counted ms i (Some Idle)))
