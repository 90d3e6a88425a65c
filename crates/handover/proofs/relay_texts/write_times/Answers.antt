use Rattle.std.proofs.Common.{arith, count_by, ◌==◌, zero-add}
use Rattle.std.proofs.lemmas.Grind.{common_steps}
use Rattle.std.proofs.lemmas.List.FromFn.{map-range_with_len_more}
use Rattle.handover.proofs.relay_texts.write_times.Goals as goal

pub loop-statement-preserved : goal.loop-statement-preserved
loop-statement-preserved c =
    let n = c.loop-statement.statement in
    let v = c.args.stepped.now in
    rw (map-range_with_len_more (λ i. count_by (λ k. k == i) v) 0 n n (zero-add n))
    (grind (arith, common_steps))
