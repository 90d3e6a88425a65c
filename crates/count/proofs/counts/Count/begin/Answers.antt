use Rattle.std.proofs.Common.{subst, sym, length}
use Rattle.count.specs.CountView.{signals_of}
use Rattle.record.specs.Sound.{Within}
use Rattle.count.proofs.Presence.{within_word}
use Rattle.count.proofs.counts.Count.begin.Goals as goal

pub invariant_of-self-clause-within : goal.invariant_of-self-clause-within
invariant_of-self-clause-within g c =
    let gs = signals_of c.args.self.now in
    subst (Within (length gs)) (sym c.show.ensures)
    (within_word gs c.args.word c.in_ok-may_begin.ensures.inputs)
