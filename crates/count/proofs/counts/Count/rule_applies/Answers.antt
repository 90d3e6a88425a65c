use Rattle.count.proofs.Sound.{rule_told}
use Rattle.count.proofs.counts.Count.rule_applies.Goals as goal

pub returns : goal.returns
returns g c =
    rule_told c.args.self.now.rows _ c.args.i _ _ c.own_signal_present.ensures c.applies.ensures
