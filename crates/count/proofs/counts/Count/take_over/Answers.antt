use Rattle.std.proofs.Common.{length, sym, ap, ◌∙◌}
use Rattle.record.specs.Answers.{answer}
use Rattle.record.specs.Taking.{state_in}
use Rattle.record.proofs.Accepted.{long}
use Rattle.count.specs.Calls.{after}
use Rattle.count.specs.CountView.{kinds_of, signals_of, state_of}
use Rattle.count.proofs.TakenOver.{accepted, taken, again, sound}
use Rattle.count.proofs.counts.Count.take_over.Goals as goal

pub invariant_of-self : goal.invariant_of-self
invariant_of-self g c =
    let s = sound c.args.self.now.rows c.put_all.new.self c.args.record.now
    (λ i. (c.type_inv.record i).fits) c.in_ok-head.field-0 _ c.in_ok-head.ensures
    c.put_all.ensures c.show.ensures in
    record {
      legal = s.legal.each;
      finished = s.finished;
      no_signals = s.no_signals;
      within = s.within;
      no_steps = s.no_steps;
      room = s.room;
    }

pub returns-clause-exact : goal.returns-clause-exact
returns-clause-exact g c =
    let t = c.args.self.now.rows in
    let bytes = c.args.record.now in
    let a = accepted t c.put_all.new.self bytes (λ i. (c.type_inv.record i).fits)
    c.in_ok-head.field-0 _ c.in_ok-head.ensures c.put_all.ensures c.show.ensures in
    record {
      says = sym (ap (λ o. answer o tt) a);
      leaves = taken t c.put_all.new.self bytes (λ i. (c.type_inv.record i).fits)
          c.in_ok-head.field-0 _ c.in_ok-head.ensures c.put_all.ensures c.show.ensures
          ∙ sym (ap (λ o. after o (state_of g.B.Board.present c.args.self.now)
          (state_in (length (kinds_of c.args.self.now)) bytes)) a);
      kinds = c.put_all.ensures.kinds;
      signals = c.put_all.ensures.signals;
      kept = tt;
    }

pub returns-clause-again : goal.returns-clause-again
returns-clause-again g c =
    again c.args.self.now.rows c.put_all.new.self c.args.record.now
    (λ i. (c.type_inv.record i).fits) c.in_ok-head.field-0 _ c.in_ok-head.ensures
    c.put_all.ensures c.show.ensures

pub returns-clause-sized : goal.returns-clause-sized
returns-clause-sized g c =
    long (signals_of c.args.self.now) (kinds_of c.args.self.now) c.args.record.now
    (accepted c.args.self.now.rows c.put_all.new.self c.args.record.now
    (λ i. (c.type_inv.record i).fits) c.in_ok-head.field-0 _ c.in_ok-head.ensures
    c.put_all.ensures c.show.ensures)
