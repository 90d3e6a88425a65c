use Rattle.std.proofs.Common.{map, sym, ◌∙◌}
use Rattle.routine.specs.View.{table_kinds, table_signals}
use Rattle.relay.specs.Asked.{asked}
use Rattle.handover.proofs.Verdicts.{observation_of, is_transcript, same_instants_of}
use Rattle.handover.proofs.story.transcribe_twice.Goals as goal

abbrev first : goal.returns-clause-first
first g c =
    let t = c.args.routine.table in
    let e = c.in_ok-first.ensures in
    is_transcript (table_signals t) (table_kinds t) g.A.Board.present g.B.Board.present
    (map asked c.args.plan.before.now) (map asked c.args.plan.later.now) _ _ _ _ _
    c.relay_twice-relayed.ensures.one e.one e.other c.new-k.ensures c.new-l.ensures _
    c.count-statements.ensures.value c.in_ok-first.first e.writes

abbrev second : goal.returns-clause-second
second g c =
    let t = c.args.routine.table in
    let e = c.in_ok-second.ensures in
    is_transcript (table_signals t) (table_kinds t) g.C.Board.present g.D.Board.present
    (map asked c.args.again.before.now) (map asked c.args.again.later.now) _ _ _ _ _
    c.relay_twice-relayed.ensures.other e.one e.other c.new-m.ensures c.new-n.ensures _
    c.count-statements.ensures.value c.in_ok-second.second e.writes

pub returns-clause-first : goal.returns-clause-first
returns-clause-first g c = first g c

pub returns-clause-second : goal.returns-clause-second
returns-clause-second g c = second g c

pub returns-clause-same : goal.returns-clause-same
returns-clause-same g c =
    let gs = table_signals c.args.routine.table in
    let ks = table_kinds c.args.routine.table in
    let cs = map asked c.args.plan.before.now in
    let ds = map asked c.args.plan.later.now in
    let es = map asked c.args.again.before.now in
    let fs = map asked c.args.again.later.now in
    let r = c.relay_twice-relayed.ensures in
    let e = c.in_ok-first.ensures in
    let f = c.in_ok-second.ensures in
    λ s. (first g c).instants
    ∙ same_instants_of gs ks cs ds es fs _ _ _ _ _ _ _ _ r.law
    (observation_of gs ks g.A.Board.present g.B.Board.present cs ds _ _ _ _ _
    r.one e.one e.other s.untaken)
    (observation_of gs ks g.C.Board.present g.D.Board.present es fs _ _ _ _ _
    r.other f.one f.other s.untaken_again) s
    ∙ sym (second g c).instants
