use Rattle.record.proofs.Lists.{few_kinds}
use Rattle.count.specs.Calls.{begin_state}
use Rattle.count.specs.CountView.{kinds_of, signals_of, state_of}
use Rattle.count.specs.Traces.{row_trace}
use Rattle.std.proofs.Common.{◌∙◌}
use Rattle.relay.proofs.Reacting.{all_heard, react_tells}
use Rattle.relay.proofs.carry_out.react.Goals as goal

pub returns-in-Ok : goal.returns-in-Ok
returns-in-Ok g c =
    let s = c.args.count.now in
    let a = state_of g.B.Board.present s in
    let b = state_of g.B.Board.present c.react_traced.new.self in
    let e = c.in-Ok.ensures in
    let r = e.reacts in
    let heard = all_heard (kinds_of s) (few_kinds s.rows.routine.table)
    (begin_state a c.args.word) _ (row_trace c.react_traced.new.tracer) c.new-row.ensures e.told in
    record {
      tells = react_tells (signals_of s) (kinds_of s) a c.args.word c.in-Ok.closing _ _ b _ _
          r.says r.leaves c.rows.ensures.marks (c.steps.ensures ∙ heard) c.hear.ensures;
      leaves = r.leaves;
      routine = record { kinds = r.kinds; signals = r.signals };
    }
