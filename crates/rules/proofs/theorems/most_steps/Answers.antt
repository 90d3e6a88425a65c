use Rattle.std.proofs.Common.{ℕ, ◌*◌, ap}
use Rattle.routine.specs.View.{table_signals, table_kinds}
use Rattle.rules.proofs.TestsPassed.{of_routine}
use Rattle.rules.proofs.InstantEnds.{instant_ends}
use Rattle.rules.proofs.StepsAddUp.{steps_add_up}
use Rattle.rules.proofs.theorems.most_steps.Goals as goal

pub returns : goal.returns
returns c =
    let r = c.args.routine.now in
    record {
      value = ap (λ (n : ℕ). 4 * n) c.count.ensures.value;
      sums = steps_add_up (table_signals r.table) (table_kinds r.table) (of_routine r);
      ends = instant_ends (table_signals r.table) (table_kinds r.table) (of_routine r);
    }
