use Rattle.std.proofs.Common.{sym, ◌∙◌, arith}
use Rattle.routine.proofs.Whole.{each_once, all_statements, any_fuel}
use Rattle.routine.proofs.checked.Routine.count.Goals as goal

pub returns : goal.returns
returns c =
    let r = c.args.self.now in
    let e = c.count.ensures.listed in
    record {
      value = e;
      rows = c.count.ensures.rows;
      once = each_once r _ e;
      whole = all_statements r ∙ sym e;
      fuel = λ deep l. any_fuel r deep (omega arith);
    }
