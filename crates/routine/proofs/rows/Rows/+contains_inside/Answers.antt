use Rattle.std.proofs.Common.{arith}
use Rattle.routine.specs.Lent.{lent_kinds}
use Rattle.routine.proofs.Levels.{contains_either}
use Rattle.routine.proofs.rows.Rows.+contains_inside.Goals as goal

pub contains-returns-then-k-i : goal.contains-returns-then-k-i
contains-returns-then-k-i t c =
    grind (arith, contains_either (lent_kinds c.args.self.now) c.args.i c.args.k, c.if-k-i.true)

pub contains-returns-else-k-i : goal.contains-returns-else-k-i
contains-returns-else-k-i t c =
    grind (
      arith,
      contains_either (lent_kinds c.args.self.now) c.args.i c.args.k,
      c.if-k-i.false,
      c.inside.ensures,
    )
