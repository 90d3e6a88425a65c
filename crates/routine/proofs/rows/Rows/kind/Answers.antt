use Rattle.std.proofs.Common.{◌≡◌, length, refl, arith}
use Rattle.std.proofs.lemmas.Option.{gets}
use Rattle.std.proofs.lemmas.List.{get_or-map}
use Rattle.std.proofs.lemmas.Grind.{common_steps}
use Rattle.routine.specs.Kinds.{kinds, kind_at}
use Rattle.routine.proofs.Lists.{kinds_length}
use Rattle.routine.proofs.Levels.{level}
use Rattle.routine.proofs.rows.Rows.kind.Goals as goal

pub returns : goal.returns
returns c =
    let t = c.args.self.now in
    let ss = t.statements.now in
    let e : c.map_or.result ≡ kind_at (kinds ss) c.args.i =
    grind (arith, common_steps, gets, get_or-map) in
    let a = level (length t.signals.now) (kinds ss) (length ss) c.args.i _ t.formed
    (kinds_length ss (length ss) refl) e in
    record { value = e; rise = a.0; level = a.1 }
