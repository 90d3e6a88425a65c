use Rattle.std.proofs.Common.{refl, rules}
use Rattle.input.proofs.Loaded.{loadable, refused}
use Rattle.handover.proofs.story.story.Goals as goal

pub returns-in-Err-Memory-clause-says : goal.returns-in-Err-Memory-clause-says
returns-in-Err-Memory-clause-says c =
    let a = c.in-Err-Memory in
    rw (loadable c.args.bytes.now _ _ c.cut.ensures.table a.ensures a.field-0-is).1 tt

pub returns-in-Err : goal.returns-in-Err
returns-in-Err c =
    let a = c.in-Err in
    rw (refused c.args.bytes.now _ a.refusal c.cut.ensures.table a.ensures (search rules))
    (record { says = refl; same = tt })
