use Rattle.std.proofs.Common.{refl, rules}
use Rattle.input.proofs.Loaded.{loadable, refused}
use Rattle.run.proofs.listing.listing.Goals as goal

pub returns-in-Err-Memory : goal.returns-in-Err-Memory
returns-in-Err-Memory c =
    let a = c.in-Err-Memory in
    rw (loadable c.args.bytes.now _ _ c.cut.ensures.table a.ensures a.field-0-is).1 tt

pub returns-in-Err : goal.returns-in-Err
returns-in-Err c =
    let a = c.in-Err in
    rw (refused c.args.bytes.now _ a.refusal c.cut.ensures.table a.ensures (search rules)) refl
