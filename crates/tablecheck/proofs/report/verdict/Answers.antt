use Rattle.std.proofs.Common.{refl, rules}
use Rattle.routine.specs.View.{load_of, routine_content}
use Rattle.routine.proofs.Answered.{load_numbered, value_said, refusal_said, something_said}
use Rattle.tablecheck.proofs.report.verdict.Goals as goal

pub returns-in-Err-Memory : goal.returns-in-Err-Memory
returns-in-Err-Memory c =
    let bytes = c.args.bytes.now in
    let p = something_said (load_of bytes) routine_content _ c.in-Err-Memory.field-0-is
    (load_numbered bytes) c.in-Err-Memory.ensures in
    rw p.1 tt

pub returns-in-Err : goal.returns-in-Err
returns-in-Err c =
    let e = refusal_said (load_of c.args.bytes.now) routine_content c.in-Err.refusal
    (search rules) c.in-Err.ensures in
    rw e refl

pub returns : goal.returns
returns c =
    let e = value_said (load_of c.args.bytes.now) routine_content c.in-Ok.routine c.in-Ok.ensures in
    rw (
      e,
      c.in_ok-write_outline.ensures,
      c.in_ok-writeln.ensures.bytes,
      c.new-text.ensures.bytes,
      c.of.ensures,
    ) refl
