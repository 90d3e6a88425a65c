use Rattle.std.proofs.Common.{arith}
use Rattle.std.proofs.lemmas.Result.{err_from_is_err_and}
use Rattle.routine.proofs.Reading.{bad_record, good, signals_many, statements_many, formed}
use Rattle.routine.proofs.reader.read_draft.Goals as goal

pub returns-in_err-statements : goal.returns-in_err-statements
returns-in_err-statements c =
    let h = c.in_ok-header.ensures in
    let cut = c.split_at.ensures in
    let passed_on = c.from_residual-in_err-statements in
    let r = err_from_is_err_and passed_on.result passed_on.ensures.1 in
    rw (r.1, r.2)
    (bad_record c.args.bytes.now _ _ _ _ h.0 h.1 h.2 cut.front cut.back _ c.in_ok-signals.ensures _
    c.in_err-statements.ensures)

pub invariant_of-result : goal.invariant_of-result
invariant_of-result c =
    let bytes = c.args.bytes.now in
    let h = c.in_ok-header.ensures in
    let cut = c.split_at.ensures in
    let s = c.in_ok-signals.ensures in
    let t = c.in_ok-statements.ensures in
    let a = signals_many bytes _ _ _ _ h.0 h.1 h.2 cut.front cut.back _ s _ t h.3 in
    let b = statements_many bytes _ _ _ _ h.0 h.1 h.2 cut.front cut.back _ s _ t h.3 in
    record {
      some = omega arith;
      formed = formed bytes _ _ _ _ h.0 h.1 h.2 cut.front cut.back _ s _ t h.3 _ a;
    }

pub returns : goal.returns
returns c =
    let h = c.in_ok-header.ensures in
    let cut = c.split_at.ensures in
    good c.args.bytes.now _ _ _ _ h.0 h.1 h.2 cut.front cut.back _ c.in_ok-signals.ensures _
    c.in_ok-statements.ensures
