use Rattle.tablecheck.specs.Report.{report_of}
use Rattle.tablecheck.proofs.Explaining.{kept_said, kept_error, kept_text}
use Rattle.tablecheck.proofs.report.report.Goals as goal

pub returns-in_err-verdict-clause-says : goal.returns-in_err-verdict-clause-says
returns-in_err-verdict-clause-says c =
    kept_error (report_of c.args.bytes.now) c.in_err-verdict.field-0.0 c.from_residual.result
    c.in_err-verdict.ensures c.from_residual.ensures.0

pub returns-clause-says : goal.returns-clause-says
returns-clause-says c =
    kept_said (report_of c.args.bytes.now) c.in_ok-verdict.field-0 c.new.result c.new.ensures
    c.in_ok-verdict.ensures

pub returns-clause-prints : goal.returns-clause-prints
returns-clause-prints c =
    kept_text (report_of c.args.bytes.now) c.in_ok-verdict.field-0 c.new.result c.new.ensures
    c.in_ok-verdict.ensures
