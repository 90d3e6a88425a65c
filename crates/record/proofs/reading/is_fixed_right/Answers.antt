use Rattle.std.proofs.Common.{length, ap, not, refl, rules}
use Rattle.std.proofs.lemmas.Iterator.{YieldsList-from_range}
use Rattle.std.proofs.lemmas.Iterator.Search.{any_from_yields_List}
use borrow.Author.Tests.{tests}
use Rattle.routine.specs.View.{table_kinds}
use Rattle.record.specs.declared.layout.TheConstants.{RECORD_BYTES}
use Rattle.record.specs.Taking.{is_wrong, is_fixed_right}
use Rattle.record.proofs.reading.is_fixed_right.Goals as goal

pub returns : goal.returns
unfolding is_fixed_right
returns c =
    let P = is_wrong (length (table_kinds c.args.routine.now.table)) c.args.bytes.now in
    ap not
    (any_from_yields_List P _ _ _ c.any.ensures.ran
    (YieldsList-from_range 0 RECORD_BYTES RECORD_BYTES refl refl)
    (λ x b q k. (search (rules, tests), search (rules, tests))))
