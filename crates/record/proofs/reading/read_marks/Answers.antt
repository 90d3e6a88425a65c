use Rattle.std.proofs.Common.{ℕ, ◌+◌, Some, slice_index, rules}
use Rattle.routine.specs.declared.tables.TheConstants.{MOST_STATEMENTS}
use Rattle.rules.specs.Rules.{Idle}
use Rattle.record.specs.declared.layout.TheConstants.{MARKS_START}
use Rattle.record.specs.Taking.{mark_in, marks_read}
use Rattle.record.proofs.Arrays.{made}
use Rattle.record.proofs.reading.read_marks.Goals as goal

pub returns : goal.returns
unfolding marks_read
returns c = made _ _ (λ (i : ℕ). mark_in (slice_index c.args.bytes.now (MARKS_START + i)))
    (λ i y q e. search rules) _ (Some Idle) MOST_STATEMENTS c.from_fn.ensures.items
