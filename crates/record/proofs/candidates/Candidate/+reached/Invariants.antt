use Rattle.std.proofs.Common.{◌-◌, vec_len}
use Rattle.record.proofs.candidates.Candidate.+reached.Given as goal

abbrev pub decreases-reached : goal.decreases-reached
decreases-reached l = vec_len l.self.now.routine.now.table.statements - l.i
