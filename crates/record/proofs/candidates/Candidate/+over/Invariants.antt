use Rattle.std.proofs.Common.{◌-◌, vec_len}
use Rattle.record.proofs.candidates.Candidate.+over.Given as goal

abbrev pub decreases-over : goal.decreases-over
decreases-over l = vec_len l.self.now.routine.now.table.statements - l.i
