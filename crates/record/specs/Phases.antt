-- where a count stands
use Rattle.std.specs.Prelude.{Bool, true, false}
use Rattle.rules.specs.declared.status.Status.{Status}
use Rattle.rules.specs.declared.status.Status.TheVariants.{Suspended, Terminated}
use Rattle.record.specs.declared.phases.Phase.{Phase}
use Rattle.record.specs.declared.phases.Phase.TheVariants.{Resting, Open, Over}

abbrev pub is_open : Phase → Bool
is_open Resting = false
is_open Open = true
is_open Over = false

abbrev pub is_over : Phase → Bool
is_over Resting = false
is_over Open = false
is_over Over = true

-- where a closed instant of that status leaves a count
abbrev pub phase_of : Status → Phase
phase_of Suspended = Resting
phase_of Terminated = Over
