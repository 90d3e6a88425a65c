-- how a status is written
use Rattle.std.specs.Prelude.{ℕ, List, codes}
use Rattle.rules.specs.declared.status.Status.{Status}
use Rattle.rules.specs.declared.status.Status.TheVariants.{Suspended, Terminated}

abbrev pub letter_of : Status → List ℕ
letter_of Suspended = codes "S"
letter_of Terminated = codes "T"
