-- what is written of an instant of a worked routine
use Rattle.std.specs.Prelude.{ℕ, List, ◌++◌, codes, decimal}
use Rattle.rules.specs.Texts.{instant_text}
use Rattle.worked.specs.declared.worked.Summary.{Summary}

-- the number of the routine, and then the instant
abbrev pub summary_text : Summary → List ℕ
summary_text s = decimal s.routine
    ++ (codes " " ++ instant_text s.instant s.outputs s.status s.steps)
