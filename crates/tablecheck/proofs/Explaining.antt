-- what is said of a table stays so where it is kept to be explained
use Rattle.std.proofs.Common.{◌≡◌, ℕ, List, Ok, Err, Result, ap, ◌∙◌}
use Rattle.std.proofs.lemmas.Bool.{false≢true}
use Rattle.std.specs.Result.{IsErr}
use Rattle.std.specs.declared.alloc.AllocError.{AllocError}
use Rattle.routine.specs.declared.refusals.Refusal.{Refusal}
use Rattle.routine.specs.Refusals.{SaysOrMemory}
use Rattle.input.specs.declared.printed.Printed.{Printed}
use Rattle.input.specs.Printed.{said}
use Rattle.tablecheck.specs.declared.explained.Explained.{Explained}
use Rattle.tablecheck.specs.Explained.{in_print, explained_text}

-- of what is printed
pub kept_said : (r : Result (List ℕ) Refusal) (p : Printed) (e : Explained) → e.0 ≡ p
    → SaysOrMemory {E = AllocError} r said (Ok p)
    → SaysOrMemory {B = Explained} {E = AllocError} r (λ e. said e.0) (Ok e)
kept_said (Ok x) p e q h = ap said q ∙ h
kept_said (Err x) p e q h = ap said q ∙ h

-- and where there is an error
pub kept_error : (r : Result (List ℕ) Refusal) (a : AllocError) (made : Result Explained AllocError)
    → SaysOrMemory {B = Printed} r said (Err a) → IsErr made
    → SaysOrMemory r (λ e. said e.0) made
kept_error (Ok x) a (Ok e) h none = absurd (false≢true none)
kept_error (Ok x) a (Err b) h is = h
kept_error (Err e) a made h is = absurd h

-- so the text is that of what is said of the table
pub kept_text : (r : Result (List ℕ) Refusal) (p : Printed) (e : Explained) → e.0 ≡ p
    → SaysOrMemory {E = AllocError} r said (Ok p) → explained_text e ≡ in_print r
kept_text (Ok x) p e q h = ap in_print (ap said q ∙ h)
kept_text (Err x) p e q h = ap in_print (ap said q ∙ h)
