-- searches below a bound
use Rattle.std.specs.Prelude.{ℕ, zero, suc, ◌<◌, Bool, true, false, cond, Some, None}
use Rattle.std.specs.Prelude.{IfNone, IfSome, Option}

-- what was found below n, or n itself if b says so
abbrev pub or_last : Option ℕ → Bool → ℕ → Option ℕ
or_last None b n = cond b (Some n) None
or_last (Some i) b n = Some i

-- the lowest number below n that P holds of
abbrev pub lowest : (ℕ → Bool) → ℕ → Option ℕ
lowest P zero = None
lowest P (suc n) = or_last (lowest P n) (P n) n

-- what a search below n found, by a test that `says` yes or no of each number: the lowest yes, or
-- no of all
pub record FindsLowest (says : ℕ → Bool → Type 0) (n : ℕ) (r : Option ℕ) : Type 0 where
  pub none : IfNone r ((k : ℕ) → k < n → says k false)
  pub some : IfSome r (λ i. (i < n) × says i true × ((k : ℕ) → k < i → says k false))
