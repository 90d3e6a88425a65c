-- what a count is at: it has the board's set, and not the board
use Rattle.std.specs.Prelude.{ℕ, List}
use Rattle.rules.specs.Rules.{Mark, Signals}
use Rattle.record.specs.declared.phases.Phase.{Phase}

pub record State : Type 0 where
  pub phase : Phase
  -- how many instants are closed
  pub closed : ℕ
  -- the steps of the open instant
  pub steps : ℕ
  -- a mark for each statement
  pub marks : List Mark
  -- the present signals
  pub present : Signals
