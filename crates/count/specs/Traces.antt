-- what a tracer was told
use Rattle.std.specs.Prelude.{◌≡◌, ℕ, ◌+◌, ◌-◌, ◌≤◌, Bool, false, List, ◌++◌, length}
use Rattle.count.specs.declared.tracers.StepRow.{StepRow}
use Rattle.count.specs.declared.tracers.TheConstants.{MOST_STEPS}

-- the statements, in their order; whether some are missing, as where there is no room for more; for
-- how many more there is room for certain
pub record Trace : Type 0 where
  pub steps : List ℕ
  pub lost : Bool
  pub room : ℕ

-- where none is missing now, none was before, and w was told since; and what there is room for is
-- not lost
pub record Extends (old new : Trace) (w : List ℕ) : Type 0 where
  pub kept : new.lost ≡ false → old.lost ≡ false
  pub told : new.lost ≡ false → new.steps ≡ old.steps ++ w
  pub fits : old.lost ≡ false → length w ≤ old.room
      → (new.lost ≡ false) × (new.room + length w ≡ old.room)

-- what a row was told: it has a place for each step of an instant
abbrev pub row_trace : StepRow → Trace
row_trace r = record {
  steps = r.steps.items;
  lost = r.lost;
  room = MOST_STEPS - length r.steps.items;
}
