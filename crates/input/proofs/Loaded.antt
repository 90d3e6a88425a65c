-- what a program learns of its input from an answer of `load`
use Rattle.std.proofs.Common.{◌≡◌, ℕ, List, Ok, Err, subst}
use Rattle.routine.specs.declared.kinds.SignalKind.{SignalKind}
use Rattle.routine.specs.declared.kinds.Statement.{Statement}
use Rattle.routine.specs.declared.refusals.Refusal.{Refusal}
use Rattle.routine.specs.declared.refusals.Refusal.TheVariants.{Memory}
use Rattle.routine.specs.Refusals.{AnswersOrMemory}
use Rattle.routine.specs.View.{load_of, routine_content}
use Rattle.routine.proofs.Answered.{HasNumber, load_numbered, refusal_said, something_said}
use Rattle.input.specs.Input.{table_part}

module _ (bytes table : List ℕ) (e : Refusal) (is : table ≡ table_part bytes)
    (says : AnswersOrMemory (load_of table) routine_content (Err e)) where
  -- want of memory: the table is a routine
  pub loadable : e ≡ Memory → (p : List SignalKind × List Statement)
      × (load_of (table_part bytes) ≡ Ok p)
  loadable m =
      subst (λ t. (p : List SignalKind × List Statement) × (load_of t ≡ Ok p)) is
      (something_said (load_of table) routine_content e m (load_numbered table) says)

  -- a refusal of the table
  pub refused : HasNumber e → load_of (table_part bytes) ≡ Err e
  refused n =
      subst (λ t. load_of t ≡ Err e) is (refusal_said (load_of table) routine_content e n says)
