use Rattle.std.proofs.Common.{Bool, List, ap, ap₂, ◌∙◌}
use Rattle.routine.specs.declared.checked.Routine.{Routine}
use Rattle.routine.specs.View.{table_kinds}
use Rattle.rules.specs.Model.{first_marks}
use Rattle.rules.specs.Rules.{Mark}
use Rattle.record.specs.declared.phases.Phase.TheVariants.{Resting}
use Rattle.record.specs.State.{State}
use Rattle.count.proofs.Sound.{new_keeps, begun_anew}
use Rattle.count.proofs.Presence.{within_empty}
use Rattle.count.proofs.counts.Count.new.Goals as goal

abbrev start : List Mark → List Bool → State
start ms e = record { phase = Resting; closed = 0; steps = 0; marks = ms; present = e }

pub invariant_of-result-clause-legal : goal.invariant_of-result-clause-legal
invariant_of-result-clause-legal g c = new_keeps _ _ _ c.idle.ensures c.begin.ensures

pub returns-clause-state : goal.returns-clause-state
returns-clause-state g c =
    ap₂ start (begun_anew _ _ _ c.idle.ensures c.begin.ensures
    ∙ ap (λ (r : Routine). first_marks (table_kinds r.table)) c.new-rows.ensures) c.wipe.ensures

pub invariant_of-result-clause-within : goal.invariant_of-result-clause-within
invariant_of-result-clause-within g c = within_empty _ _ c.wipe.ensures
