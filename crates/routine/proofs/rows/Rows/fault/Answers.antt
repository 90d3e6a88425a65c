use Rattle.std.proofs.Common.{refl, rules, tests, sym, ◌∙◌}
use Rattle.routine.specs.Lent.{lent_signals, lent_kinds}
use Rattle.routine.proofs.Searches.{lowest_by}
use Rattle.routine.proofs.Checking.{verdict_by}
use Rattle.routine.proofs.rows.Rows.fault.Goals as goal

pub returns-in-Some : goal.returns-in-Some
returns-in-Some c =
    let a = lowest_by _ c.offender.ensures (λ k b l p. search (rules, tests)) in
    sym (verdict_by (lent_signals c.args.self.now) (lent_kinds c.args.self.now) _ _ _ _
    (sym c.in-Some.is ∙ a) refl refl refl)

pub returns-in-Some-offender : goal.returns-in-Some-offender
returns-in-Some-offender c =
    let a = lowest_by _ c.offender.ensures (λ k b l p. search (rules, tests)) in
    let b = lowest_by _ c.offender-2.ensures (λ k b l p. search (rules, tests)) in
    sym (verdict_by (lent_signals c.args.self.now) (lent_kinds c.args.self.now) _ _ _ _
    (sym c.in_default.is ∙ a) (sym c.in-Some-offender.is ∙ b) refl refl)

pub returns-in-Some-offender-2 : goal.returns-in-Some-offender-2
returns-in-Some-offender-2 c =
    let a = lowest_by _ c.offender.ensures (λ k b l p. search (rules, tests)) in
    let b = lowest_by _ c.offender-2.ensures (λ k b l p. search (rules, tests)) in
    let d = lowest_by _ c.offender-3.ensures (λ k b l p. search (rules, tests)) in
    sym (verdict_by (lent_signals c.args.self.now) (lent_kinds c.args.self.now) _ _ _ _
    (sym c.in_default.is ∙ a) (sym c.in_default-offender.is ∙ b)
    (sym c.in-Some-offender-2.is ∙ d) refl)

pub returns-in-Some-offender-3 : goal.returns-in-Some-offender-3
returns-in-Some-offender-3 c =
    let a = lowest_by _ c.offender.ensures (λ k b l p. search (rules, tests)) in
    let b = lowest_by _ c.offender-2.ensures (λ k b l p. search (rules, tests)) in
    let d = lowest_by _ c.offender-3.ensures (λ k b l p. search (rules, tests)) in
    let e = lowest_by _ c.offender-4.ensures (λ k b l p. search (rules, tests)) in
    sym (verdict_by (lent_signals c.args.self.now) (lent_kinds c.args.self.now) _ _ _ _
    (sym c.in_default.is ∙ a) (sym c.in_default-offender.is ∙ b)
    (sym c.in_default-offender-2.is ∙ d) (sym c.in-Some-offender-3.is ∙ e))

pub returns : goal.returns
returns c =
    let a = lowest_by _ c.offender.ensures (λ k b l p. search (rules, tests)) in
    let b = lowest_by _ c.offender-2.ensures (λ k b l p. search (rules, tests)) in
    let d = lowest_by _ c.offender-3.ensures (λ k b l p. search (rules, tests)) in
    let e = lowest_by _ c.offender-4.ensures (λ k b l p. search (rules, tests)) in
    sym (verdict_by (lent_signals c.args.self.now) (lent_kinds c.args.self.now) _ _ _ _
    (sym c.in_default.is ∙ a) (sym c.in_default-offender.is ∙ b)
    (sym c.in_default-offender-2.is ∙ d) (sym c.in_default-offender-3.is ∙ e))
