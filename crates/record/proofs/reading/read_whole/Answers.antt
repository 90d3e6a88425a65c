use Rattle.std.proofs.Common.{length, map, true, false, Some, None, List, Ok, Err, sym, refl, ap}
use Rattle.std.proofs.Common.{ap₂, ◌∙◌}
use Rattle.routine.specs.declared.refusals.Refusal.TheVariants.{RecordHead}
use Rattle.routine.specs.View.{table_kinds, table_signals}
use Rattle.rules.specs.Rules.{Mark}
use Rattle.record.specs.declared.heads.Head.{Head}
use Rattle.record.specs.Taking.{head_in, head_fault, counted}
use Rattle.record.proofs.Answered.{not_refused, answered, refused}
use Rattle.record.proofs.Lists.{few_kinds}
use Rattle.record.proofs.Forms.{fault_read, misformed, well_formed, taken_by}
use Rattle.record.proofs.reading.read_whole.Goals as goal

pub returns-then-not-is_fixed_right : goal.returns-then-not-is_fixed_right
returns-then-not-is_fixed_right c =
    let t = c.args.routine.now.table in
    taken_by (table_signals t) (table_kinds t) c.args.bytes.now false _ _
    (misformed _ _ (sym c.is_fixed_right.ensures ∙ c.if-not-is_fixed_right.true)) refl refl

pub returns-in-Err : goal.returns-in-Err
returns-in-Err c =
    let t = c.args.routine.now.table in
    let b = c.args.bytes.now in
    ap (λ o. Err (RecordHead o)) c.offset.ensures
    ∙ taken_by (table_signals t) (table_kinds t) b true (Some c.in-Err.fault) _
    (well_formed _ _ c.told-bytes (sym c.is_fixed_right.ensures ∙ c.if-not-is_fixed_right.false))
    (refused (head_fault (length (table_signals t)) b) (head_in b) _ c.in-Err.ensures) refl

pub returns-in-Some : goal.returns-in-Some
returns-in-Some c =
    let t = c.args.routine.now.table in
    let b = c.args.bytes.now in
    let o = head_fault (length (table_signals t)) b in
    let h = answered o _ (head_in b) c.in-Ok.ensures in
    taken_by (table_signals t) (table_kinds t) b true None (Some c.in-Some.statement)
    (well_formed _ _ c.told-bytes (sym c.is_fixed_right.ensures ∙ c.if-not-is_fixed_right.false))
    (not_refused o _ (head_in b) c.in-Ok.ensures)
    (fault_read _ b _ _ _ (few_kinds t) h c.count.ensures.value c.read_marks-marks.ensures
    ∙ sym c.in-Some.ensures)

pub returns : goal.returns
returns c =
    let t = c.args.routine.now.table in
    let b = c.args.bytes.now in
    let o = head_fault (length (table_signals t)) b in
    let h = answered o _ (head_in b) c.in-Ok.ensures in
    ap₂ (λ (k : Head) (ns : List Mark). Ok (record { head = k; marks = ns })) h
    (c.all_counted.ensures ∙ ap (map counted) c.read_marks-marks.ensures)
    ∙ taken_by (table_signals t) (table_kinds t) b true None None
    (well_formed _ _ c.told-bytes (sym c.is_fixed_right.ensures ∙ c.if-not-is_fixed_right.false))
    (not_refused o _ (head_in b) c.in-Ok.ensures)
    (fault_read _ b _ _ _ (few_kinds t) h c.count.ensures.value c.read_marks-marks.ensures
    ∙ sym c.in_default.ensures)
