use Rattle.std.proofs.Common.{◌^◌, ◌<◌, sym, ap, ◌∙◌, arith, rules, length, vec_items}
use Rattle.routine.specs.Kinds.{marks}
use Rattle.routine.specs.View.{table_kinds, table_signals}
use Rattle.record.specs.declared.layout.TheConstants.{RECORD_BYTES}
use Rattle.record.specs.Record.{contents, head_bytes, byte_at}
use Rattle.record.specs.Taking.{taking_refusal}
use Rattle.record.proofs.Arrays.{made}
use Rattle.record.proofs.Forms.{bytes_written}
use Rattle.record.proofs.Lists.{marks_many, few_kinds}
use Rattle.record.proofs.Restored.{is_taken}
use Rattle.record.proofs.writing.write.Goals as goal

pub returns-clause-bytes : goal.returns-clause-bytes
returns-clause-bytes c =
    let h = c.args.standing.head in
    let t = c.args.standing.routine.now.table in
    let ms = marks (vec_items t.statements) in
    let n = length (table_kinds t) in
    made _ _ (byte_at (contents n) (head_bytes h) ms)
    (λ i y q e. search rules) _ 0 RECORD_BYTES c.from_fn.ensures.items
    ∙ sym (bytes_written n h ms (marks_many t) (few_kinds t))

pub returns-clause-accepted : goal.returns-clause-accepted
returns-clause-accepted c =
    let s = c.args.standing in
    let t = s.routine.now.table in
    let w : s.head.present < 2 ^ 64 = search rules in
    ap (taking_refusal (table_signals t) (table_kinds t)) (returns-clause-bytes c)
    ∙ is_taken (table_signals t) (table_kinds t) s.head (marks (vec_items t.statements))
    (few_kinds t) (search rules) (search rules) (omega (arith, w))
    s.faultless (record { many = marks_many t; each = s.legal }) s.finished
