-- what is known of bytes that are accepted
use Rattle.std.proofs.Common.{◌≡◌, ℕ, ◌+◌, ◌<◌, ◌≤◌, Bool, true, false, not, ◌&&◌, ◌||◌, List}
use Rattle.std.proofs.Common.{length, Some, None, Option, get_or, refl, sym, ap, ◌∙◌, slice_index}
use Rattle.std.proofs.Common.{is_some, ⊎_elim, ◌==◌, arith}
use Rattle.std.proofs.lemmas.Bool.{and_parts, or_parts, not-true, not-false, eqb-true, true≢false}
use Rattle.std.proofs.lemmas.Bool.{cases_lt, cond-false, ne_eqb}
use Rattle.routine.specs.declared.kinds.Kind.{Kind}
use Rattle.routine.specs.declared.kinds.SignalKind.{SignalKind}
use Rattle.routine.specs.Tree.{tree_at}
use Rattle.routine.proofs.Searches.{none_below, none_passes}
use Rattle.rules.specs.Rules.{Mark, Idle, over}
use Rattle.rules.specs.Legal.{keeps}
use Rattle.record.specs.declared.phases.Phase.{Phase}
use Rattle.record.specs.declared.heads.Head.{Head}
use Rattle.record.specs.declared.heads.HeadFault.{HeadFault}
use Rattle.record.specs.declared.layout.TheConstants.{HEAD_START, MARKS_START, RECORD_BYTES}
use Rattle.record.specs.Phases.{is_open, is_over}
use Rattle.record.specs.Record.{contents}
use Rattle.record.proofs.Fields.{at-marks_read}
use Rattle.record.specs.Taking.{is_fixed, is_wrong, is_fixed_right, has_form, phase_in}
use Rattle.record.specs.Taking.{phase_or_resting, head_in, head_fault, fault_of, fault_by, mark_in}
use Rattle.record.specs.Taking.{marks_read, marks_in, breaks, marks_fault, taking_by}
use Rattle.record.specs.Taking.{taking_refusal}

parts_taken : (b : Bool) (h : Option HeadFault) (m : Option ℕ) → taking_by b h m ≡ None
    → (b ≡ true) × (h ≡ None) × (m ≡ None)
parts_taken false h m e = absurd (cc)
parts_taken true (Some o) m e = absurd (cc)
parts_taken true None (Some i) e = absurd (cc)
parts_taken true None None e = (refl, refl, refl)

unless : (x y : Bool) → (x && not y) ≡ false → x ≡ true → y ≡ true
unless true y e h = not-false y e
unless false y e h = absurd (true≢false (sym h))

fixed_right : (n : ℕ) (bytes : List ℕ) → is_fixed_right n bytes ≡ true → (i : ℕ) → i < RECORD_BYTES
    → is_fixed n i ≡ true → get_or bytes i 0 ≡ get_or (contents n) i 0
unfolding is_fixed_right
fixed_right n bytes h i l f =
    eqb-true (get_or bytes i 0) (get_or (contents n) i 0)
    (unless (is_fixed n i) (slice_index bytes i == slice_index (contents n) i)
    (none_passes (is_wrong n bytes) RECORD_BYTES (not-true _ h) i l) f)

formed : (n : ℕ) (bytes : List ℕ) → has_form n bytes ≡ true
    → (length bytes ≡ RECORD_BYTES) × (is_fixed_right n bytes ≡ true)
unfolding has_form
formed n bytes h = let p = and_parts (length bytes == RECORD_BYTES) (is_fixed_right n bytes) h in
    (eqb-true (length bytes) RECORD_BYTES p.0, p.1)

-- from 3 on a byte is no phase, and from 4 on no mark
no_phase : (b : ℕ) → 3 ≤ b → phase_in b ≡ None
no_phase b l =
    cond-false (b == 0) _ _ (ne_eqb b 0 (λ q. omega arith))
    ∙ cond-false (b == 1) _ _ (ne_eqb b 1 (λ q. omega arith))
    ∙ cond-false (b == 2) _ _ (ne_eqb b 2 (λ q. omega arith))

no_mark : (b : ℕ) → 4 ≤ b → mark_in b ≡ None
no_mark b l =
    cond-false (b == 0) _ _ (ne_eqb b 0 (λ q. omega arith))
    ∙ cond-false (b == 1) _ _ (ne_eqb b 1 (λ q. omega arith))
    ∙ cond-false (b == 2) _ _ (ne_eqb b 2 (λ q. omega arith))
    ∙ cond-false (b == 3) _ _ (ne_eqb b 3 (λ q. omega arith))

is_mark : (b : ℕ) → is_some (mark_in b) ≡ true → b < 4
is_mark b e = ⊎_elim (λ l. l)
    (λ (l : 4 ≤ b). absurd (true≢false (sym e ∙ ap is_some (no_mark b l)))) (cases_lt b 4)

is_phase : (b g : ℕ) (h : Head) → fault_of (phase_in b) g h ≡ None → b < 3
is_phase b g h e = ⊎_elim (λ l. l)
    (λ (l : 3 ≤ b). absurd (true≢false
    (ap is_some (sym (ap (λ o. fault_of o g h) (no_phase b l)) ∙ e)))) (cases_lt b 3)

-- a head of a phase that is read
of_phase : (o : Option Phase) (g : ℕ) (h : Head) → fault_of o g h ≡ None
    → fault_by (phase_or_resting o) g h ≡ None
of_phase None g h e = absurd (cc)
of_phase (Some p) g h e = e

head_taken : (g : ℕ) (bytes : List ℕ) → head_fault g bytes ≡ None
    → (get_or bytes HEAD_START 0 < 3) × (fault_by (head_in bytes).phase g (head_in bytes) ≡ None)
unfolding head_fault head_in
head_taken g bytes h = (
  is_phase (slice_index bytes HEAD_START) g (head_in bytes) h,
  of_phase (phase_in (slice_index bytes HEAD_START)) g (head_in bytes) h,
)

marks_taken : (ks : List Kind) (bytes : List ℕ) → marks_fault ks bytes ≡ None → (i : ℕ)
    → i < length ks → breaks ks (head_in bytes).phase (marks_read (length ks) bytes) i ≡ false
unfolding marks_fault
marks_taken ks bytes = none_below (breaks ks (head_in bytes).phase (marks_read (length ks) bytes))
    (length ks)

module _ (gs : List SignalKind) (ks : List Kind) (bytes : List ℕ)
    (ok : taking_refusal gs ks bytes ≡ None) where
  three : (has_form (length ks) bytes ≡ true) × (head_fault (length gs) bytes ≡ None)
      × (marks_fault ks bytes ≡ None)
  three = parts_taken (has_form (length ks) bytes) (head_fault (length gs) bytes)
      (marks_fault ks bytes) ok

  -- they are as many as a record has
  pub long : length bytes ≡ RECORD_BYTES
  long = (formed (length ks) bytes three.0).0

  -- the contents and the zeros are right
  pub fixed : (i : ℕ) → i < RECORD_BYTES → is_fixed (length ks) i ≡ true
      → get_or bytes i 0 ≡ get_or (contents (length ks)) i 0
  fixed = fixed_right (length ks) bytes (formed (length ks) bytes three.0).1

  -- the first byte of the head is a phase
  pub some_phase : get_or bytes HEAD_START 0 < 3
  some_phase = (head_taken (length gs) bytes three.1).0

  -- no field of the head is bad
  pub faultless : fault_by (head_in bytes).phase (length gs) (head_in bytes) ≡ None
  faultless = (head_taken (length gs) bytes three.1).1

  abbrev phase : Phase
  phase = (head_in bytes).phase

  abbrev ms : List Mark
  ms = marks_in (length ks) bytes

  unbroken : (i : ℕ) → i < length ks
      → (not (is_some (get_or (marks_read (length ks) bytes) i (Some Idle))) ≡ false)
      × ((not (keeps (is_open phase) ks ms i)
      || ((i == 0) && (is_over phase && not (over (tree_at ks 0) ms)))) ≡ false)
  unbroken i l = or_parts _ _ (marks_taken ks bytes three.2 i l)

  -- each statement has a mark
  pub some_mark : (i : ℕ) → i < length ks → get_or bytes (MARKS_START + i) 0 < 4
  some_mark i l = is_mark (slice_index bytes (MARKS_START + i))
      (ap is_some (sym (at-marks_read (length ks) bytes i l)) ∙ not-false _ (unbroken i l).0)

  -- each statement keeps its rule
  pub each_keeps : (i : ℕ) → i < length ks → keeps (is_open phase) ks ms i ≡ true
  each_keeps i l = not-false _ (or_parts _ _ (unbroken i l).1).0

  -- at the end statement 0 is over
  pub at_end : 0 < length ks → is_over phase ≡ true → over (tree_at ks 0) ms ≡ true
  at_end z = unless (is_over phase) (over (tree_at ks 0) ms) (or_parts _ _ (unbroken 0 z).1).1
