-- a record that is accepted and written again is the same bytes
use Rattle.std.proofs.Common.{◌≡◌, ℕ, ◌+◌, ◌-◌, ◌<◌, ◌≤◌, true, List, length, None, get_or, refl}
use Rattle.std.proofs.Common.{sym, ap, ◌∙◌, ⊎_elim, nat_lt, nat_le, arith}
use Rattle.std.proofs.lemmas.Bool.{cases_lt, lt-ltb, le-leb, or_left, or_right}
use Rattle.std.proofs.lemmas.List.{get_or_past}
use Rattle.routine.specs.declared.kinds.Kind.{Kind}
use Rattle.routine.specs.declared.kinds.SignalKind.{SignalKind}
use Rattle.routine.specs.declared.tables.TheConstants.{MOST_SIGNALS, MOST_STATEMENTS}
use Rattle.signals.specs.Sets.{word_set}
use Rattle.rules.specs.Rules.{Mark}
use Rattle.record.specs.declared.phases.Phase.{Phase}
use Rattle.record.specs.declared.phases.Phase.TheVariants.{Resting, Open, Over}
use Rattle.record.specs.declared.heads.Head.{Head}
use Rattle.record.specs.declared.layout.TheConstants.{HEAD_START, HEAD_BYTES, MARKS_START}
use Rattle.record.specs.declared.layout.TheConstants.{RECORD_BYTES}
use Rattle.record.specs.Record.{contents, head_bytes, mark_byte, byte_at, steps_written}
use Rattle.record.specs.Record.{word_written, written, head_of, record_of}
use Rattle.record.specs.Taking.{is_fixed, head_in, marks_in, fault_by, taking_refusal, state_in}
use Rattle.record.proofs.Words.{word_again}
use Rattle.record.proofs.Places.{in_contents, in_head, in_marks, part_at, is_written}
use Rattle.record.proofs.Fields.{mark_again, length-marks_in, at-marks_in, marks_in_past}
use Rattle.record.proofs.Fields.{still_zeros, open_bounds, head_again}
use Rattle.record.proofs.Accepted.{long, fixed, some_phase, faultless, some_mark}

steps_again : (p : Phase) (g : ℕ) (h : Head) → fault_by p g h ≡ None
    → steps_written p h.steps ≡ h.steps
steps_again Resting g h e = sym (still_zeros h e).0
steps_again Open g h e = refl
steps_again Over g h e = sym (still_zeros h e).0

word_kept : (p : Phase) (g : ℕ) (h : Head) → g ≤ MOST_SIGNALS → fault_by p g h ≡ None
    → word_written p g (word_set h.present) ≡ h.present
word_kept Resting g h few e = sym (still_zeros h e).1
word_kept Open g h few e = word_again h.present g few (open_bounds g h e).1
word_kept Over g h few e = sym (still_zeros h e).1

-- the head of the state that was read is the head that was read
head_kept : (g n : ℕ) (bytes : List ℕ) → g ≤ MOST_SIGNALS
    → fault_by (head_in bytes).phase g (head_in bytes) ≡ None
    → head_of g (state_in n bytes) ≡ head_in bytes
unfolding head_in
head_kept g n bytes few e =
    let h : Head = head_in bytes in
    let s = steps_again h.phase g h e in
    let w = word_kept h.phase g h few e in
    λ i. record { phase = h.phase; closed = h.closed; steps = s i; present = w i }

first_fixed : (n i : ℕ) → i < HEAD_START → is_fixed n i ≡ true
first_fixed n i l =
    or_left (nat_lt i HEAD_START) (nat_le (MARKS_START + n) i) (lt-ltb i HEAD_START l)

last_fixed : (n i : ℕ) → MARKS_START + n ≤ i → is_fixed n i ≡ true
last_fixed n i l =
    or_right (nat_lt i HEAD_START) (nat_le (MARKS_START + n) i) (le-leb (MARKS_START + n) i l)

module _ (gs : List SignalKind) (ks : List Kind) (bytes : List ℕ)
    (small : (i : ℕ) → get_or bytes i 0 < 256) (ok : taking_refusal gs ks bytes ≡ None) where
  abbrev cs : List ℕ
  cs = contents (length ks)

  abbrev hs : List ℕ
  hs = head_bytes (head_in bytes)

  abbrev ms : List Mark
  ms = marks_in (length ks) bytes

  -- the byte that the record of what was read has at place i
  abbrev again : ℕ → ℕ
  again i = byte_at cs hs ms i

  in_first : (i : ℕ) → i < HEAD_START → get_or bytes i 0 ≡ again i
  in_first i a = fixed gs ks bytes ok i (omega arith) (first_fixed (length ks) i a)
      ∙ sym (in_contents cs hs ms i a)

  in_second : (i : ℕ) → HEAD_START ≤ i → i < MARKS_START → get_or bytes i 0 ≡ again i
  in_second i a b =
      sym (part_at bytes HEAD_BYTES HEAD_START i a b)
      ∙ ap (λ xs. get_or xs (i - HEAD_START) 0)
      (sym (head_again bytes small (some_phase gs ks bytes ok))) ∙ sym (in_head cs hs ms i a b)

  in_third : (i : ℕ) → MARKS_START ≤ i → i < MARKS_START + length ks → get_or bytes i 0 ≡ again i
  in_third i b c =
      let m = i - MARKS_START in
      let l : m < length ks = omega arith in
      let j : i ≡ MARKS_START + m = omega arith in
      ap (λ k. get_or bytes k 0) j
      ∙ sym (mark_again (get_or bytes (MARKS_START + m) 0) (some_mark gs ks bytes ok m l))
      ∙ ap mark_byte (sym (at-marks_in (length ks) bytes m l)) ∙ sym (in_marks cs hs ms i b)

  in_last : (i : ℕ) → i < RECORD_BYTES → MARKS_START + length ks ≤ i → get_or bytes i 0 ≡ again i
  in_last i l c =
      fixed gs ks bytes ok i l (last_fixed (length ks) i c)
      ∙ get_or_past cs i 0 (omega arith)
      ∙ ap mark_byte (sym (marks_in_past (length ks) bytes (i - MARKS_START) (omega arith)))
      ∙ sym (in_marks cs hs ms i (omega arith))

  same_byte : (i : ℕ) → i < RECORD_BYTES → get_or bytes i 0 ≡ again i
  same_byte i l =
      ⊎_elim
      (in_first i)
      (λ a. ⊎_elim (in_second i a)
      (λ b. ⊎_elim (in_third i b) (in_last i l) (cases_lt i (MARKS_START + length ks)))
      (cases_lt i MARKS_START))
      (cases_lt i HEAD_START)

-- what an accepted record says is written as the same bytes
pub same_bytes : (gs : List SignalKind) (ks : List Kind) (bytes : List ℕ)
    → length ks ≤ MOST_STATEMENTS → length gs ≤ MOST_SIGNALS
    → ((i : ℕ) → get_or bytes i 0 < 256) → taking_refusal gs ks bytes ≡ None
    → record_of (length gs) (length ks) (state_in (length ks) bytes) ≡ bytes
same_bytes gs ks bytes most few small ok =
    let n = length ks in
    ap (λ h. written n h (marks_in n bytes))
    (head_kept (length gs) n bytes few (faultless gs ks bytes ok))
    ∙ is_written n (head_in bytes) (marks_in n bytes) (length-marks_in n bytes) most bytes
    (long gs ks bytes ok) (same_byte gs ks bytes small ok)
