-- the fields of a head, and the marks, as bytes and back
use Rattle.std.proofs.Common.{◌≡◌, ℕ, zero, suc, ◌+◌, ◌^◌, ◌<◌, ◌≤◌, Bool, true, false, cond, Some}
use Rattle.std.proofs.Common.{None, Option, List, ◌∷◌, ◌++◌, length, get_or, refl, ap, ◌∙◌, ⊎_elim}
use Rattle.std.proofs.Common.{slice_index, nat_lt, ◌==◌, arith}
use Rattle.std.proofs.lemmas.Bool.{eqb-true, eqb-false, ltb-true, cases_lt}
use Rattle.std.proofs.lemmas.Nat.{le_bytes_2, le_bytes_4, le_bytes_8}
use Rattle.std.proofs.lemmas.List.{get_or_past, length-map}
use lib.ListN.{get_or-map}
use Rattle.std.proofs.lemmas.List.FromFn.{length-map-range_with_len, get_or-map-range_with_len}
use Rattle.rules.specs.Rules.{Mark, Idle, Waiting, UnderWay, Done, at}
use Rattle.record.specs.declared.phases.Phase.{Phase}
use Rattle.record.specs.declared.phases.Phase.TheVariants.{Resting, Open, Over}
use Rattle.record.specs.declared.heads.Head.{Head}
use Rattle.record.specs.declared.heads.HeadFault.{HeadFault}
use Rattle.record.specs.declared.heads.HeadFault.TheVariants.{NoNumber, WrongSteps, WrongSignals}
use Rattle.record.specs.declared.heads.TheConstants.{MOST_INSTANTS}
use Rattle.record.specs.declared.layout.TheConstants.{HEAD_BYTES, HEAD_START, MARKS_START}
use Rattle.record.specs.Record.{phase_byte, mark_byte, head_bytes}
use Rattle.record.specs.Taking.{part, phase_in, phase_or_resting, mark_in, marks_read, counted}
use Rattle.record.specs.Taking.{marks_in, head_in, still_fault, open_fault}

-- a byte that is a phase is how that phase is written
pub phase_again : (b : ℕ) → b < 3 → phase_byte (phase_or_resting (phase_in b)) ≡ b
phase_again zero l = refl
phase_again (suc zero) l = refl
phase_again (suc (suc zero)) l = refl
phase_again (suc (suc (suc b))) l = absurd (omega arith)

-- how a phase is written is read as that phase
pub phase_read : (p : Phase) → phase_in (phase_byte p) ≡ Some p
phase_read Resting = refl
phase_read Open = refl
phase_read Over = refl

-- a byte that is a mark is how that mark is written
pub mark_again : (b : ℕ) → b < 4 → mark_byte (counted (mark_in b)) ≡ b
mark_again zero l = refl
mark_again (suc zero) l = refl
mark_again (suc (suc zero)) l = refl
mark_again (suc (suc (suc zero))) l = refl
mark_again (suc (suc (suc (suc b)))) l = absurd (omega arith)

-- how a mark is written is read as that mark
pub mark_read : (m : Mark) → mark_in (mark_byte m) ≡ Some m
mark_read Idle = refl
mark_read Waiting = refl
mark_read UnderWay = refl
mark_read Done = refl

-- the n marks that are read, each with its byte
module _ (n : ℕ) (bytes : List ℕ) where
  length-marks_read : length (marks_read n bytes) ≡ n
  unfolding marks_read
  length-marks_read =
      length-map-range_with_len (λ i. mark_in (slice_index bytes (MARKS_START + i))) 0 n

  -- the byte of statement i as a mark
  pub at-marks_read : (i : ℕ) → i < n
      → get_or (marks_read n bytes) i (Some Idle) ≡ mark_in (slice_index bytes (MARKS_START + i))
  unfolding marks_read
  at-marks_read i l = get_or-map-range_with_len
      (λ (k : ℕ). mark_in (slice_index bytes (MARKS_START + k))) 0 n i i (Some Idle) l (omega arith)

  -- they are n
  pub length-marks_in : length (marks_in n bytes) ≡ n
  length-marks_in = length-map (marks_read n bytes) counted ∙ length-marks_read

  -- what it is to the rules of other statements
  pub at-marks_in : (i : ℕ) → i < n
      → at (marks_in n bytes) i ≡ counted (mark_in (slice_index bytes (MARKS_START + i)))
  at-marks_in i l = get_or-map counted (marks_read n bytes) i (Some Idle)
      ∙ ap counted (at-marks_read i l)

  -- idle beyond the last
  pub marks_in_past : (i : ℕ) → n ≤ i → at (marks_in n bytes) i ≡ Idle
  marks_in_past i l = let m = length-marks_in in get_or_past (marks_in n bytes) i Idle (omega arith)

passes : (b : Bool) (o : Option HeadFault) (k : HeadFault) → cond b o (Some k) ≡ None
    → (b ≡ true) × (o ≡ None)
passes true o k e = (refl, e)
passes false o k e = absurd (cc)

stops : (b : Bool) (o : Option HeadFault) (k : HeadFault) → cond b (Some k) o ≡ None
    → (b ≡ false) × (o ≡ None)
stops true o k e = absurd (cc)
stops false o k e = (refl, e)

-- a head without a fault: outside an open instant its steps and its present word are 0
pub still_zeros : (h : Head) → still_fault h ≡ None → (h.steps ≡ 0) × (h.present ≡ 0)
still_zeros h e =
    let p = passes (h.steps == 0) (cond (h.present == 0) None (Some WrongSignals)) WrongSteps e in
    (eqb-true h.steps 0 p.0, eqb-true h.present 0 (passes (h.present == 0) None WrongSignals p.1).0)

-- and in one it has a number, and the present word is below 2 ^ g
pub open_bounds : (g : ℕ) (h : Head) → open_fault g h ≡ None
    → (h.closed ≡ MOST_INSTANTS → ⊥) × (h.present < 2 ^ g)
open_bounds g h e =
    let p = stops (h.closed == MOST_INSTANTS)
    (cond (nat_lt h.present (2 ^ g)) None (Some WrongSignals)) NoNumber e in (
      eqb-false h.closed MOST_INSTANTS p.0,
      ltb-true h.present (2 ^ g) (passes (nat_lt h.present (2 ^ g)) None WrongSignals p.1).0,
    )

-- the numbers of a part are bytes too
small_part : (bytes : List ℕ) (n p : ℕ) → ((i : ℕ) → get_or bytes i 0 < 256) → (i : ℕ)
    → get_or (part bytes n p) i 0 < 256
small_part bytes n p small i =
    ⊎_elim
    (λ (l : i < n). let e = get_or-map-range_with_len (slice_index bytes) p n i (p + i) 0 l refl in
    omega (arith, e, small (p + i)))
    (λ (l : n ≤ i). let e = get_or_past (part bytes n p) i 0
    (omega (arith, length-map-range_with_len (slice_index bytes) p n)) in omega (arith, e))
    (cases_lt i n)

-- the bytes of the head that was read are the bytes that were there
pub head_again : (bytes : List ℕ) → ((i : ℕ) → get_or bytes i 0 < 256)
    → get_or bytes HEAD_START 0 < 3 → head_bytes (head_in bytes) ≡ part bytes HEAD_BYTES HEAD_START
unfolding head_in
head_again bytes small l =
    let p = phase_again (get_or bytes HEAD_START 0) l in
    let c = le_bytes_4 (part bytes 4 9) _ refl (small_part bytes 4 9 small) refl in
    let s = le_bytes_2 (part bytes 2 13) _ refl (small_part bytes 2 13 small) refl in
    let w = le_bytes_8 (part bytes 8 15) _ refl (small_part bytes 8 15 small) refl in
    λ i. p i ∷ (c i ++ (s i ++ w i))
