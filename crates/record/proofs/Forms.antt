-- a record's form, and its bytes place by place
use Rattle.std.proofs.Common.{◌≡◌, ℕ, ◌-◌, ◌<◌, ◌≤◌, Bool, true, false, cond, List, ◌++◌, length}
use Rattle.std.proofs.Common.{map, take, replicate, get_or, Option, sym, refl, ap, ap₂, ◌∙◌, nat_lt}
use Rattle.std.proofs.Common.{slice_index, ◌==◌, arith}
use native.Mathlib.Decide.{dec_lt}
use Rattle.std.specs.List.{range_with_len}
use Rattle.std.proofs.lemmas.List.{get_or_append_left, get_or-append_right, get_or-replicate}
use Rattle.std.proofs.lemmas.List.{get_or_past, length-map, length-append}
use Rattle.std.proofs.lemmas.List.FromFn.{fill_by_all}
use lib.ListN.{length-replicate, get_or-map}
use Rattle.std.proofs.lemmas.Bool.{and_left, and_right, and_from, eq-eqb, ne_eqb, cond_below}
use Rattle.std.proofs.lemmas.Bool.{cond_above}
use Rattle.routine.specs.declared.kinds.Kind.{Kind}
use Rattle.routine.specs.declared.kinds.SignalKind.{SignalKind}
use Rattle.routine.specs.declared.tables.TheConstants.{MOST_STATEMENTS}
use Rattle.routine.specs.Search.{lowest}
use Rattle.rules.specs.Rules.{Mark, Idle}
use Rattle.record.specs.declared.layout.TheConstants.{HEAD_START, HEAD_BYTES, MARKS_START}
use Rattle.record.specs.declared.layout.TheConstants.{RECORD_BYTES}
use Rattle.record.specs.Answers.{answer}
use Rattle.record.specs.declared.heads.Head.{Head}
use Rattle.record.specs.declared.heads.HeadFault.{HeadFault}
use Rattle.record.specs.Record.{contents, head_bytes, mark_byte, written, byte_at}
use Rattle.record.specs.Taking.{is_fixed_right, has_form, head_in, head_fault, marks_read, breaks}
use Rattle.record.specs.Taking.{marks_fault, taking_by, taking_refusal, saved_in}
use Rattle.record.proofs.Lists.{read_cut}

-- bytes that are wrong at a place where all records have the same have not the form
pub misformed : (n : ℕ) (bytes : List ℕ) → is_fixed_right n bytes ≡ false → has_form n bytes ≡ false
unfolding has_form
misformed n bytes h = and_right (length bytes == RECORD_BYTES) (is_fixed_right n bytes) h

-- bytes of another length have not the form
pub misfit : (n : ℕ) (bytes : List ℕ) → (length bytes ≡ RECORD_BYTES → ⊥)
    → has_form n bytes ≡ false
unfolding has_form
misfit n bytes h = and_left (length bytes == RECORD_BYTES) (is_fixed_right n bytes)
    (ne_eqb (length bytes) RECORD_BYTES h)

-- bytes of the right length that are right have it
pub well_formed : (n : ℕ) (bytes : List ℕ) → length bytes ≡ RECORD_BYTES
    → is_fixed_right n bytes ≡ true → has_form n bytes ≡ true
unfolding has_form
well_formed n bytes l h =
    and_from (length bytes == RECORD_BYTES) (is_fixed_right n bytes)
    (eq-eqb (length bytes) RECORD_BYTES l) h

-- the contents, the head, n marks and zeros up to the end, place by place
module _ (cs hs ms : List ℕ) (n : ℕ) (c : length cs ≡ HEAD_START) (h : length hs ≡ HEAD_BYTES)
    (m : length ms ≡ n) (few : n ≤ MOST_STATEMENTS) where
  abbrev zeros : List ℕ
  zeros = replicate (MOST_STATEMENTS - n) 0

  abbrev whole : List ℕ
  whole = cs ++ (hs ++ (ms ++ zeros))

  abbrev place_of : ℕ → ℕ
  place_of i = cond (nat_lt i HEAD_START) (slice_index cs i)
      (cond (nat_lt i MARKS_START) (slice_index hs (i - HEAD_START))
      (slice_index ms (i - MARKS_START)))

  pub length_whole : length whole ≡ RECORD_BYTES
  length_whole =
      omega (
        arith,
        length-append cs (hs ++ (ms ++ zeros)),
        length-append hs (ms ++ zeros),
        length-append ms zeros,
        length-replicate {A = ℕ} (MOST_STATEMENTS - n) 0,
        c,
        h,
        m,
      )

  in_marks : (i : ℕ) → i < MOST_STATEMENTS → get_or (ms ++ zeros) i 0 ≡ get_or ms i 0
  in_marks i l =
      elim (dec_lt i n) [
        | yes b ↦ get_or_append_left ms zeros 0 i (omega (arith, m))
        | no d ↦
            get_or-append_right ms zeros n i 0 m (omega arith)
            ∙ get_or-replicate (MOST_STATEMENTS - n) (i - n) 0 0 (omega arith)
            ∙ sym (get_or_past ms i 0 (omega (arith, m)))
      ]

  in_rest : (i : ℕ) → i < RECORD_BYTES - HEAD_START
      → get_or (hs ++ (ms ++ zeros)) i 0
      ≡ cond (nat_lt i HEAD_BYTES) (get_or hs i 0) (get_or ms (i - HEAD_BYTES) 0)
  in_rest i l =
      elim (dec_lt i HEAD_BYTES) [
        | yes b ↦ get_or_append_left hs (ms ++ zeros) 0 i (omega (arith, h))
            ∙ cond_below i HEAD_BYTES _ _ b
        | no d ↦ get_or-append_right hs (ms ++ zeros) HEAD_BYTES i 0 h (omega arith)
            ∙ in_marks (i - HEAD_BYTES) (omega arith)
            ∙ cond_above i HEAD_BYTES _ _ _ (omega arith) refl
      ]

  shift : (i : ℕ) → HEAD_START ≤ i
      → cond (nat_lt (i - HEAD_START) HEAD_BYTES) (get_or hs (i - HEAD_START) 0)
      (get_or ms (i - HEAD_START - HEAD_BYTES) 0)
      ≡ cond (nat_lt i MARKS_START) (get_or hs (i - HEAD_START) 0) (get_or ms (i - MARKS_START) 0)
  shift i l =
      elim (dec_lt i MARKS_START) [
        | yes b ↦ sym (cond_below (i - HEAD_START) HEAD_BYTES _ _ (omega arith))
            ∙ cond_below i MARKS_START _ _ b
        | no d ↦
            let e : i - HEAD_START - HEAD_BYTES ≡ i - MARKS_START = omega arith in
            sym (cond_above (i - HEAD_START) HEAD_BYTES _ _ _ (omega arith) refl)
            ∙ ap (λ j. get_or ms j 0) e ∙ cond_above i MARKS_START _ _ _ (omega arith) refl
      ]

  pub place : (i : ℕ) → i < RECORD_BYTES → get_or whole i 0 ≡ place_of i
  place i l =
      elim (dec_lt i HEAD_START) [
        | yes b ↦ get_or_append_left cs (hs ++ (ms ++ zeros)) 0 i (omega (arith, c))
            ∙ cond_below i HEAD_START _ _ b
        | no d ↦
            get_or-append_right cs (hs ++ (ms ++ zeros)) HEAD_START i 0 c (omega arith)
            ∙ in_rest (i - HEAD_START) (omega arith) ∙ shift i (omega arith)
            ∙ cond_above i HEAD_START _ _ _ (omega arith) refl
      ]

-- the record's bytes
pub bytes_written : (n : ℕ) (h : Head) (ms : List Mark) → length ms ≡ n → n ≤ MOST_STATEMENTS
    → written n h ms ≡ map (byte_at (contents n) (head_bytes h) ms) (range_with_len 0 RECORD_BYTES)
unfolding written
bytes_written n h ms l few =
    let cs = contents n in
    let hs = head_bytes h in
    let bs = map mark_byte ms in
    let m = length-map ms mark_byte ∙ l in
    fill_by_all (byte_at cs hs ms) (written n h ms) RECORD_BYTES 0
    (length_whole cs hs bs n refl refl m few)
    (λ i k.
    place cs hs bs n refl refl m few i k
    ∙ ap (λ b. cond (nat_lt i HEAD_START) (slice_index cs i)
    (cond (nat_lt i MARKS_START) (slice_index hs (i - HEAD_START)) b))
    (get_or-map mark_byte ms (i - MARKS_START) Idle))

-- the statement whose mark is wrong, by the head and the marks that were read, of which the first n
-- count
pub fault_read : (ks : List Kind) (bytes : List ℕ) (h : Head) (n : ℕ) (ms : List (Option Mark))
    → length ks ≤ MOST_STATEMENTS → h ≡ head_in bytes → n ≡ length ks
    → ms ≡ marks_read MOST_STATEMENTS bytes
    → marks_fault ks bytes ≡ lowest (breaks ks h.phase (take n ms)) (length ks)
unfolding marks_fault
fault_read ks bytes h n ms few e f g =
    sym (ap₂ (λ (k : Head) (rs : List (Option Mark)). lowest (breaks ks k.phase rs) (length ks)) e
    (ap₂ (λ (k : ℕ) (rs : List (Option Mark)). take k rs) f g ∙ read_cut (length ks) bytes few))

-- the refusal, by what the three tests say
pub taken_by : (gs : List SignalKind) (ks : List Kind) (bytes : List ℕ) (b : Bool)
    (h : Option HeadFault) (m : Option ℕ) → has_form (length ks) bytes ≡ b
    → head_fault (length gs) bytes ≡ h → marks_fault ks bytes ≡ m
    → answer (taking_by b h m) (saved_in bytes)
    ≡ answer (taking_refusal gs ks bytes) (saved_in bytes)
taken_by gs ks bytes b h m p q r = sym
    (ap (λ c. answer (taking_by c (head_fault (length gs) bytes) (marks_fault ks bytes))
    (saved_in bytes)) p ∙ ap₂ (λ x y. answer (taking_by b x y) (saved_in bytes)) q r)
