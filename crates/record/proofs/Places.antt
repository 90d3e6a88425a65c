-- which byte a record has at which place
use Rattle.std.proofs.Common.{◌≡◌, ℕ, ◌+◌, ◌-◌, ◌<◌, ◌≤◌, cond, List, length, get_or, refl, sym, ap}
use Rattle.std.proofs.Common.{◌∙◌, slice_index, nat_lt, arith, ext_get_or}
use Rattle.std.proofs.lemmas.Bool.{cond_below, cond_above}
use Rattle.std.proofs.lemmas.List.FromFn.{length-map-range_with_len, get_or-map-range_with_len}
use Rattle.std.proofs.lemmas.List.FromFn.{fill_by_all}
use Rattle.routine.specs.declared.tables.TheConstants.{MOST_STATEMENTS}
use Rattle.rules.specs.Rules.{Mark, at}
use Rattle.record.specs.declared.heads.Head.{Head}
use Rattle.record.specs.declared.layout.TheConstants.{HEAD_START, MARKS_START, RECORD_BYTES}
use Rattle.record.specs.Record.{contents, head_bytes, mark_byte, written, byte_at}
use Rattle.record.specs.Taking.{part}
use Rattle.record.proofs.Forms.{bytes_written}

-- the byte at place i, by where it lies
module _ (cs hs : List ℕ) (ms : List Mark) (i : ℕ) where
  -- in the contents
  pub in_contents : i < HEAD_START → byte_at cs hs ms i ≡ get_or cs i 0
  in_contents l = sym (cond_below i HEAD_START _ _ l)

  beyond_contents : HEAD_START ≤ i → byte_at cs hs ms i
      ≡ cond (nat_lt i MARKS_START) (slice_index hs (i - HEAD_START))
      (mark_byte (at ms (i - MARKS_START)))
  beyond_contents l = sym (cond_above i HEAD_START _ _ _ l refl)

  -- in the head
  pub in_head : HEAD_START ≤ i → i < MARKS_START → byte_at cs hs ms i ≡ get_or hs (i - HEAD_START) 0
  in_head l b = beyond_contents l ∙ sym (cond_below i MARKS_START _ _ b)

  -- from the marks on
  pub in_marks : MARKS_START ≤ i → byte_at cs hs ms i ≡ mark_byte (at ms (i - MARKS_START))
  in_marks l = beyond_contents (omega arith) ∙ sym (cond_above i MARKS_START _ _ _ l refl)

-- the n bytes from place p on are hs, if they agree place by place
pub part_is : (bytes hs : List ℕ) (n p : ℕ) → length hs ≡ n
    → ((k : ℕ) → k < n → get_or bytes (p + k) 0 ≡ get_or hs k 0) → part bytes n p ≡ hs
part_is bytes hs n p l h =
    ext_get_or 0 (part bytes n p) hs (length-map-range_with_len (slice_index bytes) p n ∙ sym l)
    (λ k b. let c : k < n = omega (arith, length-map-range_with_len (slice_index bytes) p n) in
    get_or-map-range_with_len (slice_index bytes) p n k (p + k) 0 c refl ∙ h k c)

-- the byte at place i, which lies among them
pub part_at : (bytes : List ℕ) (n p i : ℕ) → p ≤ i → i < p + n
    → get_or (part bytes n p) (i - p) 0 ≡ get_or bytes i 0
part_at bytes n p i l b =
    get_or-map-range_with_len (slice_index bytes) p n (i - p) i 0 (omega arith) (omega arith)

-- the record that is written
module _ (n : ℕ) (h : Head) (ms : List Mark) (m : length ms ≡ n) (few : n ≤ MOST_STATEMENTS) where
  -- it has as many bytes as a record has
  pub length_written : length (written n h ms) ≡ RECORD_BYTES
  length_written = ap length (bytes_written n h ms m few)
      ∙ length-map-range_with_len (byte_at (contents n) (head_bytes h) ms) 0 RECORD_BYTES

  -- its byte at place i
  pub byte_written : (i : ℕ) → i < RECORD_BYTES
      → get_or (written n h ms) i 0 ≡ byte_at (contents n) (head_bytes h) ms i
  byte_written i l = ap (λ bs. get_or bs i 0) (bytes_written n h ms m few)
      ∙ get_or-map-range_with_len (byte_at (contents n) (head_bytes h) ms) 0 RECORD_BYTES i i 0 l
      (omega arith)

  -- bytes that are those of the record, place by place, are the record
  pub is_written : (bytes : List ℕ) → length bytes ≡ RECORD_BYTES
      → ((i : ℕ) → i < RECORD_BYTES → get_or bytes i 0 ≡ byte_at (contents n) (head_bytes h) ms i)
      → written n h ms ≡ bytes
  is_written bytes l e = bytes_written n h ms m few
      ∙ sym (fill_by_all (byte_at (contents n) (head_bytes h) ms) bytes RECORD_BYTES 0 l e)
