-- what is written of a sound state, read again
use Rattle.std.proofs.Common.{◌≡◌, ℕ, ◌+◌, ◌-◌, ◌^◌, ◌<◌, ◌≤◌, Bool, true, false, not, ◌&&◌, cond}
use Rattle.std.proofs.Common.{List, length, map, take, drop, None, Some, Option, is_some, get_or}
use Rattle.std.proofs.Common.{refl, sym, ap, ap₂, ◌∙◌, ⊎_elim, nat_lt, nat_le, ◌==◌, arith}
use Rattle.std.proofs.Common.{ext_get_or, pow_mono}
use Rattle.std.specs.Int.{w16, w32, w64, from_le_bytes}
use Rattle.std.proofs.lemmas.Bool.{cases_lt, lt-ltb, le-ltb, lt-leb, eq-eqb, ne_eqb, and_left}
use Rattle.std.proofs.lemmas.Bool.{and_right, or_from, not_from_true, cond-true, cond-false}
use Rattle.std.proofs.lemmas.List.{get_or_past}
use Rattle.std.proofs.lemmas.Nat.{from_le_bytes-to_le_bytes_2, from_le_bytes-to_le_bytes_4}
use Rattle.std.proofs.lemmas.Nat.{from_le_bytes-to_le_bytes_8}
use Rattle.routine.specs.declared.kinds.Kind.{Kind}
use Rattle.routine.specs.declared.kinds.SignalKind.{SignalKind}
use Rattle.routine.specs.declared.tables.TheConstants.{MOST_SIGNALS, MOST_STATEMENTS}
use Rattle.routine.specs.Search.{lowest}
use Rattle.routine.specs.Tree.{tree_at}
use Rattle.routine.proofs.Searches.{lowest_none, list_any-none_passes}
use Rattle.signals.specs.declared.board.TheConstants.{SIGNALS}
use Rattle.signals.specs.Sets.{empty, word_set}
use Rattle.signals.proofs.WordSets.{word_set-zero}
use Rattle.rules.specs.Rules.{Mark, Idle, Signals, at, over}
use Rattle.rules.specs.Legal.{Legal, keeps}
use Rattle.rules.specs.Model.{word_from}
use Rattle.record.specs.declared.phases.Phase.{Phase}
use Rattle.record.specs.declared.phases.Phase.TheVariants.{Resting, Open, Over}
use Rattle.record.specs.declared.heads.Head.{Head}
use Rattle.record.specs.declared.heads.HeadFault.{HeadFault}
use Rattle.record.specs.declared.heads.HeadFault.TheVariants.{NoNumber, WrongSignals}
use Rattle.record.specs.declared.heads.TheConstants.{MOST_INSTANTS}
use Rattle.record.specs.declared.layout.TheConstants.{HEAD_START, HEAD_BYTES, MARKS_START}
use Rattle.record.specs.declared.layout.TheConstants.{RECORD_BYTES}
use Rattle.record.specs.Phases.{is_open, is_over}
use Rattle.record.specs.State.{State}
use Rattle.record.specs.Sound.{Within, Sound}
use Rattle.record.specs.Record.{contents, head_bytes, mark_byte, steps_written, word_written}
use Rattle.record.specs.Record.{written, head_of, record_of}
use Rattle.record.specs.Taking.{part, is_fixed, is_wrong, is_fixed_right, has_form, mark_in}
use Rattle.record.specs.Taking.{counted, phase_in, phase_or_resting, head_in, marks_read, marks_in}
use Rattle.record.specs.Taking.{fault_by, fault_of, head_fault, breaks, marks_fault, taking_by}
use Rattle.record.specs.Taking.{taking_refusal, state_in}
use Rattle.record.proofs.Forms.{well_formed}
use Rattle.record.proofs.Words.{word_below, set_again}
use Rattle.record.proofs.Places.{in_contents, in_head, in_marks, part_is, length_written}
use Rattle.record.proofs.Places.{byte_written}
use Rattle.record.proofs.Fields.{phase_read, mark_read, length-marks_in, at-marks_read, at-marks_in}

-- what is read from a record that was written
module _ (n : ℕ) (h : Head) (ms : List Mark) (m : length ms ≡ n) (few : n ≤ MOST_STATEMENTS) where
  in_front : (i : ℕ) → i < HEAD_START → get_or (written n h ms) i 0 ≡ get_or (contents n) i 0
  in_front i l = byte_written n h ms m few i (omega arith)
      ∙ in_contents (contents n) (head_bytes h) ms i l

  of_mark : (i : ℕ) → MARKS_START ≤ i → i < RECORD_BYTES
      → get_or (written n h ms) i 0 ≡ mark_byte (at ms (i - MARKS_START))
  of_mark i l b = byte_written n h ms m few i b ∙ in_marks (contents n) (head_bytes h) ms i l

  behind : (i : ℕ) → MARKS_START + n ≤ i → i < RECORD_BYTES
      → get_or (written n h ms) i 0 ≡ get_or (contents n) i 0
  behind i l b =
      of_mark i (omega arith) b ∙ ap mark_byte (get_or_past ms (i - MARKS_START) Idle (omega arith))
      ∙ sym (get_or_past (contents n) i 0 (omega arith))

  right_there : (i : ℕ) → get_or (written n h ms) i 0 ≡ get_or (contents n) i 0
      → is_wrong n (written n h ms) i ≡ false
  right_there i e = and_right (is_fixed n i) _
      (not_from_true _ (eq-eqb (get_or (written n h ms) i 0) (get_or (contents n) i 0) e))

  nothing_wrong : (i : ℕ) → i < RECORD_BYTES → is_wrong n (written n h ms) i ≡ false
  nothing_wrong i l =
      ⊎_elim
      (λ a. right_there i (in_front i a))
      (λ (a : HEAD_START ≤ i). ⊎_elim
      (λ (b : i < MARKS_START + n). and_left (is_fixed n i) _
      (or_from (nat_lt i HEAD_START) (nat_le (MARKS_START + n) i) (le-ltb i HEAD_START a)
      (lt-leb (MARKS_START + n) i b)))
      (λ b. right_there i (behind i b l))
      (cases_lt i (MARKS_START + n)))
      (cases_lt i HEAD_START)

  fixed_written : is_fixed_right n (written n h ms) ≡ true
  unfolding is_fixed_right
  fixed_written =
      ap not (list_any-none_passes (is_wrong n (written n h ms)) RECORD_BYTES nothing_wrong)

  form_written : has_form n (written n h ms) ≡ true
  form_written = well_formed n (written n h ms) (length_written n h ms m few) fixed_written

  head_written : part (written n h ms) HEAD_BYTES HEAD_START ≡ head_bytes h
  head_written =
      part_is (written n h ms) (head_bytes h) HEAD_BYTES HEAD_START refl
      (λ k l. let j : HEAD_START + k - HEAD_START ≡ k = omega arith in
      byte_written n h ms m few (HEAD_START + k) (omega arith)
      ∙ in_head (contents n) (head_bytes h) ms (HEAD_START + k) (omega arith) (omega arith)
      ∙ ap (λ i. get_or (head_bytes h) i 0) j)

  mark_written : (i : ℕ) → i < MOST_STATEMENTS
      → get_or (written n h ms) (MARKS_START + i) 0 ≡ mark_byte (at ms i)
  mark_written i l = let j : MARKS_START + i - MARKS_START ≡ i = omega arith in
      of_mark (MARKS_START + i) (omega arith) (omega arith) ∙ ap (λ k. mark_byte (at ms k)) j

  phase_said : phase_in (get_or (written n h ms) HEAD_START 0) ≡ Some h.phase
  phase_said = ap (λ bs. phase_in (get_or bs 0 0)) head_written ∙ phase_read h.phase

  -- each statement has a mark
  mark_said : (i : ℕ) → i < n
      → is_some (get_or (marks_read n (written n h ms)) i (Some Idle)) ≡ true
  mark_said i l = ap is_some
      (at-marks_read n (written n h ms) i l ∙ ap mark_in (mark_written i (omega arith))
      ∙ mark_read (at ms i))

  marks_same : marks_in n (written n h ms) ≡ ms
  marks_same =
      ext_get_or Idle (marks_in n (written n h ms)) ms (length-marks_in n (written n h ms) ∙ sym m)
      (λ i b. let l : i < n = omega (arith, length-marks_in n (written n h ms)) in
      at-marks_in n (written n h ms) i l
      ∙ ap (λ b. counted (mark_in b)) (mark_written i (omega arith))
      ∙ ap counted (mark_read (at ms i)))

  head_read : h.closed < 2 ^ 32 → h.steps < 2 ^ 16 → h.present < 2 ^ 64
      → head_in (written n h ms) ≡ h
  unfolding head_in
  head_read c s w =
      let bs = head_written in
      let p = ap phase_or_resting phase_said in
      let a = ap (λ xs. from_le_bytes w32 (take 4 (drop 1 xs))) bs
      ∙ from_le_bytes-to_le_bytes_4 h.closed c in
      let b = ap (λ xs. from_le_bytes w16 (take 2 (drop 5 xs))) bs
      ∙ from_le_bytes-to_le_bytes_2 h.steps s in
      let d = ap (λ xs. from_le_bytes w64 (drop 7 xs)) bs
      ∙ from_le_bytes-to_le_bytes_8 h.present w in
      λ i. record { phase = p i; closed = a i; steps = b i; present = d i }

-- what the fields of a sound state come to
steps_kept : (p : Phase) (steps : ℕ) → (is_open p ≡ false → steps ≡ 0)
    → steps_written p steps ≡ steps
steps_kept Resting steps no_steps = sym (no_steps refl)
steps_kept Open steps no_steps = refl
steps_kept Over steps no_steps = sym (no_steps refl)

set_kept : (p : Phase) (g : ℕ) (e : Signals) → (is_open p ≡ false → e ≡ empty) → Within g e
    → length e ≡ SIGNALS → word_set (word_written p g e) ≡ e
set_kept Resting g e no_signals h l = word_set-zero ∙ sym (no_signals refl)
set_kept Open g e no_signals h l = set_again e g l h
set_kept Over g e no_signals h l = word_set-zero ∙ sym (no_signals refl)

-- the present word that is written fits 64 bits
pub word_fits : (p : Phase) (g : ℕ) (e : Signals) → g ≤ MOST_SIGNALS → word_written p g e < 2 ^ 64
word_fits Resting g e few = omega arith
word_fits Open g e few = omega (arith, word_below (λ s. get_or e s false) g 0, pow_mono few)
word_fits Over g e few = omega arith

-- the head of such a state has no fault
pub no_fault : (p : Phase) (g closed steps : ℕ) (e : Signals)
    → (is_open p ≡ true → closed < MOST_INSTANTS)
    → fault_by p g (record {
      phase = p;
      closed = closed;
      steps = steps_written p steps;
      present = word_written p g e;
    }) ≡ None
no_fault Resting g closed steps e room = refl
no_fault Open g closed steps e room =
    let r = room refl in
    let w = word_from (λ s. get_or e s false) g 0 in
    cond-false (closed == MOST_INSTANTS) (Some NoNumber)
    (cond (nat_lt w (2 ^ g)) None (Some WrongSignals))
    (ne_eqb closed MOST_INSTANTS (λ q. absurd (omega arith)))
    ∙ cond-true (nat_lt w (2 ^ g)) None (Some WrongSignals)
    (lt-ltb w (2 ^ g) (word_below (λ s. get_or e s false) g 0))
no_fault Over g closed steps e room = refl

-- statement i breaks no rule
unbroken : (ks : List Kind) (p : Phase) (ms : List (Option Mark)) (i : ℕ)
    → is_some (get_or ms i (Some Idle)) ≡ true → keeps (is_open p) ks (map counted ms) i ≡ true
    → (is_over p ≡ true → over (tree_at ks 0) (map counted ms) ≡ true) → breaks ks p ms i ≡ false
unbroken ks p ms i l k f =
    or_from (not (is_some (get_or ms i (Some Idle)))) _ (not_from_true _ l)
    (or_from (not (keeps (is_open p) ks (map counted ms) i)) _ (not_from_true _ k)
    (and_right (i == 0) _ (ended (is_over p) (over (tree_at ks 0) (map counted ms)) f)))
  where
    ended : (a b : Bool) → (a ≡ true → b ≡ true) → (a && not b) ≡ false
    ended true b h = not_from_true b (h refl)
    ended false b h = refl

-- what is read then passes both tests
head_passes : (g : ℕ) (bytes : List ℕ) (h : Head) → head_in bytes ≡ h
    → phase_in (get_or bytes HEAD_START 0) ≡ Some h.phase → fault_by h.phase g h ≡ None
    → head_fault g bytes ≡ None
unfolding head_fault
head_passes g bytes h e p f = ap₂ (λ (o : Option Phase) (k : Head). fault_of o g k) p e ∙ f

marks_pass : (ks : List Kind) (bytes : List ℕ) (h : Head) → head_in bytes ≡ h
    → ((i : ℕ) → i < length ks → breaks ks h.phase (marks_read (length ks) bytes) i ≡ false)
    → marks_fault ks bytes ≡ None
unfolding marks_fault
marks_pass ks bytes h e b =
    ap (λ (k : Head). lowest (breaks ks k.phase (marks_read (length ks) bytes)) (length ks)) e
    ∙ lowest_none (breaks ks h.phase (marks_read (length ks) bytes)) (length ks) b

passed : (b : Bool) (h : Option HeadFault) (m : Option ℕ) → b ≡ true → h ≡ None → m ≡ None
    → taking_by b h m ≡ None
passed b h m e f g = ap₂ (λ c k. taking_by c k m) e f ∙ ap (taking_by true None) g

-- the state that the bytes say, for that head and those marks
state_read : (n : ℕ) (bytes : List ℕ) (h : Head) (ms : List Mark) → head_in bytes ≡ h
    → marks_in n bytes ≡ ms
    → state_in n bytes ≡ record {
      phase = h.phase;
      closed = h.closed;
      steps = h.steps;
      marks = ms;
      present = word_set h.present;
    }
unfolding head_in
state_read n bytes h ms e f =
    λ i. record {
      phase = (e i).phase;
      closed = (e i).closed;
      steps = (e i).steps;
      marks = f i;
      present = word_set (e i).present;
    }

-- the record of a head without a fault, over legal marks
module _ (gs : List SignalKind) (ks : List Kind) (h : Head) (ms : List Mark)
    (most : length ks ≤ MOST_STATEMENTS) (closed : h.closed < 2 ^ 32) (steps : h.steps < 2 ^ 16)
    (word : h.present < 2 ^ 64) (fine : fault_by h.phase (length gs) h ≡ None)
    (legal : Legal (is_open h.phase) ks ms)
    (finished : is_over h.phase ≡ true → over (tree_at ks 0) ms ≡ true) where
  abbrev bs : List ℕ
  bs = written (length ks) h ms

  none_breaks : (i : ℕ) → i < length ks → breaks ks h.phase (marks_read (length ks) bs) i ≡ false
  none_breaks i l =
      let e = marks_same (length ks) h ms legal.many most in
      unbroken ks h.phase (marks_read (length ks) bs) i
      (mark_said (length ks) h ms legal.many most i l)
      (ap (λ ns. keeps (is_open h.phase) ks ns i) e ∙ legal.each i l)
      (λ o. ap (over (tree_at ks 0)) e ∙ finished o)

  -- it is accepted
  pub is_taken : taking_refusal gs ks bs ≡ None
  is_taken =
      let e = head_read (length ks) h ms legal.many most closed steps word in
      passed (has_form (length ks) bs) (head_fault (length gs) bs) (marks_fault ks bs)
      (form_written (length ks) h ms legal.many most)
      (head_passes (length gs) bs h e (phase_said (length ks) h ms legal.many most) fine)
      (marks_pass ks bs h e none_breaks)

module _ (gs : List SignalKind) (ks : List Kind) (s : State) (most : length ks ≤ MOST_STATEMENTS)
    (few : length gs ≤ MOST_SIGNALS) (sound : Sound gs ks s) where
  abbrev h : Head
  h = head_of (length gs) s

  abbrev bytes : List ℕ
  bytes = record_of (length gs) (length ks) s

  steps_small : h.steps < 2 ^ 16
  steps_small = let e = steps_kept s.phase s.steps sound.no_steps in let f = sound.steps_fit in
      omega arith

  word_small : h.present < 2 ^ 64
  word_small = word_fits s.phase (length gs) s.present few

  head_said : head_in bytes ≡ h
  head_said =
      head_read (length ks) h s.marks sound.legal.many most sound.closed_fits steps_small word_small

  marks_said : marks_in (length ks) bytes ≡ s.marks
  marks_said = marks_same (length ks) h s.marks sound.legal.many most

  taken : taking_refusal gs ks bytes ≡ None
  taken =
      is_taken gs ks h s.marks most sound.closed_fits steps_small word_small
      (no_fault s.phase
      (length gs) s.closed s.steps s.present sound.room) sound.legal sound.finished

  said : state_in (length ks) bytes ≡ s
  said =
      let p = steps_kept s.phase s.steps sound.no_steps in
      let q = set_kept s.phase (length gs) s.present sound.no_signals sound.within sound.sized in
      state_read (length ks) bytes h s.marks head_said marks_said
      ∙ (λ i. record {
        phase = s.phase;
        closed = s.closed;
        steps = p i;
        marks = s.marks;
        present = q i;
      })

-- the record of a sound state is accepted, and says that state
pub restored : (gs : List SignalKind) (ks : List Kind) (s : State) → length ks ≤ MOST_STATEMENTS
    → length gs ≤ MOST_SIGNALS → Sound gs ks s
    → (taking_refusal gs ks (record_of (length gs) (length ks) s) ≡ None)
    × (state_in (length ks) (record_of (length gs) (length ks) s) ≡ s)
restored gs ks s most few sound = (taken gs ks s most few sound, said gs ks s most few sound)
