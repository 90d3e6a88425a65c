-- entries read one after another
use Rattle.std.proofs.Common.{◌≡◌, ℕ, zero, suc, ◌+◌, ◌-◌, ◌*◌, ◌<◌, ◌≤◌, Bool, true, false, cond}
use Rattle.std.proofs.Common.{List, [], ◌∷◌, ◌++◌, length, get_or, take, drop, Some, None, Ok, Err}
use Rattle.std.proofs.Common.{Option, Result, sym, refl, ap, ◌∙◌, subst, arith}
use Rattle.std.proofs.lemmas.List.{append_assoc, take_rest}
use Rattle.routine.specs.declared.kinds.SignalKind.{SignalKind}
use Rattle.routine.specs.declared.kinds.Kind.{Kind}
use Rattle.routine.specs.declared.kinds.Statement.{Statement}
use Rattle.routine.specs.declared.refusals.Refusal.{Refusal}
use Rattle.routine.specs.declared.refusals.Refusal.TheVariants.{StatementRecord}
use Rattle.routine.specs.Kinds.{fresh, kinds, kind_at}
use Rattle.routine.specs.Layout.{onto, signal_kind, spelled, fits, fitting, signals_from}
use Rattle.routine.specs.Layout.{records_from}

-- what all entries say, where the first of them said ms
abbrev pub after : {A : Type 0} → List A → Result (List A) Refusal → Result (List A) Refusal
after ms (Ok xs) = Ok (ms ++ xs)
after ms (Err e) = Err e

one_on : {A : Type 0} (ms : List A) (x : A) (r : Result (List A) Refusal) (e : Refusal)
    → after (ms ++ x ∷ []) r ≡ after ms (onto e (Some x) r)
one_on ms x (Ok xs) e = ap Ok (append_assoc ms (x ∷ []) xs)
one_on ms x (Err j) e = refl

-- an entry that says x is read
more : {A : Type 0} (ms ns : List A) (x : A) (o : Option A) (r d all : Result (List A) Refusal)
    (e : Refusal)
    → o ≡ Some x → ns ≡ ms ++ x ∷ [] → d ≡ onto e o r → after ms d ≡ all → after ns r ≡ all
more ms ns x o r d all e says n step h =
    ap (λ k. after k r) n ∙ one_on ms x r e ∙ ap (λ p. after ms (onto e p r)) (sym says)
    ∙ ap (after ms) (sym step) ∙ h

module _ (g n i : ℕ) where
  records_step : (bytes : List ℕ) → 4 ≤ length bytes
      → records_from g n i bytes
      ≡ onto (StatementRecord i)
      (fitting g n i (spelled (get_or bytes 0 0) (get_or bytes 1 0) (get_or bytes 2 0)
      (get_or bytes 3 0))) (records_from g n (i + 1) (drop 4 bytes))
  records_step [] l = absurd (omega arith)
  records_step (a ∷ []) l = absurd (omega arith)
  records_step (a ∷ (b ∷ [])) l = absurd (omega arith)
  records_step (a ∷ (b ∷ (c ∷ []))) l = absurd (omega arith)
  records_step (a ∷ (b ∷ (c ∷ (d ∷ rest)))) l = refl

  module _ (bytes : List ℕ) (l : 4 ≤ length bytes) (ms : List Statement)
      (all : Result (List Statement) Refusal)
      (h : after ms (records_from g n i bytes) ≡ all) where
    abbrev said : Option Kind
    said = spelled (get_or bytes 0 0) (get_or bytes 1 0) (get_or bytes 2 0) (get_or bytes 3 0)

    -- a record that is read and fits is one more statement
    pub records_more : (ns : List Statement) (k : Kind) (x : Statement) (m : ℕ) → Some k ≡ said
        → true ≡ fits g n i k → x ≡ fresh k → ns ≡ ms ++ x ∷ [] → m ≡ i + 1
        → after ns (records_from g n m (take (length bytes - 4) (drop 4 bytes))) ≡ all
    records_more ns k x m says fit new e j =
        rw (j, take_rest bytes 4)
        (more ms ns (fresh k) _ _ _ all _
        (ap (fitting g n i) (sym says) ∙ ap (λ b. cond b (Some (fresh k)) None) (sym fit))
        (rw new at e) (records_step bytes l) h)

-- where all entries say something
pub record Both {A : Type 0} (o : Option A) (r : Result (List A) Refusal)
    (xs : List A) : Type 0 where
  pub head : A
  pub tail : List A
  pub here : o ≡ Some head
  pub rest : r ≡ Ok tail
  pub whole : xs ≡ head ∷ tail

onto_ok : {A : Type 0} (e : Refusal) (o : Option A) (r : Result (List A) Refusal) (xs : List A)
    → onto e o r ≡ Ok xs → Both o r xs
onto_ok e None r xs h = absurd (let z : ◌≡◌ {A = ℕ} 0 1 = cc in omega arith)
onto_ok e (Some x) (Ok ys) xs h =
    record { head = x; tail = ys; here = refl; rest = refl; whole = cc }
onto_ok e (Some x) (Err d) xs h = absurd (let z : ◌≡◌ {A = ℕ} 0 1 = cc in omega arith)

-- as many signals as bytes
pub signals_length : (bytes : List ℕ) (i : ℕ) (xs : List SignalKind) → signals_from i bytes ≡ Ok xs
    → length xs ≡ length bytes
signals_length [] i xs h = let e : xs ≡ [] = cc in ap length e
signals_length (b ∷ bs) i xs h =
    let u = onto_ok _ (signal_kind b) (signals_from (i + 1) bs) xs h in
    let l = signals_length bs (i + 1) u.tail u.rest in
    ap length u.whole ∙ ap suc l

module _ (g n : ℕ) where
  fits_said : (i : ℕ) (o : Option Kind) (x : Statement) → fitting g n i o ≡ Some x
      → fits g n i x.kind ≡ true
  fits_said i None x h = absurd (let z : ◌≡◌ {A = ℕ} 0 1 = cc in omega arith)
  fits_said i (Some k) x h = at (fits g n i k) refl h
    where
      at : (b : Bool) → fits g n i k ≡ b → cond b (Some (fresh k)) None ≡ Some x
          → fits g n i x.kind ≡ true
      at true e h = let f : fresh k ≡ x = cc in
          ap (λ (y : Statement). fits g n i y.kind) (sym f) ∙ e
      at false e h = absurd (let z : ◌≡◌ {A = ℕ} 0 1 = cc in omega arith)

  -- a statement for every four bytes
  pub records_length : (bytes : List ℕ) (i m : ℕ) (xs : List Statement)
      → records_from g n i bytes ≡ Ok xs → length bytes ≡ 4 * m → length xs ≡ m
  records_length [] i m xs h l = let e : xs ≡ [] = cc in ap length e ∙ omega arith
  records_length (a ∷ []) i m xs h l = absurd (omega arith)
  records_length (a ∷ (b ∷ [])) i m xs h l = absurd (omega arith)
  records_length (a ∷ (b ∷ (c ∷ []))) i m xs h l = absurd (omega arith)
  records_length (a ∷ (b ∷ (c ∷ (d ∷ rest)))) i m xs h l =
      let u = onto_ok _ (fitting g n i (spelled a b c d)) (records_from g n (i + 1) rest) xs h in
      let e = records_length rest (i + 1) (m - 1) u.tail u.rest (omega arith) in
      ap length u.whole ∙ omega arith

  -- each statement that is read fits
  pub records_fit : (bytes : List ℕ) (i : ℕ) (xs : List Statement)
      → records_from g n i bytes ≡ Ok xs
      → (k : ℕ) → k < length xs → fits g n (i + k) (kind_at (kinds xs) k) ≡ true
  records_fit [] i xs h k l = let e : xs ≡ [] = cc in let f = ap length e in absurd (omega arith)
  records_fit (a ∷ []) i xs h k l = let e : xs ≡ [] = cc in let f = ap length e in
      absurd (omega arith)
  records_fit (a ∷ (b ∷ [])) i xs h k l = let e : xs ≡ [] = cc in let f = ap length e in
      absurd (omega arith)
  records_fit (a ∷ (b ∷ (c ∷ []))) i xs h k l = let e : xs ≡ [] = cc in let f = ap length e in
      absurd (omega arith)
  records_fit (a ∷ (b ∷ (c ∷ (d ∷ rest)))) i xs h k l =
      let u = onto_ok _ (fitting g n i (spelled a b c d)) (records_from g n (i + 1) rest) xs h in
      subst (λ ys. fits g n (i + k) (kind_at (kinds ys) k) ≡ true) (sym u.whole)
      (at k u.head u.tail (subst (λ ys. k < length ys) u.whole l)
      (fits_said i (spelled a b c d) u.head u.here) (records_fit rest (i + 1) u.tail u.rest))
    where
      at : (k : ℕ) (x : Statement) (ys : List Statement) → k < length (x ∷ ys)
          → fits g n i x.kind ≡ true
          → ((j : ℕ) → j < length ys → fits g n (i + 1 + j) (kind_at (kinds ys) j) ≡ true)
          → fits g n (i + k) (kind_at (kinds (x ∷ ys)) k) ≡ true
      at zero x ys l f r = subst (λ (j : ℕ). fits g n j x.kind ≡ true) (omega arith) f
      at (suc j) x ys l f r = subst (λ (m : ℕ). fits g n m (kind_at (kinds ys) j) ≡ true)
          (omega arith) (r j (omega arith))
