-- what a writer of marks leaves as it is
use Rattle.std.proofs.Common.{ℕ, List, length, ◌≡◌, set, length-set, get_or-set_other, subst, sym}
use Rattle.std.proofs.Common.{arith, ap, refl, inl, inr, ◌<◌, get_or-set_same, ◌∙◌}
use Rattle.routine.proofs.Once.{Distinct}
use Rattle.routine.proofs.Trees.{In}
use Rattle.rules.specs.Rules.{Mark, at, Idle, Tree, begun, leaf, one, UnderWay, Waiting, two, idled}
use Rattle.rules.specs.Rules.{leaf_begun, over}
use Rattle.rules.proofs.MarkedTrees.{mleaf, begin, rest, is_over}
use Rattle.rules.proofs.MarksIntoTrees.{marked}

-- ns has the marks of ms but at numbers of which P holds
pub record Kept (P : ℕ → Type 0) (ms ns : List Mark) : Type 0 where
  pub length : length ns ≡ length ms
  pub other : (i : ℕ) → ¬ (P i) → at ns i ≡ at ms i

-- a write at n
kept_set : (P : ℕ → Type 0) (ms : List Mark) (n : ℕ) (m : Mark) → P n → Kept P ms (set ms n m)
kept_set P ms n m h = record {
  length = length-set ms n m;
  other = λ i d. get_or-set_other ms n i m Idle (λ e. d (subst P (sym e) h));
}

-- to begin a tree, and to idle it, changes marks inside it alone
pub begun_kept : (t : Tree) (ms : List Mark) → Kept (In t) ms (begun t ms)
begun_kept (leaf n k) ms = grind (arith, length-set, get_or-set_other)
begun_kept (one n k p) ms = let h = begun_kept p (set ms n UnderWay) in
    let g = begun_kept p (set ms n Waiting) in grind (arith, length-set, get_or-set_other)
begun_kept (two n k p q) ms =
    let h = begun_kept p (set ms n UnderWay) in
    let g = begun_kept q (begun p (set ms n UnderWay)) in
    grind (arith, length-set, get_or-set_other)

pub idled_kept : (t : Tree) (ms : List Mark) → Kept (In t) ms (idled t ms)
idled_kept (leaf n k) ms = grind (arith, length-set, get_or-set_other)
idled_kept (one n k p) ms = let h = idled_kept p (set ms n Idle) in
    grind (arith, length-set, get_or-set_other)
idled_kept (two n k p q) ms =
    let h = idled_kept p (set ms n Idle) in
    let g = idled_kept q (idled p (set ms n Idle)) in
    grind (arith, length-set, get_or-set_other)

-- equal marks inside make equal trees
frame : (t : Tree) (ms ns : List Mark) → ((i : ℕ) → In t i → at ns i ≡ at ms i)
    → marked t ns ≡ marked t ms
frame (leaf n k) ms ns h = ap (mleaf n k) (h n refl)
frame (one n k p) ms ns h = let a = h n (inl refl) in let b = frame p ms ns (λ i x. h i (inr x)) in
    cc
frame (two n k p q) ms ns h =
    let a = h n (inl refl) in
    let b = frame p ms ns (λ i x. h i (inr (inl x))) in
    let c = frame q ms ns (λ i x. h i (inr (inr x))) in
    cc

-- a writer of other numbers does not show
pub unseen : {P : ℕ → Type 0} (t : Tree) (ms ns : List Mark) → Kept P ms ns
    → ((i : ℕ) → In t i → ¬ (P i)) → marked t ns ≡ marked t ms
unseen t ms ns k d = frame t ms ns (λ i h. k.other i (d i h))

-- nor does a write at a number outside it
pub unset : (t : Tree) (ms : List Mark) (n : ℕ) (m : Mark) → ¬ (In t n)
    → marked t (set ms n m) ≡ marked t ms
unset t ms n m d = unseen {P = λ i. i ≡ n} t ms (set ms n m) (kept_set (λ i. i ≡ n) ms n m refl)
    (λ i h e. d (subst (In t) e h))

module _ (N : ℕ) where
  -- the numbers of a tree are below N
  abbrev pub Fits : Tree → Type 0
  Fits t = (i : ℕ) → In t i → i < N

  -- to begin a tree over a list is to begin the tree with its marks
  pub begun_same : (t : Tree) (ms : List Mark) → Distinct t → Fits t → length ms ≡ N
      → marked t (begun t ms) ≡ begin (marked t ms)
  begun_same (leaf n k) ms d f e =
      ap (mleaf n k) (get_or-set_same ms n (leaf_begun k) Idle (let a = f n refl in omega arith))
  begun_same (one n k p) ms d f e =
      let l : n < length ms = let a = f n (inl refl) in omega arith in
      let a = λ (m : Mark). get_or-set_same ms n m Idle l in
      let b = λ (m : Mark). unset p ms n m d.0 in
      let c = λ (m : Mark). begun_same p (set ms n m) d.1 (λ i h. f i (inr h))
      (length-set ms n m ∙ e) in
      let o = λ (m : Mark). (begun_kept p (set ms n m)).other n d.0 in
      grind arith
  begun_same (two n k p q) ms d f e =
      let l : n < length ms = let a = f n (inl refl) in omega arith in
      let ns = set ms n UnderWay in
      let a = λ (m : Mark). get_or-set_same ms n m Idle l in
      let b = λ (m : Mark). unset p ms n m d.0 in
      let b' = λ (m : Mark). unset q ms n m d.1 in
      let c = begun_same p ns d.3 (λ i h. f i (inr (inl h))) (length-set ms n UnderWay ∙ e) in
      let c' = begun_same q (begun p ns) d.4 (λ i h. f i (inr (inr h)))
      ((begun_kept p ns).length ∙ length-set ms n UnderWay ∙ e) in
      let o = (begun_kept p ns).other n d.0 in
      let o' = (begun_kept q (begun p ns)).other n d.1 in
      let u = unseen q ns (begun p ns) (begun_kept p ns) (λ i h g. d.2 i g h) in
      let u' = unseen p (begun p ns) (begun q (begun p ns)) (begun_kept q (begun p ns)) d.2 in
      grind arith

  -- and so it is to idle it
  pub idled_same : (t : Tree) (ms : List Mark) → Distinct t → Fits t → length ms ≡ N
      → marked t (idled t ms) ≡ rest (marked t ms)
  idled_same (leaf n k) ms d f e =
      ap (mleaf n k) (get_or-set_same ms n Idle Idle (let a = f n refl in omega arith))
  idled_same (one n k p) ms d f e =
      let ns = set ms n Idle in
      let a = get_or-set_same ms n Idle Idle (let a = f n (inl refl) in omega arith) in
      let b = unset p ms n Idle d.0 in
      let c = idled_same p ns d.1 (λ i h. f i (inr h)) (length-set ms n Idle ∙ e) in
      let o = (idled_kept p ns).other n d.0 in
      cc
  idled_same (two n k p q) ms d f e =
      let ns = set ms n Idle in
      let a = get_or-set_same ms n Idle Idle (let a = f n (inl refl) in omega arith) in
      let b = unset p ms n Idle d.0 in
      let b' = unset q ms n Idle d.1 in
      let c = idled_same p ns d.3 (λ i h. f i (inr (inl h))) (length-set ms n Idle ∙ e) in
      let c' = idled_same q (idled p ns) d.4 (λ i h. f i (inr (inr h)))
      ((idled_kept p ns).length ∙ length-set ms n Idle ∙ e) in
      let o = (idled_kept p ns).other n d.0 in
      let o' = (idled_kept q (idled p ns)).other n d.1 in
      let u = unseen q ns (idled p ns) (idled_kept p ns) (λ i h g. d.2 i g h) in
      let u' = unseen p (idled p ns) (idled q (idled p ns)) (idled_kept q (idled p ns)) d.2 in
      cc

-- and whether it is over
pub over_same : (t : Tree) (ms : List Mark) → over t ms ≡ is_over (marked t ms)
over_same (leaf n k) ms = refl
over_same (one n k p) ms = refl
over_same (two n k p q) ms = let a = over_same p ms in let b = over_same q ms in cc
