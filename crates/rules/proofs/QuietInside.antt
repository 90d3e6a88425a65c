-- nothing is ready inside what is over or inside what is ready, straight from the legal marks
use Rattle.std.proofs.Common.{◌≡◌, false, arith, Bool, true, ◌||◌, inl, inr, ℕ, ◌⊎◌}
use Rattle.rules.specs.Legal.{two_legal}
use Rattle.rules.specs.Rules.{Mark, Two, is_done, two_over, Signals, sequence, parallel, when, One}
use Rattle.rules.proofs.MarkedTrees.{Marked, LegalTree, live, Over, mleaf, mone, mtwo, is_over, Pos}
use Rattle.rules.proofs.MarkedTrees.{ReadyAt, ReadyOne, Opened, ReadyTwo}

-- what is idle is not over
pub idle_not_over : (t : Marked) → LegalTree t → live t ≡ false → ¬ (Over t)
idle_not_over (mleaf n k m) l b o = grind arith
idle_not_over (mone n k m p) l b o = grind arith
idle_not_over (mtwo n k m p q) l b o = let h = idle_not_over p in let g = idle_not_over q in
    grind arith

over_two : (m : Mark) (k : Two) (b c x : Bool) → two_legal m k b c ≡ true → (is_done m || x) ≡ true
    → x ≡ true
over_two m k b c x g h = grind arith

-- what the test finds over is over, where marks are legal
pub over_says : (t : Marked) → LegalTree t → is_over t ≡ true → Over t
over_says (mleaf n k m) l h = grind arith
over_says (mone n k m p) l h = grind arith
over_says (mtwo n k m p q) l h =
    let a = over_says p l.1 in
    let b = over_says q l.2 in
    let g = over_two m k (live p) (live q) (two_over k (is_over p) (is_over q)) l.0 h in
    at k (is_over p) (is_over q) a b g
  where
    at : (k : Two) (b c : Bool) → (b ≡ true → Over p) → (c ≡ true → Over q) → two_over k b c ≡ true
        → Over (mtwo n k m p q)
    at k b c f g h = grind arith

-- and back, whatever the marks
pub over_is : (t : Marked) → Over t → is_over t ≡ true
over_is (mleaf n k m) o = grind arith
over_is (mone n k m p) o = grind arith
over_is (mtwo n k m p q) o = let a = over_is p in let b = over_is q in grind arith

-- what is idle is not over, by the test
pub idle_over : (t : Marked) → LegalTree t → live t ≡ false → ¬ (is_over t ≡ true)
idle_over t l b o = idle_not_over t l b (over_says t l o)

module _ (e : Signals) where
  -- nothing is ready inside what is idle
  pub idle_quiet : (t : Marked) → LegalTree t → live t ≡ false → (x : Pos) → ¬ (ReadyAt e t x)
  idle_quiet (mleaf n k m) l b x r = grind arith
  idle_quiet (mone n k m p) l b x r = let h = idle_quiet p in grind arith
  idle_quiet (mtwo n k m p q) l b x r = let h = idle_quiet p in let g = idle_quiet q in grind arith

  -- nor inside what is over
  pub over_quiet : (t : Marked) → LegalTree t → Over t → (x : Pos) → ¬ (ReadyAt e t x)
  over_quiet (mleaf n k m) l o x r = grind arith
  over_quiet (mone n k m p) l o x r = let h = idle_quiet p in grind arith
  over_quiet (mtwo n sequence m p q) l o x r =
      let g = over_quiet q in let i = idle_quiet p in let u = idle_not_over p in
      let v = idle_not_over q in
      grind arith
  over_quiet (mtwo n parallel m p q) l o x r = let h = over_quiet p in let g = over_quiet q in
      let u = idle_not_over p in grind arith
  over_quiet (mtwo n (when s) m p q) l (inl o) x r =
      let h = over_quiet p in let j = idle_quiet q in let u = idle_not_over p in
      grind arith
  over_quiet (mtwo n (when s) m p q) l (inr o) x r =
      let h = over_quiet q in let j = idle_quiet p in let u = idle_not_over q in
      grind arith

  -- nor inside what is ready
  pub one_alone : (n : ℕ) (k : One) (m : Mark) (p : Marked) → LegalTree (mone n k m p)
      → ReadyOne m k p → Opened m k → (x : Pos) → ¬ (ReadyAt e p x)
  one_alone n k m p l r o x r' = let h = idle_quiet p in let g = over_quiet p in grind arith

  -- the same for two parts
  pub two_alone : (n : ℕ) (k : Two) (m : Mark) (p q : Marked) → LegalTree (mtwo n k m p q)
      → ReadyTwo e m k p → (x : Pos) → ¬ (ReadyAt e p x ⊎ ReadyAt e q x)
  two_alone n k m p q l r x r' =
      let h = idle_quiet p in let g = idle_quiet q in let o = over_quiet p in
      let u = idle_not_over p in
      grind arith
