-- where all marks are idle
use Rattle.std.proofs.Common.{ℕ, replicate, ◌≡◌, zero, refl, suc, List, ap, sym, inl, inr}
use Rattle.routine.proofs.Trees.{In}
use Rattle.rules.specs.Rules.{at, Idle, Tree, Mark, leaf, one, two}
use Rattle.rules.proofs.MarkedTrees.{rest, mleaf}
use Rattle.rules.proofs.MarksIntoTrees.{marked}

-- a row of idle marks, also past its end
pub all_idle : (n i : ℕ) → at (replicate n Idle) i ≡ Idle
all_idle zero i = refl
all_idle (suc n) zero = refl
all_idle (suc n) (suc i) = all_idle n i

-- a tree whose marks are idle already is left as it is
pub rest_idle : (t : Tree) (ms : List Mark) → ((i : ℕ) → In t i → at ms i ≡ Idle)
    → rest (marked t ms) ≡ marked t ms
rest_idle (leaf n k) ms h = ap (mleaf n k) (sym (h n refl))
rest_idle (one n k p) ms h =
    let a = h n (inl refl) in
    let b = rest_idle p ms (λ i u. h i (inr u)) in
    cc
rest_idle (two n k p q) ms h =
    let a = h n (inl refl) in
    let b = rest_idle p ms (λ i u. h i (inr (inl u))) in
    let c = rest_idle q ms (λ i u. h i (inr (inr u))) in
    cc
