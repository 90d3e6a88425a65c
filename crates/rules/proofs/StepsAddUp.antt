-- the theorems StepsAddUp and SameOutcome: the steps of a run are counted statement by statement,
-- so what a run comes to is what the model says
use Rattle.std.proofs.Common.{ℕ, sum, map, suc, ◌≡◌, ◌+◌, arith, ap, ◌∙◌, zero, refl, List}
use Rattle.std.proofs.Common.{count_by, ◌==◌, ◌∷◌, cond, ◌≤◌, ◌<◌, subst, All, length, [], sym}
use Rattle.std.proofs.lemmas.Bool.{eq-eqb, ne_eqb}
use Rattle.std.proofs.lemmas.List.Elements.{All-tail, All-head, All-nil, All-cons}
use Rattle.std.proofs.lemmas.List.FromFn.{sum_by-map-range_with_len_more}
use Rattle.std.proofs.lemmas.List.Sums.{sum_by-cons}
use Rattle.std.proofs.Math.Decide.{ℕ_discrete}
use Rattle.std.specs.List.{range_with_len}
use Rattle.signals.specs.Sets.{word_set}
use Rattle.routine.specs.declared.kinds.Kind.{Kind}
use Rattle.routine.specs.declared.kinds.SignalKind.{SignalKind}
use Rattle.routine.specs.Tree.{tree_at}
use Rattle.rules.specs.Model.{times_of, Config, Ready, stepped, path, enough, outputs_of, status_of}
use Rattle.rules.specs.Rules.{over, ended}
use Rattle.rules.specs.Runs.{Run, still, then}
use Rattle.rules.specs.Theorems.{Checked, StepsAddUp, SameOutcome}
use Rattle.rules.proofs.StepsOnTrees.{ready_below}
use Rattle.rules.proofs.MarksStayLegal.{marks_stay_legal}
use Rattle.rules.proofs.InstantEnds.{instant_ends}
use Rattle.rules.proofs.OrderNeverShows.{order_never_shows}

-- f summed over the numbers below n
abbrev summed : (ℕ → ℕ) → ℕ → ℕ
summed f n = sum (map f (range_with_len 0 n))

summed_more : (f : ℕ → ℕ) (n : ℕ) → summed f (suc n) ≡ summed f n + f n
summed_more f n =
    let e : suc n ≡ n + 1 = omega arith in
    ap (summed f) e ∙ sum_by-map-range_with_len_more (λ x. x) f 0 n n (omega arith)

none_counted : (n : ℕ) → summed (λ i. 0) n ≡ 0
none_counted zero = refl
none_counted (suc n) =
    let h = none_counted n in
    let g = summed_more (λ i. 0) n in
    omega arith

-- one more step of statement j adds one, once the sum has come past j
module _ (j : ℕ) (w : List ℕ) where
  abbrev before : ℕ → ℕ
  before i = count_by (λ k. k == i) w

  abbrev now : ℕ → ℕ
  now i = count_by (λ k. k == i) (j ∷ w)

  one_counted : (i : ℕ) → now i ≡ cond (j == i) 1 0 + before i
  one_counted i = sum_by-cons (λ k. cond (k == i) 1 0) j w

  own : now j ≡ 1 + before j
  own = one_counted j ∙ ap (λ b. cond b 1 0 + before j) (eq-eqb j j refl)

  other : (i : ℕ) → ¬ (j ≡ i) → now i ≡ before i
  other i d =
      let e = ap (λ b. cond b 1 0 + before i) (ne_eqb j i d) in
      let h = one_counted i in
      omega arith

  not_yet : (n : ℕ) → n ≤ j → summed now n ≡ summed before n
  not_yet zero l = refl
  not_yet (suc n) l =
      let h = not_yet n (omega arith) in
      let a = summed_more now n in
      let b = summed_more before n in
      let c = other n (omega arith) in
      omega arith

  one_more : (n : ℕ) → j < n → summed now n ≡ 1 + summed before n
  one_more zero l = absurd (omega arith)
  one_more (suc n) l =
      let a = summed_more now n in
      let b = summed_more before n in
      elim (ℕ_discrete j n) [
        | yes e ↦
            let h = not_yet n (omega arith) in
            let c : now n ≡ 1 + before n = subst (λ (i : ℕ). now i ≡ 1 + before i) e own in
            omega arith
        | no d ↦
            let h = one_more n (omega arith) in
            let c = other n d in
            omega arith
      ]

counted : (n : ℕ) (w : List ℕ) → All (λ i. i < n) w → sum (times_of n w) ≡ length w
counted n [] h = none_counted n
counted n (j ∷ w) h =
    let g = counted n w (All-tail (λ i. i < n) j w h) in
    let f = one_more j w n (All-head (λ i. i < n) j w h) in
    omega arith

run_below : (gs : List SignalKind) (ks : List Kind)
    (C : Checked gs ks) {c x : Config} {w : List ℕ} → Run (Ready ks) (stepped ks) c w x
    → All (λ i. i < length ks) w
run_below gs ks C still = All-nil (λ i. i < length ks)
run_below gs ks C {c = c} (then {i = i} {w = w} r h) =
    All-cons (λ i. i < length ks) i w (ready_below gs ks C i c.0 c.1 r) (run_below gs ks C h)

-- the theorem StepsAddUp
pub steps_add_up : (gs : List SignalKind) (ks : List Kind) → Checked gs ks → StepsAddUp gs ks
steps_add_up gs ks C ms input L =
    counted (length ks) (path ks (enough ks) (ms, word_set input))
    (run_below gs ks C
    ((instant_ends gs ks C).model_runs (ms, word_set input)
    ((marks_stay_legal gs ks C).begins ms L)))

-- the theorem SameOutcome
pub same_outcome : (gs : List SignalKind) (ks : List Kind) → Checked gs ks → SameOutcome gs ks
same_outcome gs ks C ms input x v L r q =
    let c : Config = (ms, word_set input) in
    let w = path ks (enough ks) c in
    let o = (order_never_shows gs ks C).as_model c x v L r q in
    let times : times_of (length ks) v ≡ times_of (length ks) w =
    λ j. map (λ i. o.1 i j) (range_with_len 0 (length ks)) in
    let steps : length v ≡ length w =
    sym (counted (length ks) v (run_below gs ks C r)) ∙ ap sum times
    ∙ counted (length ks) w (run_below gs ks C ((instant_ends gs ks C).model_runs c L)) in
    λ j. record {
      outputs = outputs_of gs (o.0 j).1;
      status = status_of (over (tree_at ks 0) (o.0 j).0);
      times = times j;
      steps = steps j;
      marks = ended (tree_at ks 0) (o.0 j).0 (o.0 j).1;
    }
