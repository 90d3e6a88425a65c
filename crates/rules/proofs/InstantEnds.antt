-- the theorem InstantEnds: an instant has no more than 4 steps for each statement, and the plain
-- model is quiet after them
use Rattle.std.proofs.Common.{List, ℕ, true, length, ◌+◌, ◌≤◌, arith, ◌<◌, ◌≡◌, false, zero, refl}
use Rattle.std.proofs.Common.{suc, Option, None, Some, subst, [], sym}
use Rattle.std.proofs.lemmas.Bool.{both_ways}
use Rattle.routine.specs.declared.kinds.Kind.{Kind}
use Rattle.routine.specs.declared.kinds.SignalKind.{SignalKind}
use Rattle.routine.specs.Tree.{tree_at}
use Rattle.routine.proofs.Searches.{found, Found}
use Rattle.rules.specs.Legal.{Legal}
use Rattle.rules.specs.Model.{Config, Ready, stepped, path, settled, lowest_ready, turned}
use Rattle.rules.specs.Model.{first_then, enough}
use Rattle.rules.specs.Rules.{ready}
use Rattle.rules.specs.Runs.{Run, still, then, Quiet}
use Rattle.rules.specs.Theorems.{Checked, InstantEnds}
use Rattle.rules.proofs.StepsLeft.{steps_left}
use Rattle.rules.proofs.MarksIntoTrees.{marked}
use Rattle.rules.proofs.StepsOnTrees.{falls_here, ready_below, left_most}
use Rattle.rules.proofs.MarksStayLegal.{marks_stay_legal}

module _ (gs : List SignalKind) (ks : List Kind) (C : Checked gs ks) where
  still_legal : (c : Config) (i : ℕ) → Legal true ks c.0 → Ready ks c i
      → Legal true ks (stepped ks c i).0
  still_legal = (marks_stay_legal gs ks C).steps

  -- the steps that are left
  abbrev left_at : Config → ℕ
  left_at c = steps_left (marked (tree_at ks 0) c.0)

  -- what is left at first bounds the steps of a run
  run_falls : {c x : Config} {v : List ℕ} → Legal true ks c.0 → Run (Ready ks) (stepped ks) c v x
      → length v + left_at x ≤ left_at c
  run_falls L still = omega arith
  run_falls {c = c} L (then {i = i} r h) =
      let g = run_falls (still_legal c i L r) h in
      let f = falls_here gs ks C c i L r in
      omega arith

  -- where no statement is ready, nothing is
  none_ready : (c : Config)
      → ((i : ℕ) → i < length ks → ready (tree_at ks 0) c.0 c.1 i ≡ false) → Quiet (Ready ks) c
  none_ready c h i r = both_ways _ (h i (ready_below gs ks C i c.0 c.1 r)) r

  -- a path is a run, and nothing is ready at its end
  abbrev pub RunsQuiet : Config → List ℕ → Config → Type 0
  RunsQuiet c v x = Run (Ready ks) (stepped ks) c v x × Quiet (Ready ks) x

  abbrev PathRuns : ℕ → Config → Type 0
  PathRuns f c = Legal true ks c.0 → left_at c ≤ f → RunsQuiet c (path ks f c) (settled ks f c)

  -- where nothing is ready the model does nothing more
  stay : (f : ℕ) (c : Config) → Quiet (Ready ks) c → settled ks f c ≡ c
  unfolding settled
  stay zero c q = refl
  stay (suc f) c q = by (lowest_ready ks c) (found (ready (tree_at ks 0) c.0 c.1) (length ks))
      (stay f c q)
    where
      by : (o : Option ℕ) → Found (ready (tree_at ks 0) c.0 c.1) (length ks) o
          → settled ks f c ≡ c → settled ks f (turned ks c o) ≡ c
      by None h e = e
      by (Some i) h e = absurd (q i h)

  one_more_turn : (f : ℕ) (c : Config) → Legal true ks c.0 → left_at c ≤ suc f
      → ((d : Config) → PathRuns f d) → (o : Option ℕ)
      → Found (ready (tree_at ks 0) c.0 c.1) (length ks) o
      → RunsQuiet c (first_then o (λ i. path ks f (stepped ks c i))) (settled ks f (turned ks c o))
  one_more_turn f c L b go (Some i) h =
      let a = falls_here gs ks C c i L h in
      let d = go (stepped ks c i) (still_legal c i L h) (omega arith) in
      (then h d.0, d.1)
  one_more_turn f c L b go None h =
      let q = none_ready c h in
      subst (RunsQuiet c []) (sym (stay f c q)) (still, q)

  path_runs : (f : ℕ) (c : Config) → PathRuns f c
  unfolding settled path
  path_runs zero c L b =
      (still, λ i r. let a = falls_here gs ks C c i L r in absurd (omega arith))
  path_runs (suc f) c L b =
      one_more_turn f c L b (path_runs f) (lowest_ready ks c)
      (found (ready (tree_at ks 0) c.0 c.1) (length ks))

  -- the model has as many turns as can be left
  pub model_run : (c : Config) → Legal true ks c.0
      → RunsQuiet c (path ks (enough ks) c) (settled ks (enough ks) c)
  model_run c L = path_runs (enough ks) c L (left_most gs ks C c.0 L)

  -- the theorem InstantEnds
  pub instant_ends : InstantEnds gs ks
  instant_ends =
      record {
        bounded = λ c x v L r. let a = run_falls L r in let b = left_most gs ks C c.0 L in
            omega arith;
        model_runs = λ c L. (model_run c L).0;
        model_quiet = λ c L. (model_run c L).1;
      }
