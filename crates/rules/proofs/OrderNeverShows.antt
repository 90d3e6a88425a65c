-- the theorem OrderNeverShows: however an instant is stepped until nothing is ready, it ends as the
-- plain model does
use Rattle.std.proofs.Common.{List, true, ℕ, ◌≡◌, count_by, ◌==◌, sym, cond}
use Rattle.std.proofs.lemmas.List.Sorted.{sum_by-IsPermutation}
use Rattle.std.proofs.Math.Decide.{ℕ_discrete}
use Rattle.routine.specs.declared.kinds.Kind.{Kind}
use Rattle.routine.specs.declared.kinds.SignalKind.{SignalKind}
use Rattle.rules.specs.Legal.{Legal}
use Rattle.rules.specs.Model.{Ready, stepped, Config, settled, enough, path}
use Rattle.rules.specs.Runs.{Run, Quiet}
use Rattle.rules.specs.Theorems.{Checked, OrderNeverShows}
use Rattle.rules.proofs.UniqueEnds.{Diamond, unique}
use Rattle.rules.proofs.MarksStayLegal.{marks_stay_legal}
use Rattle.rules.proofs.EitherOrder.{either_order}
use Rattle.rules.proofs.InstantEnds.{model_run}

module _ (gs : List SignalKind) (ks : List Kind) (C : Checked gs ks) where
  -- marks stay legal, and two ready statements can be stepped in either order
  diamond : Diamond (Ready ks) (stepped ks) (λ c. Legal true ks c.0)
  diamond = record { keep = (marks_stay_legal gs ks C).steps; join = either_order gs ks C }

  same_end : (c x y : Config) (v w : List ℕ) → Legal true ks c.0
      → Run (Ready ks) (stepped ks) c v x → Quiet (Ready ks) x → Run (Ready ks) (stepped ks) c w y
      → Quiet (Ready ks) y
      → (x ≡ y) × ((i : ℕ) → count_by (λ k. k == i) v ≡ count_by (λ k. k == i) w)
  same_end c x y v w L r q r' q' =
      let u = unique ℕ_discrete (Ready ks) (stepped ks) (λ c. Legal true ks c.0) diamond L r q r' q'
      in (u.0, λ i. sym (sum_by-IsPermutation (λ k. cond (k == i) 1 0) v w u.1))

  -- the theorem OrderNeverShows
  pub order_never_shows : OrderNeverShows gs ks
  order_never_shows =
      record {
        same = same_end;
        as_model = λ c x v L r q.
            let m = model_run gs ks C c L in
            same_end c x (settled ks (enough ks) c) v (path ks (enough ks) c) L r q m.0 m.1;
      }
