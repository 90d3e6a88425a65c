-- turns of the lowest ready statement until none is ready: where they lead is what the model says
use Rattle.std.proofs.Common.{◌≡◌, ℕ, zero, suc, ◌+◌, ◌<◌, ◌≤◌, Bool, true, cond, List, [], ◌∷◌}
use Rattle.std.proofs.Common.{◌++◌, length, Some, None, sym, refl, ap, ◌∙◌, subst, ap₂, arith}
use Rattle.std.proofs.Common.{length-append}
use Rattle.std.proofs.lemmas.Bool.{lt-ltb}
use Rattle.std.proofs.lemmas.List.{append-nil, append_assoc}
use Rattle.routine.specs.declared.kinds.Kind.{Kind}
use Rattle.routine.specs.Search.{lowest}
use Rattle.routine.proofs.Searches.{Found, found}
use Rattle.rules.specs.Model.{Config, stepped, lowest_ready, turned, settled, first_then, path}
use Rattle.rules.specs.Model.{enough}
use Rattle.record.specs.State.{State}
use Rattle.count.specs.Calls.{one_more, step_state, steps_from, settled_state}
use Rattle.count.specs.Traces.{Trace, Extends}

-- where an open instant stands
abbrev pub at : State → Config
at s = (s.marks, s.present)

-- what is found is ready
pub some_ready : (P : ℕ → Bool) (n : ℕ) {k : ℕ} → Some k ≡ lowest P n → P k ≡ true
some_ready P n h = subst (Found P n) (sym h) (found P n)

-- the turns w have led from s to t and were told, and the rest of the model's path is its path from
-- t
pub record Turned (ks : List Kind) (s t : State) (from to : Trace) (turns : ℕ) : Type 0 where
  pub steps : List ℕ
  pub many : length steps ≡ turns
  pub left : ℕ
  pub bound : turns + left ≡ enough ks
  pub paths : path ks (enough ks) (at s) ≡ steps ++ path ks left (at t)
  pub ends : settled ks (enough ks) (at s) ≡ settled ks left (at t)
  pub stands : t ≡ record {
    phase = s.phase;
    closed = s.closed;
    steps = turns;
    marks = t.marks;
    present = t.present;
  }
  pub told : Extends from to steps

module _ (ks : List Kind) (c : Config) where
  -- one turn, where k is the lowest that is ready
  module _ (k : ℕ) (h : lowest_ready ks c ≡ Some k) (left : ℕ) where
    path_step : path ks (suc left) c ≡ k ∷ path ks left (stepped ks c k)
    unfolding path
    path_step = ap (λ o. first_then o (λ i. path ks left (stepped ks c i))) h

    settled_step : settled ks (suc left) c ≡ settled ks left (stepped ks c k)
    unfolding settled
    settled_step = ap (λ o. settled ks left (turned ks c o)) h

  path_zero : path ks zero c ≡ []
  unfolding path
  path_zero = refl

  settled_zero : settled ks zero c ≡ c
  unfolding settled
  settled_zero = refl

  -- none, where nothing is ready
  module _ (h : lowest_ready ks c ≡ None) where
    path_ends : (left : ℕ) → path ks left c ≡ []
    unfolding path
    path_ends zero = refl
    path_ends (suc left) = ap (λ o. first_then o (λ i. path ks left (stepped ks c i))) h

    settled_ends : (left : ℕ) → settled ks left c ≡ c
    unfolding settled
    settled_ends zero = refl
    settled_ends (suc left) = ap (λ o. settled ks left (turned ks c o)) h ∙ settled_ends left

extends_none : (t : Trace) → Extends t t []
extends_none t = record {
  kept = λ h. h;
  told = λ h. sym (append-nil t.steps);
  fits = λ h l. (h, omega arith);
}

extends_more : {s t u : Trace} (v w : List ℕ) → Extends s t v → Extends t u w → Extends s u (v ++ w)
extends_more {s = s} v w g h =
    record {
      kept = λ x. g.kept (h.kept x);
      told = λ x. h.told x ∙ ap (λ (xs : List ℕ). xs ++ w) (g.told (h.kept x))
          ∙ append_assoc s.steps v w;
      fits = λ x l.
          let n = length-append v w in
          let a = g.fits x (omega arith) in
          let e = a.1 in
          let b = h.fits a.0 (omega arith) in
          let f = b.1 in
          (b.0, omega arith);
    }

-- no turn was made yet
pub turned_none : (ks : List Kind) (s : State) (from : Trace) → s.steps ≡ 0
    → Turned ks s s from from 0
turned_none ks s from e =
    record {
      steps = [];
      many = refl;
      left = enough ks;
      bound = omega arith;
      paths = refl;
      ends = refl;
      stands = ap (λ (n : ℕ). record {
        phase = s.phase;
        closed = s.closed;
        steps = n;
        marks = s.marks;
        present = s.present;
      }) e;
      told = extends_none from;
    }

module _ (ks : List Kind) {s t : State} {from to : Trace} {n : ℕ}
    (h : Turned ks s t from to n) where
  -- a turn more, of which the tracer is told
  pub turned_more : (ls : List Kind) (k : ℕ) (u : State) (next : Trace) → ls ≡ ks → n < enough ks
      → enough ks ≤ 65535
      → Some k ≡ lowest_ready ls (at t) → u ≡ step_state ls t k → Extends to next (k ∷ [])
      → Turned ks s u from next (n + 1)
  turned_more ls k u next e l f o x g = go h.left refl
    where
      ready : lowest_ready ks (at t) ≡ Some k
      ready = ap (λ (ms : List Kind). lowest_ready ms (at t)) (sym e) ∙ sym o

      stepping : u ≡ step_state ks t k
      stepping = x ∙ ap (λ (ms : List Kind). step_state ms t k) e

      one_step : t.steps ≡ n → one_more t.steps ≡ n + 1
      one_step z = ap one_more z ∙ ap (λ b. cond b (n + 1) n) (lt-ltb n 65535 (omega arith))

      go : (left : ℕ) → h.left ≡ left → Turned ks s u from next (n + 1)
      go zero z = let b = h.bound in absurd (omega arith)
      go (suc left) z =
          let w = h.steps in
          let c = at t in
          record {
            steps = w ++ (k ∷ []);
            many = let m = h.many in omega (arith, length-append w (k ∷ []));
            left = left;
            bound = let b = h.bound in omega arith;
            paths =
                h.paths ∙ ap (λ (m : ℕ). w ++ path ks m c) z
                ∙ ap (λ (v : List ℕ). w ++ v) (path_step ks c k ready left)
                ∙ sym (append_assoc w (k ∷ []) (path ks left (stepped ks c k)))
                ∙ ap (λ (v : State). (w ++ (k ∷ [])) ++ path ks left (at v)) (sym stepping);
            ends =
                h.ends ∙ ap (λ (m : ℕ). settled ks m c) z ∙ settled_step ks c k ready left
                ∙ ap (λ (v : State). settled ks left (at v)) (sym stepping);
            stands =
                stepping
                ∙ ap₂ (λ (v : State) (m : ℕ).
                record {
                  phase = v.phase;
                  closed = v.closed;
                  steps = m;
                  marks = (step_state ks t k).marks;
                  present = (step_state ks t k).present;
                })
                h.stands (one_step (ap (λ (v : State). v.steps) h.stands))
                ∙ ap (λ (v : State). record {
                  phase = s.phase;
                  closed = s.closed;
                  steps = n + 1;
                  marks = v.marks;
                  present = v.present;
                }) (sym stepping);
            told = extends_more w (k ∷ []) h.told g;
          }

  -- what the turns come to where no more is to follow
  pub record Settled : Type 0 where
    pub leaves : t ≡ settled_state ks s
    pub told : Extends from to (steps_from ks s)
    pub turns : n ≡ t.steps

  rests : path ks h.left (at t) ≡ [] → settled ks h.left (at t) ≡ at t → Settled
  rests p q =
      let w : steps_from ks s ≡ h.steps =
      h.paths ∙ ap (λ (v : List ℕ). h.steps ++ v) p ∙ append-nil h.steps in
      record {
        leaves =
            h.stands
            ∙ ap₂ (λ (m : ℕ) (c : Config).
            record {
              phase = s.phase;
              closed = s.closed;
              steps = m;
              marks = c.0;
              present = c.1;
            })
            (sym h.many ∙ ap length (sym w)) (sym (h.ends ∙ q));
        told = subst (Extends from to) (sym w) h.told;
        turns = sym (ap (λ (v : State). v.steps) h.stands);
      }

  -- nothing is ready
  pub settled_here : (ls : List Kind) → ls ≡ ks → None ≡ lowest_ready ls (at t) → Settled
  settled_here ls e o =
      let r : lowest_ready ks (at t) ≡ None =
      ap (λ (ms : List Kind). lowest_ready ms (at t)) (sym e) ∙ sym o in
      rests (path_ends ks (at t) r h.left) (settled_ends ks (at t) r h.left)

  -- as many turns as an instant can have
  pub settled_at_last : enough ks ≤ n → Settled
  settled_at_last l = go h.left refl
    where
      go : (left : ℕ) → h.left ≡ left → Settled
      go zero z = rests (ap (λ (m : ℕ). path ks m (at t)) z ∙ path_zero ks (at t))
          (ap (λ (m : ℕ). settled ks m (at t)) z ∙ settled_zero ks (at t))
      go (suc left) z = let b = h.bound in absurd (omega arith)
