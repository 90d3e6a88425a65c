-- rows written, as lists
use Rattle.std.proofs.Common.{◌≡◌, ℕ, ◌+◌, ◌<◌, ◌≤◌, true, List, length, vec_items, vec_len, get_or}
use Rattle.std.proofs.Common.{set, slice_set, take, refl, sym, ap, ◌∙◌, subst, ext_get_or, arith}
use Rattle.std.proofs.lemmas.List.{map-set, set-get_or, get_or-map, get_or-take, length-take-le}
use Rattle.std.proofs.lemmas.List.{get_or-set_same, get_or-set_other}
use native.Mathlib.Decide.{ℕ_discrete}
use Rattle.routine.specs.declared.kinds.Statement.{Statement}
use Rattle.routine.specs.declared.kinds.SignalKind.{SignalKind}
use Rattle.routine.specs.declared.kinds.Kind.{Kind}
use Rattle.routine.specs.declared.kinds.Mark.{Mark}
use Rattle.routine.specs.declared.kinds.Mark.TheVariants.{Idle}
use Rattle.routine.specs.Kinds.{kinds, marks}
use Rattle.routine.specs.Layout.{Formed}
use Rattle.count.specs.Front.{Guards, Waiters}
use Rattle.routine.specs.Meaning.{passes}
use Rattle.record.proofs.Lists.{marks_length}
use Rattle.count.specs.declared.machine.Rows.{Rows}
use Rattle.count.specs.View.{kinds_in, signals_in, marks_in, count_in, Marked}

-- a row is written with the kind that it had
pub kinds_kept : (ss : List Statement) (i : ℕ) (old new : Statement) → i < length ss
    → old ≡ get_or ss i old → new.kind ≡ old.kind → kinds (set ss i new) ≡ kinds ss
kinds_kept ss i old new l o e =
    map-set (λ (r : Statement). r.kind) ss i new
    ∙ ap (set (kinds ss) i) (e ∙ ap (λ (r : Statement). r.kind) o
    ∙ sym (get_or-map (λ (r : Statement). r.kind) ss i old old.kind l))
    ∙ set-get_or (kinds ss) i old.kind

-- the marks after it
pub marks_set : (ss : List Statement) (i : ℕ) (new : Statement) (m : Mark) → new.mark ≡ m
    → marks (set ss i new) ≡ set (marks ss) i m
marks_set ss i new m e = map-set (λ (r : Statement). r.mark) ss i new ∙ ap (set (marks ss) i) e

-- what is known of kinds holds of equal ones
pub formed_kept : (g : ℕ) (ks ls : List Kind) → ls ≡ ks → Formed g ks → Formed g ls
formed_kept g ks ls e f = subst (Formed g) (sym e) f

-- the same of the tests of their meaning
pub passes_kept : (gs : List SignalKind) (ks ls : List Kind) → ls ≡ ks → passes gs ks ≡ true
    → passes gs ls ≡ true
passes_kept gs ks ls e f = ap (passes gs) e ∙ f

-- of their guards
pub guards_kept : (vs : List ℕ) (ks ls : List Kind) → ls ≡ ks → Guards ks vs → Guards ls vs
guards_kept vs ks ls e g = subst (λ (ms : List Kind). Guards ms vs) (sym e) g

-- and of those that await a signal
pub waiters_kept : (ws : List ℕ) (ks ls : List Kind) → ls ≡ ks → Waiters ks ws → Waiters ls ws
waiters_kept ws ks ls e g = subst (λ (ms : List Kind). Waiters ms ws) (sym e) g

-- how many marks there are
rows_many : (t : Rows) → length (marks_in t) ≡ count_in t
rows_many t = let v = t.routine.table.statements in marks_length (vec_items v) (vec_len v) v.ok.0

-- u has the routine of t, and below i the marks ms
pub record Filled (ms : List Mark) (t u : Rows) (i : ℕ) : Type 0 where
  pub kinds : kinds_in u ≡ kinds_in t
  pub signals : signals_in u ≡ signals_in t
  pub len : count_in u ≡ count_in t
  pub filled : (k : ℕ) → k < i → get_or (marks_in u) k Idle ≡ get_or ms k Idle

-- none is written yet
pub filled_none : (ms : List Mark) (t : Rows) → Filled ms t t 0
filled_none ms t = record {
  kinds = refl;
  signals = refl;
  len = refl;
  filled = λ k l. absurd (omega arith);
}

-- one more
pub filled_more : (ms : List Mark) (t u v : Rows) (i : ℕ) (m : Mark) → i < count_in t
    → m ≡ get_or ms i Idle → Filled ms t u i → Marked u v (slice_set (marks_in u) i m)
    → Filled ms t v (i + 1)
filled_more ms t u v i m l e f p =
    record {
      kinds = p.kinds ∙ f.kinds;
      signals = p.signals ∙ f.signals;
      len = p.len ∙ f.len;
      filled = λ k b. ap (λ xs. get_or xs k Idle) p.marks ∙ elim (ℕ_discrete k i) [
        | yes x ↦ ap (λ (j : ℕ). get_or (slice_set (marks_in u) i m) j Idle) x
            ∙ get_or-set_same (marks_in u) i m Idle
            (let n = rows_many u in let c = f.len in omega arith) ∙ e
            ∙ sym (ap (λ (j : ℕ). get_or ms j Idle) x)
        | no d ↦ get_or-set_other (marks_in u) i k m Idle d ∙ f.filled k (omega arith)
      ];
    }

-- all of them
pub filled_all : (ms : List Mark) (t u : Rows) → count_in t ≤ length ms → Filled ms t u (count_in t)
    → Marked t u (take (count_in t) ms)
filled_all ms t u l f =
    let n = rows_many u in
    let m : length (take (count_in t) ms) ≡ count_in t = length-take-le (count_in t) ms l in
    record {
      kinds = f.kinds;
      signals = f.signals;
      len = f.len;
      marks = ext_get_or Idle (marks_in u) (take (count_in t) ms) (n ∙ f.len ∙ sym m)
          (λ k b. let c = f.len in let d : k < count_in t = omega arith in
          f.filled k d ∙ sym (get_or-take (count_in t) ms k Idle d));
    }
