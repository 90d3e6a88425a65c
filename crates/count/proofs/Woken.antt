-- which rules can apply because of the signal that a step raises
use Rattle.std.proofs.Common.{◌≡◌, ℕ, ◌≤◌, Bool, true, false, List, set, get_or, sym, ap, ◌∙◌}
use Rattle.std.proofs.Common.{subst, refl, arith, get_or-set_other}
use native.Mathlib.Decide.{ℕ_discrete}
use Rattle.routine.specs.Kinds.{Leaf, nothing, stop, emit, wait, loop, kill, local, Two, sequence}
use Rattle.routine.specs.Kinds.{parallel, when, Shape, no_part, one_part, two_parts}
use Rattle.routine.specs.Tree.{node}
use Rattle.rules.specs.Rules.{Mark, Signals, Tree, leaf, one, two, at, over, leaf_rule, two_rule}
use Rattle.rules.specs.Rules.{rule, Effect, no_effect, raises, drops, effect_of, apply}
use Rattle.rules.proofs.Locality.{set_default}
use Rattle.count.specs.Machine.{own_signal_present}
use Rattle.count.specs.Front.{entry, Awaits, front_after}

-- what is not raised stays absent
not_raised : (f : Effect) (e : Signals) (s : ℕ) → get_or e s false ≡ false → ¬ (f ≡ raises s)
    → get_or (apply f e) s false ≡ false
not_raised no_effect e s h d = h
not_raised (raises t) e s h d = get_or-set_other e t s true false (λ x. d (ap raises (sym x))) ∙ h
not_raised (drops t) e s h d =
    elim (ℕ_discrete s t) [
      | yes x ↦ subst (λ (i : ℕ). get_or (set e t false) i false ≡ false) (sym x)
          (set_default false e t)
      | no x ↦ get_or-set_other e t s false false x ∙ h
    ]

-- where what it awaits stays absent, a rule that does not apply goes on so
leaf_stays : (d e : Signals) (m : Mark) (k : Leaf)
    → ((s : ℕ) → Awaits (no_part k) s → get_or d s false ≡ false → get_or e s false ≡ false)
    → leaf_rule d m k ≡ false → leaf_rule e m k ≡ false
leaf_stays d e m nothing g h = grind arith
leaf_stays d e m stop g h = grind arith
leaf_stays d e m (emit s) g h = grind arith
leaf_stays d e m (wait s) g h = let x = g s refl in grind arith

two_stays : (d e : Signals) (m : Mark) (o : Bool) (k : Two) (a b : ℕ)
    → ((s : ℕ) → Awaits (two_parts k a b) s → get_or d s false ≡ false → get_or e s false ≡ false)
    → two_rule d m k o ≡ false → two_rule e m k o ≡ false
two_stays d e m o sequence a b g h = grind arith
two_stays d e m o parallel a b g h = grind arith
two_stays d e m o (when s) a b g h = let x = g s refl in grind arith

-- a rule that does not apply does not after the effect either, unless it awaits what is raised and
-- was absent
pub rule_by_signal : (i : ℕ) (r : Shape) (sub : ℕ → Tree) (ms : List Mark) (e : Signals)
    (f : Effect) → ((s : ℕ) → Awaits r s → get_or e s false ≡ false → ¬ (f ≡ raises s))
    → rule (node i r sub) ms e ≡ false → rule (node i r sub) ms (apply f e) ≡ false
rule_by_signal i (no_part k) sub ms e f d h =
    leaf_stays e (apply f e) (at ms i) k (λ s x g. not_raised f e s g (d s x g)) h
rule_by_signal i (one_part k a) sub ms e f d h = h
rule_by_signal i (two_parts k a b) sub ms e f d h =
    two_stays e (apply f e) (at ms i) (over (sub a) ms) k a b
    (λ s x g. not_raised f e s g (d s x g)) h

raises_same : (s t : ℕ) → raises s ≡ raises t → s ≡ t
raises_same s t h = cc

-- what is raised is the statement's own signal
pub signal_raised : (t : Tree) (e : Signals) (s : ℕ) → effect_of t ≡ raises s
    → own_signal_present t e ≡ get_or e s false
signal_raised (leaf n nothing) e s h = absurd (grind arith)
signal_raised (leaf n stop) e s h = absurd (grind arith)
signal_raised (leaf n (emit t)) e s h = ap (λ (i : ℕ). get_or e i false) (raises_same t s h)
signal_raised (leaf n (wait t)) e s h = absurd (grind arith)
signal_raised (one n loop p) e s h = absurd (grind arith)
signal_raised (one n (kill t) p) e s h = absurd (grind arith)
signal_raised (one n (local t) p) e s h = absurd (grind arith)
signal_raised (two n k p q) e s h = absurd (grind arith)

-- the front is not above what awaits the signal that is raised and was absent
pub front_waits : (i : ℕ) (r : Shape) (sub : ℕ → Tree) (ws : List ℕ) (b k s : ℕ)
    → effect_of (node i r sub) ≡ raises s → front_after r ws false b k ≤ entry ws s
front_waits i (no_part nothing) sub ws b k s h = absurd (grind arith)
front_waits i (no_part stop) sub ws b k s h = absurd (grind arith)
front_waits i (no_part (emit t)) sub ws b k s h = let x = ap (entry ws) (raises_same t s h) in
    omega arith
front_waits i (no_part (wait t)) sub ws b k s h = absurd (grind arith)
front_waits i (one_part loop a) sub ws b k s h = absurd (grind arith)
front_waits i (one_part (kill t) a) sub ws b k s h = absurd (grind arith)
front_waits i (one_part (local t) a) sub ws b k s h = absurd (grind arith)
front_waits i (two_parts t a c) sub ws b k s h = absurd (grind arith)
