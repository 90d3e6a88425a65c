-- what is shown of the rules
use Rattle.std.specs.Prelude.{◌≡◌, ◌==◌, ℕ, ◌*◌, ◌<◌, ◌≤◌, true, false, List, length, sum, count_by}
use Rattle.signals.specs.Sets.{word_set}
use Rattle.routine.specs.declared.kinds.Kind.{Kind}
use Rattle.routine.specs.declared.kinds.SignalKind.{SignalKind}
use Rattle.routine.specs.Search.{lowest}
use Rattle.routine.specs.Tree.{tree_at, contains, inside, can_end}
use Rattle.routine.specs.Layout.{Formed}
use Rattle.routine.specs.Meaning.{passes}
use Rattle.rules.specs.Runs.{Run, Quiet}
use Rattle.rules.specs.Rules.{Mark, Idle, Signals, at, begun, over, rule, ready, fire, ended}
use Rattle.rules.specs.Legal.{Legal}
use Rattle.rules.specs.Model.{Config, Ready, stepped, lowest_ready, settled, path, enough}
use Rattle.rules.specs.Model.{first_marks, closed, instant}

-- the signals gs and the statements ks are those of a routine: what reading and checking leave
pub record Checked (gs : List SignalKind) (ks : List Kind) : Type 0 where
  pub formed : Formed (length gs) ks
  pub some : 0 < length ks
  pub passed : passes gs ks ≡ true

-- each theorem is of the signals gs and the statements ks; a function of src/theorems.rt says it of
-- every routine
module _ (gs : List SignalKind) (ks : List Kind) where
  -- inside a statement that is over nothing is ready, and ready statements do not lie inside one
  -- another
  pub record NothingReadyInside : Type 0 where
    pub inside_over : (c : Config) (i j : ℕ) → Legal true ks c.0 → i < length ks
        → over (tree_at ks i) c.0 ≡ true
        → contains (tree_at ks i) j ≡ true → ready (tree_at ks 0) c.0 c.1 j ≡ false
    pub never_inside : (c : Config) (i j : ℕ) → Legal true ks c.0 → Ready ks c i → Ready ks c j
        → inside (tree_at ks i) j ≡ false

  -- two ready statements can be stepped in either order with the same result
  abbrev pub EitherOrder : Type 0
  EitherOrder =
      (c : Config) (i j : ℕ) → Legal true ks c.0 → ¬ (i ≡ j) → Ready ks c i → Ready ks c j
      → Ready ks (stepped ks c i) j
      × (stepped ks (stepped ks c i) j ≡ stepped ks (stepped ks c j) i)

  -- however an instant is stepped until nothing is ready, it ends in the same marks and the same
  -- set and steps each statement equally often, as the model does
  pub record OrderNeverShows : Type 0 where
    pub same : (c x y : Config) (v w : List ℕ) → Legal true ks c.0
        → Run (Ready ks) (stepped ks) c v x → Quiet (Ready ks) x → Run (Ready ks) (stepped ks) c w y
        → Quiet (Ready ks) y
        → (x ≡ y) × ((i : ℕ) → count_by (λ k. k == i) v ≡ count_by (λ k. k == i) w)
    pub as_model : (c x : Config) (v : List ℕ) → Legal true ks c.0
        → Run (Ready ks) (stepped ks) c v x → Quiet (Ready ks) x
        → (x ≡ settled ks (enough ks) c)
        × ((i : ℕ) → count_by (λ k. k == i) v
        ≡ count_by (λ k. k == i) (path ks (enough ks) c))

  -- from legal marks no more than 4 steps for each statement are possible, and the model is quiet
  -- after them
  pub record InstantEnds : Type 0 where
    pub bounded : (c x : Config) (v : List ℕ) → Legal true ks c.0
        → Run (Ready ks) (stepped ks) c v x → length v ≤ 4 * length ks
    pub model_runs : (c : Config) → Legal true ks c.0
        → Run (Ready ks) (stepped ks) c (path ks (enough ks) c) (settled ks (enough ks) c)
    pub model_quiet : (c : Config) → Legal true ks c.0 → Quiet (Ready ks) (settled ks (enough ks) c)

  -- the marks at the start are legal, and begin, step and the end of the instant keep them so
  pub record MarksStayLegal : Type 0 where
    pub starts : Legal false ks (first_marks ks)
    pub begins : (ms : List Mark) → Legal false ks ms → Legal true ks ms
    pub steps : (c : Config) (i : ℕ) → Legal true ks c.0 → Ready ks c i
        → Legal true ks (stepped ks c i).0
    pub ends : (c : Config) → Legal true ks c.0 → Legal false ks (ended (tree_at ks 0) c.0 c.1)

-- steps of one instant inside statement i, from the marks ms to the marks ns, whatever signals are
-- present at each
pub data InsideSteps (ks : List Kind) (i : ℕ) : List Mark → List Mark → Type 0 where
  none_yet : {ms : List Mark} → InsideSteps ks i ms ms
  and_then : {ms ns : List Mark} (e : Signals) (j : ℕ) → ready (tree_at ks i) ms e j ≡ true
      → InsideSteps ks i (fire (tree_at ks j) ms) ns → InsideSteps ks i ms ns

module _ (gs : List SignalKind) (ks : List Kind) where
  -- a statement that cannot end at once, begun where all of it is idle, is not over in that instant
  abbrev pub TakesTime : Type 0
  TakesTime =
      (i : ℕ) (ms ns : List Mark) → i < length ks → length ms ≡ length ks
      → can_end (tree_at ks i) ≡ false
      → ((j : ℕ) → contains (tree_at ks i) j ≡ true → at ms j ≡ Idle)
      → InsideSteps ks i (begun (tree_at ks i) ms) ns → over (tree_at ks i) ns ≡ false

module _ (gs : List SignalKind) (ks : List Kind) where
  -- the steps that the model counts are the sum of how often each statement was stepped
  abbrev pub StepsAddUp : Type 0
  StepsAddUp = (ms : List Mark) (input : ℕ) → Legal false ks ms
      → sum (instant gs ks ms input).times ≡ (instant gs ks ms input).steps

  -- however an instant is stepped until nothing is ready, it comes to what the model says: outputs,
  -- status, how often each statement is stepped, steps, and marks
  abbrev pub SameOutcome : Type 0
  SameOutcome =
      (ms : List Mark) (input : ℕ) (x : Config) (v : List ℕ) → Legal true ks ms
      → Run (Ready ks) (stepped ks) (ms, word_set input) v x → Quiet (Ready ks) x
      → closed gs ks x v ≡ instant gs ks ms input

module _ (gs : List SignalKind) (ks : List Kind) where
  -- for any marks and signals, the lowest statement whose own rule applies is the lowest ready one,
  -- and no rule applies exactly if none is ready: a local that is shut is ready itself, and has a
  -- lower number than all inside it
  pub record LowestByRule : Type 0 where
    pub same : (c : Config) → lowest (λ i. rule (tree_at ks i) c.0 c.1) (length ks)
        ≡ lowest_ready ks c
    pub none_applies : (c : Config) → Quiet (Ready ks) c → (i : ℕ) → i < length ks
        → rule (tree_at ks i) c.0 c.1 ≡ false
    pub none_ready : (c : Config) → ((i : ℕ) → i < length ks → rule (tree_at ks i) c.0 c.1 ≡ false)
        → Quiet (Ready ks) c
