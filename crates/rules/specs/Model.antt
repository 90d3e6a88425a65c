-- the plain model: the lowest ready statement goes first, until none is ready; then the instant
-- ends
use Rattle.std.specs.Prelude.{◌≡◌, ◌==◌, ℕ, zero, suc, ◌+◌, ◌*◌, Bool, true, false, cond, ◌&&◌}
use Rattle.std.specs.Prelude.{List, [], ◌∷◌, length, map, count_by, replicate, Some, None, Option}
use Rattle.std.specs.Prelude.{slice_index_or}
use Rattle.std.specs.List.{range_with_len}
use Rattle.signals.specs.Sets.{word_set}
use Rattle.routine.specs.declared.kinds.Kind.{Kind}
use Rattle.routine.specs.declared.kinds.SignalKind.{SignalKind}
use Rattle.routine.specs.declared.kinds.SignalKind.TheVariants.{Input, Output, Local}
use Rattle.routine.specs.Search.{lowest}
use Rattle.routine.specs.Tree.{tree_at}
use Rattle.routine.specs.Meaning.{signal_at}
use Rattle.rules.specs.declared.status.Status.{Status}
use Rattle.rules.specs.declared.status.Status.TheVariants.{Suspended, Terminated}
use Rattle.rules.specs.Rules.{Mark, Idle, Signals, begun, over, ready, fire, effect_of, apply}
use Rattle.rules.specs.Rules.{ended}

-- where an open instant stands: a mark for each statement, and the present signals
abbrev pub Config : Type 0
Config = List Mark × Signals

-- statement i is ready
abbrev pub Ready : List Kind → Config → ℕ → Type 0
Ready ks c i = ready (tree_at ks 0) c.0 c.1 i ≡ true

-- after the step of statement i: the marks, then the signals
abbrev pub stepped : List Kind → Config → ℕ → Config
stepped ks c i = (fire (tree_at ks i) c.0, apply (effect_of (tree_at ks i)) c.1)

abbrev pub lowest_ready : List Kind → Config → Option ℕ
lowest_ready ks c = lowest (ready (tree_at ks 0) c.0 c.1) (length ks)

-- after the step of that statement, if there is one
abbrev pub turned : List Kind → Config → Option ℕ → Config
turned ks c None = c
turned ks c (Some i) = stepped ks c i

-- after at most so many steps, each of the lowest ready statement
unfoldable pub settled : List Kind → ℕ → Config → Config
settled ks zero c = c
settled ks (suc most) c = settled ks most (turned ks c (lowest_ready ks c))

-- that statement, and then what follows on it; nothing where there is none
abbrev pub first_then : Option ℕ → (ℕ → List ℕ) → List ℕ
first_then None go = []
first_then (Some i) go = i ∷ go i

-- the statements that are stepped, in their order
unfoldable pub path : List Kind → ℕ → Config → List ℕ
path ks zero c = []
path ks (suc most) c = first_then (lowest_ready ks c) (λ i. path ks most (stepped ks c i))

-- 4 steps for each statement are always enough
abbrev pub enough : List Kind → ℕ
enough ks = 4 * length ks

abbrev pub is_output : SignalKind → Bool
is_output Input = false
is_output Output = true
is_output Local = false

-- the word of n bits, from bit i on, that has the bits of which P holds
abbrev pub word_from : (ℕ → Bool) → ℕ → ℕ → ℕ
word_from P zero i = 0
word_from P (suc n) i = cond (P i) 1 0 + 2 * word_from P n (i + 1)

-- the word of the present output signals
abbrev pub outputs_of : List SignalKind → Signals → ℕ
outputs_of gs e = word_from (λ s. is_output (signal_at gs s) && slice_index_or e s false)
    (length gs) 0

-- how often each of n statements is among those that were stepped
abbrev pub times_of : ℕ → List ℕ → List ℕ
times_of n w = map (λ i. count_by (λ k. k == i) w) (range_with_len 0 n)

-- terminated if statement 0 was over
abbrev pub status_of : Bool → Status
status_of true = Terminated
status_of false = Suspended

-- what an instant comes to
pub record Outcome : Type 0 where
  pub outputs : ℕ
  pub status : Status
  -- how often each statement was stepped, and how many steps that makes
  pub times : List ℕ
  pub steps : ℕ
  -- the marks that remain for the next instant
  pub marks : List Mark

-- of an instant that stands at c, after the steps w
abbrev pub closed : List SignalKind → List Kind → Config → List ℕ → Outcome
closed gs ks c w =
    record {
      outputs = outputs_of gs c.1;
      status = status_of (over (tree_at ks 0) c.0);
      times = times_of (length ks) w;
      steps = length w;
      marks = ended (tree_at ks 0) c.0 c.1;
    }

-- one instant, from the marks ms, for an input word
abbrev pub instant : List SignalKind → List Kind → List Mark → ℕ → Outcome
instant gs ks ms input =
    closed gs ks (settled ks (enough ks) (ms, word_set input))
    (path ks (enough ks) (ms, word_set input))

-- at first statement 0 is begun and all else is idle
abbrev pub first_marks : List Kind → List Mark
first_marks ks = begun (tree_at ks 0) (replicate (length ks) Idle)

-- one instant for each word, from the marks ms on
abbrev pub instants_from : List SignalKind → List Kind → List Mark → List ℕ → List Outcome
instants_from gs ks ms [] = []
instants_from gs ks ms (input ∷ later) =
    instant gs ks ms input ∷ instants_from gs ks (instant gs ks ms input).marks later

-- the model: what each input word comes to, one after another
abbrev pub model : List SignalKind → List Kind → List ℕ → List Outcome
model gs ks inputs = instants_from gs ks (first_marks ks) inputs
