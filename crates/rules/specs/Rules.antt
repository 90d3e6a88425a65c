-- the rules of the language, over a routine's tree, a mark for each statement and the set of
-- present signals
use Rattle.std.specs.Prelude.{ℕ, Bool, true, false, cond, not, ◌&&◌, ◌||◌, List, slice_index_or}
use Rattle.std.specs.Prelude.{slice_set}
use Rattle.std.proofs.Math.Decide.{ℕ_discrete}
pub use Rattle.routine.specs.declared.kinds.Mark.{Mark}
pub use Rattle.routine.specs.declared.kinds.Mark.TheVariants.{Idle, Waiting, UnderWay, Done}
pub use Rattle.routine.specs.Kinds.{Leaf, nothing, stop, emit, wait, One, loop, kill, local, Two}
pub use Rattle.routine.specs.Kinds.{sequence, parallel, when}
pub use Rattle.routine.specs.Tree.{Tree, leaf, one, two}

-- the set of present signals: one Boolean for each number
abbrev pub Signals : Type 0
Signals = List Bool

-- x where the two are the same, else y
abbrev pub pick : {A B : Type 0} → Dec A → B → B → B
pick (yes a) x y = x
pick (no d) x y = y

-- the mark of statement i
abbrev pub at : List Mark → ℕ → Mark
at ms i = slice_index_or ms i Idle

-- live means not idle
abbrev pub is_live : Mark → Bool
is_live Idle = false
is_live Waiting = true
is_live UnderWay = true
is_live Done = true

abbrev pub is_done : Mark → Bool
is_done Idle = false
is_done Waiting = false
is_done UnderWay = false
is_done Done = true

-- TO BEGIN a statement: nothing is done; stop, emit, wait, loop and when wait; a sequence or kill
-- is under way and its first is begun; a parallel is under way and both parts are begun; a local
-- waits and its first is begun
abbrev pub leaf_begun : Leaf → Mark
leaf_begun nothing = Done
leaf_begun stop = Waiting
leaf_begun (emit s) = Waiting
leaf_begun (wait s) = Waiting

abbrev pub begun : Tree → List Mark → List Mark
begun (leaf n k) ms = slice_set ms n (leaf_begun k)
begun (one n loop p) ms = slice_set ms n Waiting
begun (one n (kill s) p) ms = begun p (slice_set ms n UnderWay)
begun (one n (local s) p) ms = begun p (slice_set ms n Waiting)
begun (two n sequence p q) ms = begun p (slice_set ms n UnderWay)
begun (two n parallel p q) ms = begun q (begun p (slice_set ms n UnderWay))
begun (two n (when s) p q) ms = slice_set ms n Waiting

-- TO IDLE a statement: it and everything inside it gets idle
abbrev pub idled : Tree → List Mark → List Mark
idled (leaf n k) ms = slice_set ms n Idle
idled (one n k p) ms = idled p (slice_set ms n Idle)
idled (two n k p q) ms = idled q (idled p (slice_set ms n Idle))

-- OVER are: what is done, a parallel whose parts are both over, a sequence whose second is over, a
-- when with a part that is over
abbrev pub two_over : Two → Bool → Bool → Bool
two_over sequence p q = q
two_over parallel p q = p && q
two_over (when s) p q = p || q

abbrev pub over : Tree → List Mark → Bool
over (leaf n k) ms = is_done (at ms n)
over (one n k p) ms = is_done (at ms n)
over (two n k p q) ms = is_done (at ms n) || two_over k (over p ms) (over q ms)

-- READY, by a statement's own rule; o: whether its first is over.
-- Emit that waits; wait that waits, its signal present
abbrev pub leaf_rule : Signals → Mark → Leaf → Bool
leaf_rule e Idle k = false
leaf_rule e Waiting nothing = false
leaf_rule e Waiting stop = false
leaf_rule e Waiting (emit s) = true
leaf_rule e Waiting (wait s) = slice_index_or e s false
leaf_rule e UnderWay k = false
leaf_rule e Done k = false

-- loop that waits, or whose first is over; kill whose first is over; local that waits, or is under
-- way with its first over
abbrev pub one_rule : Mark → One → Bool → Bool
one_rule Idle loop o = o
one_rule Waiting loop o = true
one_rule UnderWay loop o = o
one_rule Done loop o = o
one_rule m (kill s) o = o
one_rule Idle (local s) o = false
one_rule Waiting (local s) o = true
one_rule UnderWay (local s) o = o
one_rule Done (local s) o = false

-- sequence whose first is over; when that waits, its signal present
abbrev pub two_rule : Signals → Mark → Two → Bool → Bool
two_rule e m sequence o = o
two_rule e m parallel o = false
two_rule e Idle (when s) o = false
two_rule e Waiting (when s) o = slice_index_or e s false
two_rule e UnderWay (when s) o = false
two_rule e Done (when s) o = false

abbrev pub rule : Tree → List Mark → Signals → Bool
rule (leaf n k) ms e = leaf_rule e (at ms n) k
rule (one n k p) ms e = one_rule (at ms n) k (over p ms)
rule (two n k p q) ms e = two_rule e (at ms n) k (over p ms)

-- a local that waits is shut
abbrev pub shut : Mark → One → Bool
shut Idle k = false
shut Waiting loop = false
shut Waiting (kill s) = false
shut Waiting (local s) = true
shut UnderWay k = false
shut Done k = false

-- statement i, of the tree, is ready: its rule applies, and it does not lie inside a local that is
-- shut
abbrev pub ready : Tree → List Mark → Signals → ℕ → Bool
ready (leaf n k) ms e i = pick (ℕ_discrete i n) (leaf_rule e (at ms n) k) false
ready (one n k p) ms e i =
    pick (ℕ_discrete i n) (one_rule (at ms n) k (over p ms))
    (not (shut (at ms n) k) && ready p ms e i)
ready (two n k p q) ms e i =
    pick (ℕ_discrete i n) (two_rule e (at ms n) k (over p ms)) (ready p ms e i || ready q ms e i)

-- statement i is in the tree, and not inside a local that is shut
abbrev pub reached : Tree → List Mark → ℕ → Bool
reached (leaf n k) ms i = pick (ℕ_discrete i n) true false
reached (one n k p) ms i = pick (ℕ_discrete i n) true (not (shut (at ms n) k) && reached p ms i)
reached (two n k p q) ms i = pick (ℕ_discrete i n) true (reached p ms i || reached q ms i)

-- THE STEP of a ready statement: its marks. Loop that waits: under way, begin first. Loop with
-- first over: idle first, wait. Kill: idle first, done. Local that waits: under way. Local with
-- first over: idle first, done
abbrev pub one_fired : ℕ → Mark → One → Tree → List Mark → List Mark
one_fired n Idle loop p ms = idled p (slice_set ms n Waiting)
one_fired n Waiting loop p ms = begun p (slice_set ms n UnderWay)
one_fired n UnderWay loop p ms = idled p (slice_set ms n Waiting)
one_fired n Done loop p ms = idled p (slice_set ms n Waiting)
one_fired n m (kill s) p ms = idled p (slice_set ms n Done)
one_fired n Idle (local s) p ms = ms
one_fired n Waiting (local s) p ms = slice_set ms n UnderWay
one_fired n UnderWay (local s) p ms = idled p (slice_set ms n Done)
one_fired n Done (local s) p ms = ms

-- Sequence: idle first, begin second. When: under way, begin first
abbrev pub two_fired : ℕ → Two → Tree → Tree → List Mark → List Mark
two_fired n sequence p q ms = begun q (idled p ms)
two_fired n parallel p q ms = ms
two_fired n (when s) p q ms = begun p (slice_set ms n UnderWay)

-- Emit and wait: done
abbrev pub fire : Tree → List Mark → List Mark
fire (leaf n k) ms = slice_set ms n Done
fire (one n k p) ms = one_fired n (at ms n) k p ms
fire (two n k p q) ms = two_fired n k p q ms

-- and its signals: an emit raises its signal, a local drops its own, at both of its steps
pub data Effect : Type 0 where
  no_effect : Effect
  raises drops : ℕ → Effect

abbrev pub leaf_effect : Leaf → Effect
leaf_effect nothing = no_effect
leaf_effect stop = no_effect
leaf_effect (emit s) = raises s
leaf_effect (wait s) = no_effect

abbrev pub one_effect : One → Effect
one_effect loop = no_effect
one_effect (kill s) = no_effect
one_effect (local s) = drops s

abbrev pub effect_of : Tree → Effect
effect_of (leaf n k) = leaf_effect k
effect_of (one n k p) = one_effect k
effect_of (two n k p q) = no_effect

abbrev pub apply : Effect → Signals → Signals
apply no_effect e = e
apply (raises s) e = slice_set e s true
apply (drops s) e = slice_set e s false

-- THE END OF THE INSTANT, down from the tree's statement. What is over keeps its marks. Stop is
-- done. Wait stays. When that waits is under way and its second is begun. Sequence, parallel, loop
-- and when under way pass the end to their live parts. Kill with its signal present idles its first
-- and is done, else it passes the end on. Local waits and passes it on
abbrev pub leaf_ended : ℕ → Mark → Leaf → List Mark → List Mark
leaf_ended n Idle k ms = ms
leaf_ended n Waiting nothing ms = ms
leaf_ended n Waiting stop ms = slice_set ms n Done
leaf_ended n Waiting (emit s) ms = ms
leaf_ended n Waiting (wait s) ms = ms
leaf_ended n UnderWay k ms = ms
leaf_ended n Done k ms = ms

-- go: the end of the part
abbrev pub one_ended : ℕ → Mark → One → Tree → (List Mark → List Mark) → List Mark → Signals
    → List Mark
one_ended n Idle k p go ms e = ms
one_ended n Waiting loop p go ms e = ms
one_ended n Waiting (kill s) p go ms e = ms
one_ended n Waiting (local s) p go ms e = go (slice_set ms n Waiting)
one_ended n UnderWay loop p go ms e = go ms
one_ended n UnderWay (kill s) p go ms e =
    cond (slice_index_or e s false) (idled p (slice_set ms n Done)) (go ms)
one_ended n UnderWay (local s) p go ms e = go (slice_set ms n Waiting)
one_ended n Done k p go ms e = ms

-- o: whether the statement is over
abbrev pub two_ended : ℕ → Mark → Two → Bool → Tree → (List Mark → List Mark)
    → (List Mark → List Mark) → List Mark → List Mark
two_ended n Idle k o q go go' ms = ms
two_ended n Waiting sequence o q go go' ms = ms
two_ended n Waiting parallel o q go go' ms = ms
two_ended n Waiting (when s) o q go go' ms = begun q (slice_set ms n UnderWay)
two_ended n UnderWay k o q go go' ms = cond o ms (go' (go ms))
two_ended n Done k o q go go' ms = ms

abbrev pub ended : Tree → List Mark → Signals → List Mark
ended (leaf n k) ms e = leaf_ended n (at ms n) k ms
ended (one n k p) ms e = one_ended n (at ms n) k p (λ ns. ended p ns e) ms e
ended (two n k p q) ms e =
    two_ended n (at ms n) k (two_over k (over p ms) (over q ms)) q (λ ns. ended p ns e)
    (λ ns. ended q ns e) ms
