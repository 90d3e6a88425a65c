-- the rules as the code takes them: with the presence of a statement's own signal
use Rattle.std.specs.Prelude.{Bool, true, false, List, slice_index_or}
use Rattle.rules.specs.Rules.{Mark, Idle, Waiting, UnderWay, Done, Leaf, nothing, stop, emit, wait}
use Rattle.rules.specs.Rules.{One, loop, kill, local, Two, sequence, parallel, when, Tree, leaf}
use Rattle.rules.specs.Rules.{one, two}
use Rattle.routine.specs.declared.kinds.Kind.{Kind}
use Rattle.routine.specs.declared.kinds.Kind.TheVariants.{Nothing, Stop, Emit, Wait, Sequence}
use Rattle.routine.specs.declared.kinds.Kind.TheVariants.{Parallel, Loop, When, Kill, Local}
use Rattle.rules.specs.Rules.{Signals, at, over, one_rule, Effect, no_effect, raises, drops}

-- the statement's own signal is present
abbrev pub leaf_signal_present : Leaf → Signals → Bool
leaf_signal_present nothing e = false
leaf_signal_present stop e = false
leaf_signal_present (emit s) e = slice_index_or e s false
leaf_signal_present (wait s) e = slice_index_or e s false

abbrev pub one_signal_present : One → Signals → Bool
one_signal_present loop e = false
one_signal_present (kill s) e = slice_index_or e s false
one_signal_present (local s) e = slice_index_or e s false

abbrev pub two_signal_present : Two → Signals → Bool
two_signal_present sequence e = false
two_signal_present parallel e = false
two_signal_present (when s) e = slice_index_or e s false

abbrev pub own_signal_present : Tree → Signals → Bool
own_signal_present (leaf n k) e = leaf_signal_present k e
own_signal_present (one n k p) e = one_signal_present k e
own_signal_present (two n k p q) e = two_signal_present k e

-- the rule of a statement, where h says whether its signal is present
abbrev pub leaf_applies : Mark → Leaf → Bool → Bool
leaf_applies Idle k h = false
leaf_applies Waiting nothing h = false
leaf_applies Waiting stop h = false
leaf_applies Waiting (emit s) h = true
leaf_applies Waiting (wait s) h = h
leaf_applies UnderWay k h = false
leaf_applies Done k h = false

-- o: whether its first is over
abbrev pub two_applies : Mark → Two → Bool → Bool → Bool
two_applies m sequence o h = o
two_applies m parallel o h = false
two_applies Idle (when s) o h = false
two_applies Waiting (when s) o h = h
two_applies UnderWay (when s) o h = false
two_applies Done (when s) o h = false

abbrev pub applies : Tree → List Mark → Bool → Bool
applies (leaf n k) ms h = leaf_applies (at ms n) k h
applies (one n k p) ms h = one_rule (at ms n) k (over p ms)
applies (two n k p q) ms h = two_applies (at ms n) k (over p ms) h

-- what the step of a statement of that kind does to the signals
abbrev pub kind_effect : Kind → Effect
kind_effect Nothing = no_effect
kind_effect Stop = no_effect
kind_effect (Emit s) = raises s
kind_effect (Wait s) = no_effect
kind_effect (Sequence a b) = no_effect
kind_effect (Parallel a b) = no_effect
kind_effect (Loop a) = no_effect
kind_effect (When s a b) = no_effect
kind_effect (Kill s a) = no_effect
kind_effect (Local s a) = drops s
