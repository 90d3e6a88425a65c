-- the worked routines of docs/LANGUAGE.md, and what is claimed of each
use Rattle.std.specs.Prelude.{List, [], ◌∷◌, Some, None}
use Rattle.routine.specs.declared.kinds.SignalKind.TheVariants.{Input, Output, Local as Own}
use Rattle.routine.specs.declared.kinds.Kind.TheVariants.{Nothing, Stop, Emit, Wait, Sequence}
use Rattle.routine.specs.declared.kinds.Kind.TheVariants.{Parallel, Loop, When, Kill, Local}
use Rattle.routine.specs.declared.refusals.Refusal.TheVariants.{EndlessLoop, AlreadyOver, NotReady}
use Rattle.rules.specs.declared.status.Status.TheVariants.{Suspended, Terminated}
use Rattle.rules.specs.Rules.{UnderWay, Done}
use Rattle.relay.specs.Asked.{begin, step, close}
use Rattle.relay.specs.History.{begins, steps, closes, refuses}
use Rattle.worked.specs.Examples.{Example}

-- 1: nothing
abbrev pub nothing_at_all : Example
nothing_at_all =
    record {
      number = 1;
      signals = [];
      kinds = Nothing ∷ [];
      refusal = None;
      words = (0, (0, Terminated, 0)) ∷ [];
      calls =
          (begin 0, begins 0)
          ∷ (
            close,
            closes (record { instant = 1; outputs = 0; status = Terminated; steps = 0 })
                (Done ∷ []),
          )
          ∷ (begin 0, refuses AlreadyOver)
          ∷ [];
    }

-- 2: stop
abbrev pub just_stop : Example
just_stop =
    record {
      number = 2;
      signals = [];
      kinds = Stop ∷ [];
      refusal = None;
      words = (0, (0, Suspended, 0)) ∷ (0, (0, Terminated, 0)) ∷ [];
      calls = [];
    }

-- 3: parallel(parallel(when A(emit B, nothing), emit A), sequence(wait B, emit C)), outputs A, B, C
-- = 0, 1, 2
abbrev pub relayed : Example
relayed =
    record {
      number = 3;
      signals = Output ∷ Output ∷ Output ∷ [];
      kinds = Parallel 1 6 ∷ Parallel 2 5 ∷ When 0 3 4 ∷ Emit 1 ∷ Nothing ∷ Emit 0 ∷ Sequence 7 8
          ∷ Wait 1 ∷ Emit 2 ∷ [];
      refusal = None;
      words = (0, (7, Terminated, 6)) ∷ [];
      calls = [];
    }

-- 4: local L(when L(nothing, emit L)), local L = 0
abbrev pub too_late : Example
too_late =
    record {
      number = 4;
      signals = Own ∷ [];
      kinds = Local 0 1 ∷ When 0 2 3 ∷ Nothing ∷ Emit 0 ∷ [];
      refusal = None;
      words = (0, (0, Suspended, 1)) ∷ (0, (0, Terminated, 3)) ∷ [];
      calls = [];
    }

-- 5: sequence(kill A(loop(stop)), emit B), input A = 0, output B = 1
abbrev pub killed : Example
killed =
    record {
      number = 5;
      signals = Input ∷ Output ∷ [];
      kinds = Sequence 1 4 ∷ Kill 0 2 ∷ Loop 3 ∷ Stop ∷ Emit 1 ∷ [];
      refusal = None;
      words = (0, (0, Suspended, 1)) ∷ (1, (0, Suspended, 2)) ∷ (0, (2, Terminated, 2)) ∷ [];
      calls = [];
    }

-- 6: kill A(nothing), input A = 0
abbrev pub over_already : Example
over_already =
    record {
      number = 6;
      signals = Input ∷ [];
      kinds = Kill 0 1 ∷ Nothing ∷ [];
      refusal = None;
      words = (1, (0, Terminated, 1)) ∷ [];
      calls = [];
    }

-- 7: loop(local L(sequence(when L(emit O, nothing), sequence(stop, emit L)))), local L = 0, output
-- O = 1
abbrev pub new_life : Example
new_life =
    record {
      number = 7;
      signals = Own ∷ Output ∷ [];
      kinds = Loop 1 ∷ Local 0 2 ∷ Sequence 3 6 ∷ When 0 4 5 ∷ Emit 1 ∷ Nothing ∷ Sequence 7 8
          ∷ Stop ∷ Emit 0 ∷ [];
      refusal = None;
      words =
          (0, (0, Suspended, 2))
          ∷ (0, (0, Suspended, 2))
          ∷ (0, (0, Suspended, 7))
          ∷ (0, (0, Suspended, 2))
          ∷ [];
      calls = [];
    }

-- 7 too, the signals numbered the other way round: output O = 0, local L = 1
abbrev pub new_life_renumbered : Example
new_life_renumbered =
    record {
      number = 7;
      signals = Output ∷ Own ∷ [];
      kinds = Loop 1 ∷ Local 1 2 ∷ Sequence 3 6 ∷ When 1 4 5 ∷ Emit 0 ∷ Nothing ∷ Sequence 7 8
          ∷ Stop ∷ Emit 1 ∷ [];
      refusal = None;
      words = new_life.words;
      calls = [];
    }

-- 8: parallel(emit A, wait A), output A = 0. The wait is not ready before the emit was stepped
abbrev pub side_by_side : Example
side_by_side =
    record {
      number = 8;
      signals = Output ∷ [];
      kinds = Parallel 1 2 ∷ Emit 0 ∷ Wait 0 ∷ [];
      refusal = None;
      words = (0, (1, Terminated, 2)) ∷ [];
      calls =
          (begin 0, begins 0)
          ∷ (step 2, refuses (NotReady 2))
          ∷ (step 1, steps 1)
          ∷ (step 2, steps 2)
          ∷ (
            close,
            closes (record { instant = 1; outputs = 1; status = Terminated; steps = 2 })
                (UnderWay ∷ Done ∷ Done ∷ []),
          )
          ∷ [];
    }

-- 9: loop(wait A), input A = 0
abbrev pub endless : Example
endless =
    record {
      number = 9;
      signals = Input ∷ [];
      kinds = Loop 1 ∷ Wait 0 ∷ [];
      refusal = Some (EndlessLoop 0);
      words = [];
      calls = [];
    }

-- 9 too: loop(when A(stop, nothing)), input A = 0
abbrev pub takes_time : Example
takes_time =
    record {
      number = 9;
      signals = Input ∷ [];
      kinds = Loop 1 ∷ When 0 2 3 ∷ Stop ∷ Nothing ∷ [];
      refusal = None;
      words = [];
      calls = [];
    }

-- the worked routines, in the order of docs/LANGUAGE.md
abbrev pub examples : List Example
examples =
    nothing_at_all ∷ just_stop ∷ relayed ∷ too_late ∷ killed ∷ over_already ∷ new_life
    ∷ side_by_side ∷ endless ∷ takes_time ∷ []

-- of these too something is claimed, but no line is printed
abbrev pub unprinted : List Example
unprinted = new_life_renumbered ∷ []
