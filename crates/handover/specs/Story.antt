-- what the program prints of its input
use Rattle.std.specs.Prelude.{◌≡◌, ℕ, Bool, true, false, List, [], ◌++◌, length, codes, nat_eq, Ok}
use Rattle.std.specs.Prelude.{Err, Result}
use Rattle.std.specs.List.{flat_map}
use lib.Pointwise.{pointwise}
use Rattle.routine.specs.declared.kinds.SignalKind.{SignalKind}
use Rattle.routine.specs.declared.kinds.Kind.{Kind}
use Rattle.routine.specs.declared.kinds.Statement.{Statement}
use Rattle.routine.specs.declared.refusals.Refusal.{Refusal}
use Rattle.routine.specs.Kinds.{kinds}
use Rattle.routine.specs.Texts.{line_end}
use Rattle.routine.specs.View.{load_of}
use Rattle.input.specs.Input.{table_part, rest_part}
use Rattle.input.specs.Printed.{said}
use Rattle.input.specs.declared.printed.Printed.{Printed}
use Rattle.record.specs.Record.{record_of}
use Rattle.relay.specs.Asked.{Asked}
use Rattle.count.specs.Calls.{new_state}
use Rattle.relay.specs.History.{Transition, trace, after_calls}
use Rattle.relay.specs.ClosedInstants.{taken, accepted, closed_instants, left_open}
use Rattle.handover.specs.CallLists.{list_of}
use Rattle.handover.specs.RelayTexts.{trace_lines, instant_line, byte_text}

-- the hand-over: the record, and that it was taken over
unfoldable pub handed_text : List ℕ → List ℕ
handed_text handed = codes "hand over "
    ++ (flat_map byte_text handed ++ (line_end ++ (codes "taken over" ++ line_end)))

-- a relay: a line for each call on the first board, the hand-over, a line for each on the second
abbrev pub relay_text : List Transition → List ℕ → List Transition → List ℕ
relay_text before handed later =
    trace_lines [] before ++ (handed_text handed ++ trace_lines (left_open [] before) later)

-- the closed instants of a trace alone, of a routine of n statements
abbrev pub instants_text : ℕ → List Transition → List ℕ
instants_text n ps = flat_map instant_line (closed_instants n [] ps)

-- (of the relay of the calls cs and ds) the trace of cs on a new count of the routine
abbrev pub before_of : List SignalKind → List Kind → List Asked → List Transition
before_of gs ks cs = trace gs ks (new_state ks) cs

-- the record that is handed over
abbrev pub handed_of : List SignalKind → List Kind → List Asked → List ℕ
handed_of gs ks cs = record_of (length gs) (length ks) (after_calls gs ks (new_state ks) cs)

-- the trace of ds after it
abbrev pub later_of : List SignalKind → List Kind → List Asked → List Asked → List Transition
later_of gs ks cs ds = trace gs ks (after_calls gs ks (new_state ks) cs) ds

-- both traces as one
abbrev pub whole_of : List SignalKind → List Kind → List Asked → List Asked → List Transition
whole_of gs ks cs ds = before_of gs ks cs ++ later_of gs ks cs ds

-- its text
unfoldable pub text_of : List SignalKind → List Kind → List Asked → List Asked → List ℕ
text_of gs ks cs ds = relay_text (before_of gs ks cs) (handed_of gs ks cs) (later_of gs ks cs ds)

-- the text of its closed instants alone
unfoldable pub instants_of : List SignalKind → List Kind → List Asked → List Asked → List ℕ
instants_of gs ks cs ds = instants_text (length ks) (whole_of gs ks cs ds)

-- whether the closed instants of two relays are the same
unfoldable pub verdict : Bool → List ℕ
verdict true = codes "the same instants" ++ line_end
verdict false = codes "other instants" ++ line_end

-- are two texts the same?
abbrev pub same_text : List ℕ → List ℕ → Bool
same_text = pointwise nat_eq

-- the first relay under its title
unfoldable pub one_way : List ℕ → List ℕ
one_way text = codes "from a bit board to a stamp board" ++ (line_end ++ text)

-- the second relay under its title
unfoldable pub other_way : List ℕ → List ℕ
other_way text = codes "from a stamp board to a bit board" ++ (line_end ++ text)

-- the texts of two relays, and the verdict
abbrev pub both_text : List ℕ → List ℕ → Bool → List ℕ
both_text first second same = one_way first ++ (other_way second ++ verdict same)

-- the same by four lists of calls: cs and ds of the first relay, es and fs of the second
abbrev pub both_of : List SignalKind → List Kind → List Asked → List Asked → List Asked
    → List Asked → List ℕ
both_of gs ks cs ds es fs =
    both_text (text_of gs ks cs ds) (text_of gs ks es fs)
    (same_text (instants_of gs ks cs ds) (instants_of gs ks es fs))

-- the four lists of calls of the input, one after another
abbrev pub first_of : List ℕ → List Asked
first_of bytes = (list_of bytes).0

abbrev pub second_of : List ℕ → List Asked
second_of bytes = (list_of (list_of bytes).1).0

abbrev pub third_of : List ℕ → List Asked
third_of bytes = (list_of (list_of (list_of bytes).1).1).0

abbrev pub fourth_of : List ℕ → List Asked
fourth_of bytes = (list_of (list_of (list_of (list_of bytes).1).1).1).0

-- both relays by those lists, and the verdict
unfoldable pub lists_text : List SignalKind → List Kind → List ℕ → List ℕ
lists_text gs ks bytes =
    both_of gs ks (first_of bytes) (second_of bytes) (third_of bytes) (fourth_of bytes)

-- two relays of the routine accept the same words, as many instants are closed in both, and no take
-- over but that of the record is accepted
pub record SameWords (gs : List SignalKind) (ks : List Kind)
    (cs ds es fs : List Asked) : Type 0 where
  pub untaken : taken (whole_of gs ks cs ds) ≡ false
  pub untaken_again : taken (whole_of gs ks es fs) ≡ false
  pub words : accepted (whole_of gs ks cs ds) ≡ accepted (whole_of gs ks es fs)
  pub many : length (closed_instants (length ks) [] (whole_of gs ks cs ds))
      ≡ length (closed_instants (length ks) [] (whole_of gs ks es fs))

-- both relays, and the verdict that the instants are the same
abbrev pub agreeing_text : List SignalKind → List Kind → List ℕ → List ℕ
agreeing_text gs ks bytes = both_text (text_of gs ks (first_of bytes) (second_of bytes))
    (text_of gs ks (third_of bytes) (fourth_of bytes)) true

-- the four lists of the input are of that kind
abbrev pub SameWordsIn : List SignalKind → List Kind → List ℕ → Type 0
SameWordsIn gs ks bytes =
    SameWords gs ks (first_of bytes) (second_of bytes) (third_of bytes) (fourth_of bytes)

-- a table that is no routine is refused; else both relays are written
abbrev pub started : Result (List SignalKind × List Statement) Refusal → List ℕ
    → Result (List ℕ) Refusal
started (Ok p) bytes = Ok (lists_text p.0 (kinds p.1) bytes)
started (Err e) bytes = Err e

-- the whole input
abbrev pub story_of : List ℕ → Result (List ℕ) Refusal
story_of bytes = started (load_of (table_part bytes)) (rest_part bytes)

-- of a routine: where the words are the same, the verdict is that the instants are the same
abbrev pub SaysSame : Result (List SignalKind × List Statement) Refusal → List ℕ → Printed → Type 0
SaysSame (Ok p) bytes s = SameWordsIn p.0 (kinds p.1) bytes
    → said s ≡ Ok (agreeing_text p.0 (kinds p.1) bytes)
SaysSame (Err e) bytes s = Unit {0}
