-- what is written of a relay: marks, transitions, traces, closed instants, bytes
use Rattle.std.specs.Prelude.{ℕ, ◌/◌, ◌%◌, List, [], ◌∷◌, ◌++◌, codes, decimal}
use Rattle.std.specs.List.{flat_map}
use Rattle.routine.specs.Refusals.{refusal_line}
use Rattle.routine.specs.Texts.{line_end}
use Rattle.rules.specs.Rules.{Mark, Idle, Waiting, UnderWay, Done}
use Rattle.rules.specs.Texts.{digit, hex, instant_text}
use Rattle.count.specs.declared.answers.Closing.{Closing}
use Rattle.count.specs.Texts.{closing_text}
use Rattle.relay.specs.History.{Transition, begins, steps, closes, reacts, takes_over, refuses}
use Rattle.relay.specs.ClosedInstants.{ClosedInstant, stepped_then}

-- a letter for each mark
abbrev pub letter : Mark → List ℕ
letter Idle = codes "-"
letter Waiting = codes "w"
letter UnderWay = codes "u"
letter Done = codes "d"

-- a closing and the marks that remain
abbrev pub closing_marks_text : Closing → List Mark → List ℕ
closing_marks_text c ms = closing_text c ++ (codes " marks " ++ flat_map letter ms)

-- numbers, each after a blank
abbrev pub number_text : ℕ → List ℕ
number_text k = codes " " ++ decimal k

-- all numbers of a list
abbrev pub numbers_text : List ℕ → List ℕ
numbers_text = flat_map number_text

-- the statements that were stepped in an instant
abbrev pub stepped_text : List ℕ → List ℕ
stepped_text v = codes " stepped" ++ numbers_text v

-- a transition, where v was stepped before in the open instant
abbrev pub transition_text : List ℕ → Transition → List ℕ
transition_text v (begins word) = codes "begin " ++ hex 16 word
transition_text v (steps k) = codes "step " ++ decimal k
transition_text v (closes c ms) = codes "close " ++ (closing_marks_text c ms ++ stepped_text v)
transition_text v (reacts word c ms u) =
    codes "react " ++ (hex 16 word ++ (codes " " ++ (closing_marks_text c ms ++ stepped_text u)))
transition_text v takes_over = codes "take over"
transition_text v (refuses r) = refusal_line r

-- its line
abbrev pub transition_line : List ℕ → Transition → List ℕ
transition_line v p = transition_text v p ++ line_end

-- a trace: a line for each call
abbrev pub trace_lines : List ℕ → List Transition → List ℕ
trace_lines v [] = []
trace_lines v (p ∷ ps) = transition_line v p ++ trace_lines (stepped_then v p) ps

-- a closed instant alone: its closing, the marks that remain, and how often each statement was
-- stepped
abbrev pub instant_line : ClosedInstant → List ℕ
instant_line e =
    instant_text e.instant e.outcome.outputs e.outcome.status e.outcome.steps
    ++ (codes " marks " ++ (flat_map letter e.outcome.marks
    ++ (codes " times" ++ (numbers_text e.outcome.times ++ line_end))))

-- two hexadecimal digits
abbrev pub byte_text : ℕ → List ℕ
byte_text b = digit (b / 16) ∷ digit (b % 16) ∷ []
