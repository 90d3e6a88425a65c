-- what is printed of an input
use Rattle.std.specs.Prelude.{ℕ, List, [], ◌∷◌, ◌++◌, Some, None, Ok, Err, Option, Result}
use Rattle.routine.specs.declared.kinds.SignalKind.{SignalKind}
use Rattle.routine.specs.declared.kinds.Kind.{Kind}
use Rattle.routine.specs.declared.kinds.Statement.{Statement}
use Rattle.routine.specs.declared.refusals.Refusal.{Refusal}
use Rattle.routine.specs.Kinds.{kinds}
use Rattle.routine.specs.Refusals.{refusal_line}
use Rattle.routine.specs.Texts.{line_end}
use Rattle.routine.specs.View.{load_of}
use Rattle.count.specs.declared.answers.Closing.{Closing}
use Rattle.record.specs.State.{State}
use Rattle.count.specs.Texts.{closing_text}
use Rattle.count.specs.Calls.{new_state, begin_refusal, react_closing, react_state}
use Rattle.input.specs.Input.{table_part, rest_part}
use Rattle.run.specs.InputWords.{words_of}

-- a closed instant, as a line
abbrev pub closing_line : Closing → List ℕ
closing_line c = closing_text c ++ line_end

-- a refusal, as a line
abbrev pub refused_line : Refusal → List ℕ
refused_line e = refusal_line e ++ line_end

-- the line of a word and what follows it: a refusal is the last line
abbrev pub line_of : Option Refusal → Closing → List ℕ → List ℕ
line_of (Some e) c rest = refused_line e
line_of None c rest = closing_line c ++ rest

-- the lines of a count in state s, which reacts to each word
unfoldable pub lines : List SignalKind → List Kind → State → List ℕ → List ℕ
lines gs ks s [] = []
lines gs ks s (w ∷ ws) =
    line_of (begin_refusal gs s w) (react_closing gs ks s w)
    (lines gs ks (react_state gs ks s w) ws)

-- a table that is no routine is refused; else a new count reacts to the words
abbrev pub started : Result (List SignalKind × List Statement) Refusal → List ℕ
    → Result (List ℕ) Refusal
started (Ok p) ws = Ok (lines p.0 (kinds p.1) (new_state (kinds p.1)) ws)
started (Err e) ws = Err e

-- the whole input
abbrev pub listing_of : List ℕ → Result (List ℕ) Refusal
listing_of bytes = started (load_of (table_part bytes)) (words_of (rest_part bytes))
