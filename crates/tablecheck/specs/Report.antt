-- what there is to print of a table
use Rattle.std.specs.Prelude.{ℕ, ◌+◌, ◌*◌, List, ◌++◌, length, Ok, Err, codes, decimal, Result}
use Rattle.std.specs.List.{count_by, repeat}
use Rattle.routine.specs.declared.kinds.SignalKind.{SignalKind}
use Rattle.routine.specs.declared.kinds.SignalKind.TheVariants.{Input, Output, Local}
use Rattle.routine.specs.declared.kinds.Kind.{Kind}
use Rattle.routine.specs.declared.kinds.Statement.{Statement}
use Rattle.routine.specs.declared.refusals.Refusal.{Refusal}
use Rattle.routine.specs.Kinds.{kinds, kind_at}
use Rattle.routine.specs.Texts.{line_end, kind_text}
use Rattle.routine.specs.Tree.{Tree, leaf, one, two, tree_at}
use Rattle.routine.specs.Meaning.{same}
use Rattle.routine.specs.View.{load_of}
use Rattle.tablecheck.specs.declared.report.Census.{Census}

-- two blanks for each level
abbrev pub indent : ℕ → List ℕ
indent d = repeat (2 * d) (codes " ")

-- statement i, d levels down: its number, its name and its signal
abbrev pub statement_text : ℕ → ℕ → Kind → List ℕ
statement_text d i k = indent d ++ (decimal i ++ (codes " " ++ kind_text k))

-- the line of statement i
abbrev pub outline_line : List Kind → ℕ → ℕ → List ℕ
outline_line ks d i = statement_text d i (kind_at ks i) ++ line_end

-- a line for each statement of the tree, its parts one level below it
abbrev pub outline : List Kind → ℕ → Tree → List ℕ
outline ks d (leaf n k) = outline_line ks d n
outline ks d (one n k p) = outline_line ks d n ++ outline ks (d + 1) p
outline ks d (two n k p q) = outline_line ks d n ++ (outline ks (d + 1) p ++ outline ks (d + 1) q)

-- how many there are of each, in print
abbrev pub census_text : Census → List ℕ
census_text c =
    codes "inputs " ++ (decimal c.inputs
    ++ (codes ", outputs " ++ (decimal c.outputs
    ++ (codes ", locals " ++ (decimal c.locals
    ++ (codes ", statements " ++ decimal c.statements))))))

-- how many signals of each kind and how many statements there are
abbrev pub census : List SignalKind → List Kind → Census
census gs ks = record {
  inputs = count_by (λ g. same g Input) gs;
  outputs = count_by (λ g. same g Output) gs;
  locals = count_by (λ g. same g Local) gs;
  statements = length ks;
}

-- the line of the numbers, and the outline of statement 0
abbrev pub routine_report : List SignalKind → List Kind → List ℕ
routine_report gs ks = (census_text (census gs ks) ++ line_end) ++ outline ks 0 (tree_at ks 0)

-- of a table that is no routine, its refusal
abbrev pub verdict : Result (List SignalKind × List Statement) Refusal → Result (List ℕ) Refusal
verdict (Ok p) = Ok (routine_report p.0 (kinds p.1))
verdict (Err e) = Err e

-- the report of the bytes
abbrev pub report_of : List ℕ → Result (List ℕ) Refusal
report_of bytes = verdict (load_of bytes)
