-- what is claimed of the worked routines holds, by computation
use Rattle.std.proofs.Common.{◌≡◌, ℕ, Bool, true, not, nat_le, List, [], ◌∷◌, length, map, All}
use Rattle.std.proofs.Common.{None, Option, refl, ap, arith}
use Rattle.std.proofs.lemmas.Bool.{not-false}
use Rattle.std.proofs.lemmas.List.Elements.{All-nil, All-cons}
use native.Mathlib.Decide.{ℕ_discrete}
use Rattle.signals.specs.Sets.{word_set, empty}
use Rattle.routine.specs.declared.refusals.Refusal.{Refusal}
use Rattle.routine.specs.declared.tables.TheConstants.{MOST_SIGNALS, MOST_STATEMENTS}
use Rattle.routine.specs.Search.{lowest}
use Rattle.routine.specs.Kinds.{kind_at}
use Rattle.routine.specs.Layout.{fits, Formed}
use Rattle.routine.specs.Tree.{tree, tree_at}
use Rattle.routine.specs.Meaning.{check_of}
use Rattle.routine.proofs.Searches.{none_below}
use Rattle.rules.specs.declared.status.Status.{Status}
use Rattle.rules.specs.Model.{settled, path, model}
use Rattle.count.specs.Calls.{new_state, first_not_input}
use Rattle.relay.specs.History.{Transition, trace}
use Rattle.worked.specs.Examples.{Example, firsts, seconds, entry_of, Holds}
use Rattle.worked.specs.Worked.{examples, unprinted}

-- what is computed for an example
record Computed : Type 0 where
  few_signals : Bool
  a_statement : Bool
  few_statements : Bool
  misfit : Option ℕ
  refusal : Option Refusal
  not_inputs : List (Option ℕ)
  words : List (ℕ × Status × ℕ)
  calls : List Transition

abbrev misfits : Example → ℕ → Bool
misfits x i = not (fits (length x.signals) (length x.kinds) i (kind_at x.kinds i))

abbrev results_of : Example → Computed
results_of x =
    record {
      few_signals = nat_le (length x.signals) MOST_SIGNALS;
      a_statement = nat_le 1 (length x.kinds);
      few_statements = nat_le (length x.kinds) MOST_STATEMENTS;
      misfit = lowest (misfits x) (length x.kinds);
      refusal = check_of x.signals x.kinds;
      not_inputs = map (first_not_input x.signals) (firsts x.words);
      words = map entry_of (model x.signals x.kinds (firsts x.words));
      calls = trace x.signals x.kinds (new_state x.kinds) (firsts x.calls);
    }

-- what is claimed of it
abbrev claims_of : Example → Computed
claims_of x =
    record {
      few_signals = true;
      a_statement = true;
      few_statements = true;
      misfit = None;
      refusal = x.refusal;
      not_inputs = map (λ word. None) (firsts x.words);
      words = seconds x.words;
      calls = seconds x.calls;
    }

-- no statement is found that does not fit
formed : (x : Example) → lowest (misfits x) (length x.kinds) ≡ None
    → Formed (length x.signals) x.kinds
formed x e = λ i l. not-false (fits (length x.signals) (length x.kinds) i (kind_at x.kinds i))
    (none_below (misfits x) (length x.kinds) e i l)

none_each : (f : ℕ → Option ℕ) (ws : List ℕ) → map f ws ≡ map (λ w. None) ws
    → All (λ w. f w ≡ None) ws
none_each f [] e = All-nil (λ w. f w ≡ None)
none_each f (w ∷ ws) e =
    All-cons (λ v. f v ≡ None) w ws (grind (arith, e)) (none_each f ws (grind (arith, e)))

holds : (x : Example) → results_of x ≡ claims_of x → Holds x
holds x e =
    let g = ap (λ (c : Computed). c.few_signals) e in
    let n = ap (λ (c : Computed). c.a_statement) e in
    let m = ap (λ (c : Computed). c.few_statements) e in
    record {
      few_signals = grind (arith, g);
      few_statements = (grind (arith, n), grind (arith, m));
      formed = formed x (ap (λ (c : Computed). c.misfit) e);
      checked = ap (λ (c : Computed). c.refusal) e;
      inputs = none_each (first_not_input x.signals) (firsts x.words)
          (ap (λ (c : Computed). c.not_inputs) e);
      words = ap (λ (c : Computed). c.words) e;
      calls = ap (λ (c : Computed). c.calls) e;
    }

each : (xs : List Example) → map results_of xs ≡ map claims_of xs → All Holds xs
each [] e = All-nil Holds
each (x ∷ xs) e =
    All-cons Holds x xs (holds x (grind (arith, e))) (each xs (grind (arith, e)))

-- all of it, of each worked routine
pub all_hold : All Holds examples
unfolding word_set empty tree tree_at check_of settled path first_not_input trace ℕ_discrete
all_hold = each examples refl

-- and of those that are not printed
pub unprinted_hold : All Holds unprinted
unfolding word_set empty tree tree_at check_of settled path first_not_input trace ℕ_discrete
unprinted_hold = each unprinted refl
