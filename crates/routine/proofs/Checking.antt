-- the four tests, one after another
use Rattle.std.proofs.Common.{◌≡◌, ℕ, List, length, None, Option, sym, ap, ◌∙◌}
use Rattle.routine.specs.declared.kinds.SignalKind.{SignalKind}
use Rattle.routine.specs.declared.kinds.Kind.{Kind}
use Rattle.routine.specs.declared.refusals.Refusal.{Refusal}
use Rattle.routine.specs.declared.refusals.Refusal.TheVariants.{Parts, SignalUse, Scope}
use Rattle.routine.specs.declared.refusals.Refusal.TheVariants.{EndlessLoop}
use Rattle.routine.specs.Kinds.{kind_at}
use Rattle.routine.specs.Search.{lowest}
use Rattle.routine.specs.Meaning.{is_misnamed, misuses, unscoped, endless, refusing, check_of}

-- the first refusal of what the four tests found
abbrev pub chain : Option ℕ → Option ℕ → Option ℕ → Option ℕ → Option Refusal
chain a b c d = refusing a Parts
    (refusing b SignalUse (refusing c Scope (refusing d EndlessLoop None)))

module _ (gs : List SignalKind) (ks : List Kind) where
  abbrev pub verdict : Option Refusal
  verdict = check_of gs ks

  -- what each test found
  abbrev pub misnamed : Option ℕ
  misnamed = lowest (is_misnamed ks) (length ks)

  abbrev pub misuse : Option ℕ
  misuse = lowest (λ i. misuses gs (kind_at ks i)) (length ks)

  abbrev pub unscope : Option ℕ
  unscope = lowest (λ i. unscoped gs ks i (kind_at ks i)) (length ks)

  abbrev pub endlessness : Option ℕ
  endlessness = lowest (λ i. endless ks (kind_at ks i)) (length ks)

  -- what is found by other means than the definition makes the same verdict
  pub verdict_by : (a b c d : Option ℕ) → a ≡ misnamed → b ≡ misuse → c ≡ unscope → d ≡ endlessness
      → verdict ≡ chain a b c d
  unfolding check_of
  verdict_by a b c d p q r s =
      ap (λ x. chain x misuse unscope endlessness) (sym p)
      ∙ ap (λ x. chain a x unscope endlessness) (sym q)
      ∙ ap (λ x. chain a b x endlessness) (sym r) ∙ ap (chain a b c) (sym s)
