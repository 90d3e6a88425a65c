-- which signals are present after a call
use Rattle.std.proofs.Common.{◌≡◌, ℕ, ◌<◌, ◌≢◌, Bool, true, false, not, ◌&&◌, List, length, None}
use Rattle.std.proofs.Common.{ap, ◌∙◌, get_or, slice_set, arith}
use Rattle.std.proofs.lemmas.Bool.{ltb-true, and_parts}
use Rattle.std.proofs.lemmas.List.{get_or-set_other, get_or_past}
use native.Mathlib.Decide.{dec_lt}
use Rattle.routine.specs.declared.kinds.Kind.{Kind}
use Rattle.routine.specs.declared.kinds.Kind.TheVariants.{Nothing, Stop, Emit, Wait, Sequence}
use Rattle.routine.specs.declared.kinds.Kind.TheVariants.{Parallel, Loop, When, Kill, Local}
use Rattle.routine.specs.declared.kinds.SignalKind.{SignalKind}
use Rattle.routine.specs.declared.kinds.SignalKind.TheVariants.{Local as Own}
use Rattle.routine.specs.Kinds.{kind_at}
use Rattle.routine.specs.Layout.{fits, Formed}
use Rattle.routine.specs.Meaning.{is_input}
use Rattle.routine.proofs.Searches.{none_below}
use Rattle.signals.specs.declared.board.TheConstants.{SIGNALS}
use Rattle.signals.specs.Sets.{empty, word_set}
use Rattle.signals.specs.Sizes.{length-word_set}
use Rattle.signals.proofs.Sets.{get_or-empty, get_or-above}
use Rattle.signals.proofs.WordSets.{get_or-word_set}
use Rattle.rules.specs.Rules.{Signals, apply}
use Rattle.record.specs.Sound.{Within}
use Rattle.count.specs.Calls.{bit, is_not_input, first_not_input}
use Rattle.count.specs.Machine.{kind_effect}

-- no signal at all is present
pub within_empty : (g : ℕ) (e : Signals) → e ≡ empty → Within g e
within_empty g e h = λ s l. ap (λ p. get_or p s false) h ∙ get_or-empty s

within_set : (g s : ℕ) (b : Bool) (e : Signals) → s < g → Within g e → Within g (slice_set e s b)
within_set g s b e l h = λ k m. let d : k ≢ s = λ x. omega arith in
    get_or-set_other e s k b false d ∙ h k m

-- a step keeps the present signals within those of the routine
pub within_step : (g n i : ℕ) (k : Kind) (e : Signals) → fits g n i k ≡ true → Within g e
    → Within g (apply (kind_effect k) e)
within_step g n i Nothing e f h = h
within_step g n i Stop e f h = h
within_step g n i (Emit s) e f h = within_set g s true e (ltb-true s g f) h
within_step g n i (Wait s) e f h = h
within_step g n i (Sequence a b) e f h = h
within_step g n i (Parallel a b) e f h = h
within_step g n i (Loop a) e f h = h
within_step g n i (When s a b) e f h = h
within_step g n i (Kill s a) e f h = h
within_step g n i (Local s a) e f h = within_set g s false e (ltb-true s g (and_parts _ _ f).0) h

-- each statement's fields fit; beyond the last there is nothing
pub fits_at : (g : ℕ) (ks : List Kind) (i : ℕ) → Formed g ks
    → fits g (length ks) i (kind_at ks i) ≡ true
fits_at g ks i f =
    elim (dec_lt i (length ks)) [
      | yes l ↦ f i l
      | no d ↦ ap (fits g (length ks) i) (get_or_past ks i Nothing (omega arith))
    ]

-- a word without is_not_input bits shows signals of the routine only
pub within_word : (gs : List SignalKind) (word : ℕ) → first_not_input gs word ≡ None
    → Within (length gs) (word_set word)
unfolding first_not_input
within_word gs word h s l =
    elim (dec_lt s SIGNALS) [
      | yes b ↦ get_or-word_set word s b
          ∙ unset (bit word s) (is_input (get_or gs s Own))
          (none_below (is_not_input gs word) SIGNALS h s b) (ap is_input (get_or_past gs s Own l))
      | no d ↦ get_or-above (word_set word) s (length-word_set word) (omega arith)
    ]
  where
    unset : (b i : Bool) → (b && not i) ≡ false → i ≡ false → b ≡ false
    unset b i p q = grind arith
