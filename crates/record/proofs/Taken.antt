-- what is accepted is sound
use Rattle.std.proofs.Common.{◌≡◌, ℕ, ◌^◌, ◌<◌, true, false, List, length, None, get_or, ap, ◌∙◌}
use Rattle.std.proofs.Common.{arith}
use Rattle.std.proofs.lemmas.Nat.{pow_pos}
use Rattle.routine.specs.declared.kinds.Kind.{Kind}
use Rattle.routine.specs.declared.kinds.SignalKind.{SignalKind}
use Rattle.signals.specs.Sets.{word_set}
use Rattle.signals.specs.Sizes.{length-word_set}
use Rattle.signals.proofs.WordSets.{word_set-zero}
use Rattle.record.specs.declared.phases.Phase.{Phase}
use Rattle.record.specs.declared.phases.Phase.TheVariants.{Resting, Open, Over}
use Rattle.record.specs.declared.heads.Head.{Head}
use Rattle.record.specs.declared.heads.TheConstants.{MOST_INSTANTS}
use Rattle.record.specs.Phases.{is_open}
use Rattle.record.specs.Sound.{Sound}
use Rattle.record.specs.Taking.{closed_in, steps_in, head_in, fault_by, taking_refusal, state_in}
use Rattle.record.proofs.Words.{word_within}
use Rattle.record.proofs.Fields.{length-marks_in, still_zeros, open_bounds}
use Rattle.record.proofs.Accepted.{faultless, each_keeps, at_end}

zeros : (p : Phase) (g : ℕ) (h : Head) → fault_by p g h ≡ None → is_open p ≡ false
    → (h.steps ≡ 0) × (h.present ≡ 0)
zeros Resting g h e c = still_zeros h e
zeros Open g h e c = absurd (cc)
zeros Over g h e c = still_zeros h e

present_below : (p : Phase) (g : ℕ) (h : Head) → fault_by p g h ≡ None → h.present < 2 ^ g
present_below Resting g h e = let z = still_zeros h e in omega (arith, z.1, pow_pos g)
present_below Open g h e = (open_bounds g h e).1
present_below Over g h e = let z = still_zeros h e in omega (arith, z.1, pow_pos g)

not_last : (p : Phase) (g : ℕ) (h : Head) → fault_by p g h ≡ None → is_open p ≡ true
    → h.closed ≡ MOST_INSTANTS → ⊥
not_last Resting g h e o = absurd (cc)
not_last Open g h e o = (open_bounds g h e).0
not_last Over g h e o = absurd (cc)

module _ (bytes : List ℕ) (small : (i : ℕ) → get_or bytes i 0 < 256) where
  closed_small : closed_in bytes < 2 ^ 32
  closed_small = omega (arith, small 9, small 10, small 11, small 12)

  steps_small : steps_in bytes < 2 ^ 16
  steps_small = omega (arith, small 13, small 14)

-- (of at least one statement: with none, no byte says whether statement 0 is over at the end)
pub taken_sound : (gs : List SignalKind) (ks : List Kind) (bytes : List ℕ) → 0 < length ks
    → ((i : ℕ) → get_or bytes i 0 < 256)
    → taking_refusal gs ks bytes ≡ None → Sound gs ks (state_in (length ks) bytes)
unfolding head_in
taken_sound gs ks bytes some small ok =
    let h : Head = head_in bytes in
    let g = length gs in
    let e = faultless gs ks bytes ok in
    let c = closed_small bytes small in
    record {
      legal = record { many = length-marks_in (length ks) bytes; each = each_keeps gs ks bytes ok };
      finished = at_end gs ks bytes ok some;
      no_steps = λ o. (zeros h.phase g h e o).0;
      no_signals = λ o. ap word_set (zeros h.phase g h e o).1 ∙ word_set-zero;
      within = word_within h.present g (present_below h.phase g h e);
      sized = length-word_set h.present;
      room = λ o. let n = not_last h.phase g h e o in omega (arith, c, n);
      closed_fits = c;
      steps_fit = steps_small bytes small;
    }
