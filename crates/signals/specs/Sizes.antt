-- The sets that boards give have a place for each signal, as the law of a board asks.
use Rattle.std.specs.Prelude.{◌≡◌, ℕ, ◌/◌, ◌%◌, ◌^◌, length, nat_eq, List, slice_index}
use Rattle.std.proofs.lemmas.List.FromFn.{length-map-range_with_len}
use Rattle.signals.specs.declared.board.TheConstants.{SIGNALS}
use Rattle.signals.specs.Sets.{word_set, stamp_set}

pub length-word_set : (w : ℕ) → length (word_set w) ≡ SIGNALS
unfolding word_set
length-word_set w = length-map-range_with_len (λ k. nat_eq (w / 2 ^ k % 2) 1) 0 SIGNALS

pub length-stamp_set : (xs : List ℕ) (c : ℕ) → length (stamp_set xs c) ≡ SIGNALS
unfolding stamp_set
length-stamp_set xs c = length-map-range_with_len (λ k. nat_eq (slice_index xs k) c) 0 SIGNALS
