-- Sets of the signals 0 to 63, as lists of Booleans: at place k, is signal k in the set?
use Rattle.std.specs.Prelude.{ℕ, ◌+◌, ◌/◌, ◌%◌, ◌^◌, Bool, false, cond, List, map, replicate}
use Rattle.std.specs.Prelude.{nat_eq, nat_lt, slice_index}
use Rattle.std.specs.List.{range_with_len}
use Rattle.signals.specs.declared.board.TheConstants.{SIGNALS}

-- the set of no signal
unfoldable pub empty : List Bool
empty = replicate SIGNALS false

-- the set of a word: signal k is in it where bit k is 1
unfoldable pub word_set : ℕ → List Bool
word_set w = map (λ k. nat_eq (w / 2 ^ k % 2) 1) (range_with_len 0 SIGNALS)

-- the set of a row of stamps: signal k is in it where its stamp is the current one
unfoldable pub stamp_set : List ℕ → ℕ → List Bool
stamp_set stamps current =
    map (λ k. nat_eq (slice_index stamps k) current) (range_with_len 0 SIGNALS)

-- the stamp that a wipe takes: after 4294967295, the last that 32 bits hold, comes 1
abbrev pub next_stamp : ℕ → ℕ
next_stamp current = cond (nat_lt current 4294967295) (current + 1) 1

-- the stamps that a wipe leaves: after the last stamp all are 0
abbrev pub wiped_stamps : List ℕ → ℕ → List ℕ
wiped_stamps stamps current = cond (nat_lt current 4294967295) stamps (replicate SIGNALS 0)
