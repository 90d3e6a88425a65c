-- what can be asked of a count: the calls of the code, with their records as lists of bytes
use Rattle.std.specs.Prelude.{ℕ, ◌<◌, List, [], ◌∷◌, slice_index}
use Rattle.relay.specs.declared.call.Call.{Call}
use Rattle.relay.specs.declared.call.Call.TheVariants.{Begin, Step, Close, React, TakeOver}

-- a call that is asked of a count, accepted or not
pub data Asked : Type 0 where
  begin : (word : ℕ) → Asked
  step : (statement : ℕ) → Asked
  close : Asked
  react : (word : ℕ) → Asked
  take_over : (bytes : List ℕ) → Asked

-- what a call of the code asks
abbrev pub asked : Call → Asked
asked (Begin word) = begin word
asked (Step k) = step k
asked Close = close
asked (React word) = react word
asked (TakeOver bytes) = take_over bytes.now

-- the record in it, if it has one, has numbers below 256 only
abbrev pub of_bytes : Asked → Type 0
of_bytes (begin word) = Unit {0}
of_bytes (step k) = Unit {0}
of_bytes close = Unit {0}
of_bytes (react word) = Unit {0}
of_bytes (take_over bytes) = (i : ℕ) → slice_index bytes i < 256

-- the records in all of a list are of bytes
unfoldable pub OfBytes : List Asked → Type 0
OfBytes [] = Unit {0}
OfBytes (c ∷ cs) = of_bytes c × OfBytes cs
