-- lists of calls as bytes; numbers have the lowest byte first
use Rattle.std.specs.Prelude.{ℕ, zero, suc, cond, List, [], ◌∷◌, length, take, drop, Some, None}
use Rattle.std.specs.Prelude.{Option, ◌==◌, nat_le}
use Rattle.std.specs.Int.{w16, w64, from_le_bytes}
use Rattle.relay.specs.Asked.{Asked, begin, step, close, react, take_over}

-- a number of so many bytes and what follows it, if so many are there
abbrev pub number : ℕ → (List ℕ → ℕ) → List ℕ → Option (ℕ × List ℕ)
number n value bytes = cond (nat_le n (length bytes))
    (Some (value (take n bytes), drop n bytes)) None

-- a number of two bytes
abbrev pub pair : List ℕ → Option (ℕ × List ℕ)
pair = number 2 (from_le_bytes w16)

-- a number of eight bytes
abbrev pub word : List ℕ → Option (ℕ × List ℕ)
word = number 8 (from_le_bytes w64)

-- the call that f makes of such a number
abbrev pub asks : (ℕ → Asked) → Option (ℕ × List ℕ) → Option (Asked × List ℕ)
asks f None = None
asks f (Some p) = Some (f p.0, p.1)

-- the call with a record of so many bytes, if so many are there
abbrev pub taking : Option (ℕ × List ℕ) → Option (Asked × List ℕ)
taking None = None
taking (Some p) = cond (nat_le p.0 (length p.1))
    (Some (take_over (take p.0 p.1), drop p.0 p.1)) None

-- a byte for the kind of the call, and then its number or its record
abbrev pub call_by : ℕ → List ℕ → Option (Asked × List ℕ)
call_by k rest =
    cond (k == 0) (asks begin (word rest))
    (cond (k == 1) (asks step (pair rest))
    (cond (k == 2) (Some (close, rest))
    (cond (k == 3) (asks react (word rest))
    (cond (k == 4) (taking (pair rest)) None))))

-- the first call, and what follows it
unfoldable pub call_of : List ℕ → Option (Asked × List ℕ)
call_of [] = None
call_of (k ∷ rest) = call_by k rest

-- a call that is cut off or unknown ends the input
abbrev pub onto : Option (Asked × List ℕ) → (List ℕ → List Asked × List ℕ) → List Asked × List ℕ
onto None more = ([], [])
onto (Some p) more = (p.0 ∷ (more p.1).0, (more p.1).1)

-- at most so many calls, and what follows them
unfoldable pub calls_from : ℕ → List ℕ → List Asked × List ℕ
calls_from zero bytes = ([], bytes)
calls_from (suc n) bytes = onto (call_of bytes) (calls_from n)

-- a list: how many calls there are, and the calls
abbrev pub listed : Option (ℕ × List ℕ) → List Asked × List ℕ
listed None = ([], [])
listed (Some p) = calls_from p.0 p.1

-- the list that the bytes begin with, and what follows it
abbrev pub list_of : List ℕ → List Asked × List ℕ
list_of bytes = listed (pair bytes)
