use Rattle.std.proofs.Common.{◌≡◌, ℕ, List, [], ◌++◌, take, Some, None, Option, IfSome}
use Rattle.std.specs.Option.{option_map}
use Rattle.input.specs.declared.TheConstants.{MOST_INPUT_BYTES}
use Rattle.input.proofs.read_input.Goals as goal

-- where the bytes are known, the first of them are
first : (n : ℕ) (all : Option (List ℕ)) (got : List ℕ)
    → IfSome (option_map (take n) all) (λ xs. got ≡ [] ++ xs)
    → IfSome all (λ xs. got ≡ take n xs)
first n None got h = h
first n (Some xs) got h = h

pub returns : goal.returns
returns g c =
    first MOST_INPUT_BYTES (g.R.Read.remaining c.args.input) c.read_to_end.new.buf.items
    (rw (c.take.ensures.limit, c.take.ensures.inner, c.new-bytes.ensures.items) at
    c.in_ok-read_to_end.ensures.bytes)
