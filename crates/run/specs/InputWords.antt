-- the input words, eight bytes each
use Rattle.std.specs.Prelude.{ℕ, ◌/◌, List, length, map}
use Rattle.std.specs.Int.{w64, from_le_bytes}
use Rattle.std.specs.Simd.{first_chunks}

-- each chunk of eight bytes as a number, the lowest byte first; fewer than eight bytes at the end
-- are ignored
abbrev pub words_of : List ℕ → List ℕ
words_of bytes = map (from_le_bytes w64) (first_chunks 8 (length bytes / 8) bytes)
