-- the input of a program: two bytes for the table's length, the table, and what follows
use Rattle.std.specs.Prelude.{ℕ, ◌+◌, ◌*◌, List, take, drop, slice_index}

-- bytes that are missing are 0
abbrev pub table_length : List ℕ → ℕ
table_length bytes = slice_index bytes 0 + 256 * slice_index bytes 1

-- so many bytes, or what is there
abbrev pub table_part : List ℕ → List ℕ
table_part bytes = take (table_length bytes) (drop 2 bytes)

-- what follows the table
abbrev pub rest_part : List ℕ → List ℕ
rest_part bytes = drop (table_length bytes) (drop 2 bytes)
