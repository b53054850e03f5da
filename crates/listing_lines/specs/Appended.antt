-- A line that grows at its end in its array: inner definitions, for the contracts of the functions that make a line.
use Rattle.std.specs.Prelude.{List, [], ◌∷◌, ℕ, ◌+◌, set}
use Rattle.listing_lines.specs.declared.Line.{Line}

-- a line with one byte more
abbrev pub followed : Line → ℕ → Line
followed x c = record { bytes = set x.bytes x.length c; length = x.length + 1 }

-- a line with a list of bytes more
unfoldable pub appended : Line → List ℕ → Line
appended x [] = x
appended x (c ∷ l) = appended (followed x c) l
