-- The scenario text (01, "The scenario text"): decimal whole numbers, one a line, each ended by a line feed,
-- at most 65,536 bytes in all. A text is the list of its bytes.
use Rattle.std.specs.Prelude.{Option, Some, None, Bool, ◌&&◌, cond, ℕ, leb, eqb, length}
use mathlib.Core.List.{List, [], ◌∷◌, map, drop_last, get_last_d}
use Rattle.limits.specs.Limits.{text_limit, number_places}
use Rattle.laws.specs.Lists.{every, padded}
use Rattle.decimal.specs.Decimal.{numeral, value}
use Rattle.text.specs.declared.Numbers.{Numbers}

-- what ends a line
abbrev pub line_feed : ℕ
line_feed = 10

-- a byte before pieces: a line feed parts an empty piece off, any other byte begins the first piece
unfoldable pub prefixed : ℕ → List (List ℕ) → List (List ℕ)
prefixed c [] = []
prefixed c (p ∷ ps) = cond (eqb c line_feed) ([] ∷ (p ∷ ps)) ((c ∷ p) ∷ ps)

-- the pieces of a text between its line feeds; the last is what follows the last line feed
unfoldable pub pieces : List ℕ → List (List ℕ)
pieces [] = [] ∷ []
pieces (c ∷ s) = prefixed c (pieces s)

-- the lines, each ended by a line feed, and what is left after them
unfoldable pub lines : List ℕ → List (List ℕ)
lines text = drop_last (pieces text)

unfoldable pub unended : List ℕ → List ℕ
unended text = get_last_d (pieces text) []

-- the line form, without which a text is refused with 1: not too long, its last line ended, and each line a decimal whole number
unfoldable pub well_formed : List ℕ → Bool
well_formed text = leb (length text) text_limit && eqb (length (unended text)) 0 && every numeral (lines text)

-- its numbers, line by line
unfoldable pub numbers : List ℕ → List ℕ
numbers text = map value (lines text)

-- the answer for a text with the numbers ns: how many there are, and the first of them, with 0 after the last
unfoldable pub formed_with : List ℕ → Numbers
formed_with ns = record { count = length ns; values = padded number_places 0 ns }

-- what reading a text gives: none where it does not have the form
unfoldable pub read_of : List ℕ → Option Numbers
read_of text = cond (well_formed text) (Some (formed_with (numbers text))) None
