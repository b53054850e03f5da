-- Lines of the listing as bytes (document 01, the last paragraph of 'A step').
use Rattle.std.specs.Prelude.{◌≡◌, List, [], ◌∷◌, ◌++◌, ℕ, suc, ◌≤◌, ℤ, pos, negsuc, length}
use Rattle.laws.specs.Lists.{padded}
use Rattle.decimal.specs.Decimal.{digits_of}
use Rattle.listing_lines.specs.declared.Line.{Line}

abbrev pub space : ℕ
space = 32

abbrev pub line_feed : ℕ
line_feed = 10

abbrev pub minus_sign : ℕ
minus_sign = 45

-- fields are parted by one space, and every line ends in a line feed
unfoldable pub line_from : List (List ℕ) → List ℕ
line_from [] = line_feed ∷ []
line_from (f ∷ []) = f ++ (line_feed ∷ [])
line_from (f ∷ g ∷ fs) = f ++ (space ∷ line_from (g ∷ fs))

-- a figure in decimal digits, after a sign where it is negative
unfoldable pub figure_of : ℤ → List ℕ
figure_of (pos n) = digits_of n
figure_of (negsuc n) = minus_sign ∷ digits_of (suc n)

-- room for a figure of a word, at most 20 bytes, and the space or line feed after it
abbrev pub field_bytes : ℕ
field_bytes = 21

-- room for any line: seven such figures
abbrev pub line_bytes : ℕ
line_bytes = 147

-- a line in an array, with 0 after its last byte
unfoldable pub held : List ℕ → Line
held l = record { bytes = padded line_bytes 0 l; length = length l }

-- x is the line l, which has room in it
pub record HoldsLine (l : List ℕ) (x : Line) : Type 0 where
  pub line : x ≡ held l
  pub room : length l ≤ line_bytes
