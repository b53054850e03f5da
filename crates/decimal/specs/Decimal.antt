-- Decimal whole numbers (01, "The scenario text"): digits only, no leading zero except 0 itself, at most 18 digits.
-- A text is the list of its bytes.
use Rattle.std.specs.Prelude.{Option, Some, None, Bool, true, false, ◌&&◌, ◌||◌, not, cond, List, [], ◌∷◌, ◌++◌, ℕ, zero, suc, ◌+◌, ◌-◌, ◌*◌, ◌/◌, ◌%◌, ◌^◌, leb, ltb, eqb, length, get_or}
use Rattle.limits.specs.Limits.{digit_limit}
use Rattle.laws.specs.Lists.{every}

-- the byte of the digit 0
abbrev pub zero_byte : ℕ
zero_byte = 48

-- a digit: one of the ten bytes from that of 0 to that of 9
unfoldable pub is_digit : ℕ → Bool
is_digit c = leb zero_byte c && leb c (zero_byte + 9)

-- the number that digits stand for: each counts ten times as much as the one after it
unfoldable pub value : List ℕ → ℕ
value [] = 0
value (c ∷ s) = (c - zero_byte) * 10 ^ length s + value s

-- no leading zero except 0 itself
unfoldable pub no_leading_zero : List ℕ → Bool
no_leading_zero s = leb (length s) 1 || not (eqb (get_or s 0 0) zero_byte)

-- a decimal whole number
unfoldable pub numeral : List ℕ → Bool
numeral s = leb 1 (length s) && leb (length s) digit_limit && no_leading_zero s && every is_digit s

-- what reading a text as a decimal whole number gives: none where it is not one
unfoldable pub decimal_of : List ℕ → Option ℕ
decimal_of s = cond (numeral s) (Some (value s)) None

-- the digits of n in at most k + 1 places: those of its tenth and then its last; below ten it is one digit
unfoldable pub digits_in : ℕ → ℕ → List ℕ
digits_in zero n = (zero_byte + n) ∷ []
digits_in (suc k) n = elim (ltb n 10) [ true ↦ (zero_byte + n) ∷ [] | false ↦ digits_in k (n / 10) ++ ((zero_byte + n % 10) ∷ []) ]

-- the decimal digits of n, no leading zero except 0 itself: n places are enough
unfoldable pub digits_of : ℕ → List ℕ
digits_of n = digits_in n n

-- a word has at most 20 digits
abbrev pub digit_places : ℕ
digit_places = 20
