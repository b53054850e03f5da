-- What the tests of a text's length and first byte say of reading it.
use Rattle.std.proofs.Common.{◌≡◌, ◌∙◌, Option, Some, None, true, false, cond, List, ℕ, ◌<◌, ◌≤◌, leb, eqb, length, get_or, arith, le-leb, ne_eqb}
use Rattle.std.proofs.lemmas.Bool.{lt-leb}
use Rattle.std.proofs.Math.Bool.{or-true}
use Rattle.std.proofs.Math.Decide.{dec_lt}
use Rattle.laws.specs.Lists.{every}
use Rattle.limits.specs.Limits.{digit_limit}
use Rattle.decimal.specs.Decimal.{zero_byte, is_digit, value, no_leading_zero, numeral, decimal_of}

module _ (s : List ℕ) where
  pub empty : length s < 1 → None ≡ decimal_of s
  unfolding decimal_of numeral
  empty h = rw (lt-leb 1 (length s) h)

  module _ (some : 1 ≤ length s) where
    pub too_long : digit_limit < length s → None ≡ decimal_of s
    unfolding decimal_of numeral
    too_long h = rw (le-leb 1 (length s) some, lt-leb (length s) digit_limit h)

    module _ (few : length s ≤ digit_limit) where
      pub zero_leads : 1 < length s → eqb (get_or s 0 0) zero_byte ≡ true → None ≡ decimal_of s
      unfolding decimal_of numeral no_leading_zero
      zero_leads h e = rw (le-leb 1 (length s) some, le-leb (length s) digit_limit few, lt-leb (length s) 1 h, e)

      pub by_digits : (r : Option ℕ) → no_leading_zero s ≡ true → r ≡ cond (every is_digit s) (Some (value s)) None → r ≡ decimal_of s
      unfolding decimal_of numeral
      by_digits r e q = q ∙ rw (le-leb 1 (length s) some, le-leb (length s) digit_limit few, e)

  one_byte : length s ≤ 1 → no_leading_zero s ≡ true
  unfolding no_leading_zero
  one_byte h = rw (le-leb (length s) 1 h)

  other_byte : eqb (get_or s 0 0) zero_byte ≡ false → no_leading_zero s ≡ true
  unfolding no_leading_zero
  other_byte e = rw e (or-true (leb (length s) 1))

  -- a digit 0 leads only where it is alone
  pub lone_zero : (1 < length s → get_or s 0 0 ≡ zero_byte → ⊥) → no_leading_zero s ≡ true
  lone_zero h = elim (dec_lt 1 (length s)) [
    | yes u ↦ other_byte (ne_eqb (get_or s 0 0) zero_byte (h u))
    | no u ↦ one_byte (omega arith)
  ]
