-- Digits written one after another.
use Rattle.std.proofs.Common.{◌≡◌, ◌∙◌, List, [], ◌∷◌, ◌++◌, ℕ, ◌+◌, ◌/◌, ◌%◌, ◌^◌, ◌<◌, ◌≤◌, length, arith}
use Rattle.decimal.specs.Decimal.{zero_byte, digits_of, digit_places}
use Rattle.decimal.specs.Laws.{digits_small, digits_large, few_digits}

module _ (n : ℕ) (d r : List ℕ) (more : r ≡ d ++ ((zero_byte + n % 10) ∷ [])) where
  -- of a number below ten
  pub first_written : n < 10 → d ≡ [] → r ≡ digits_of n
  first_written h e =
      let last : n % 10 ≡ n = omega arith in
      more ∙ rw (e, last, digits_small n h)

  -- of any other, after those of its tenth
  pub next_written : 10 ≤ n → d ≡ digits_of (n / 10) → r ≡ digits_of n
  next_written h e = more ∙ rw (e, digits_large n h)

-- a word's tenth leaves a place for the last digit
pub place-left : (n : ℕ) → n < 2 ^ 64 → (d : List ℕ) → d ≡ digits_of (n / 10) → length d < digit_places
place-left n h d e = rw e (omega (arith, few_digits 19 (n / 10) (omega arith) (omega arith)))
