-- `words::divide::by_full_width` meets its contract: long division of three digits, the first two of them in top * 2^32 + next.
use Rattle.std.proofs.Common.{◌≡◌, ℕ, ◌+◌, ◌*◌, ◌/◌, ◌%◌, ◌^◌, ◌<◌, sym, ap, ◌∙◌, lt_of_lt_of_le, mod-lt, div-mul-le_self, arith, bit_and}
use Rattle.std.proofs.Math.Arith.{digits_lt}
use Rattle.std.specs.Int.Bits.{mask_lt}
use Rattle.std.proofs.Math.Facts.{Fits-cat}
use Rattle.laws.specs.Divide.{carried, digit_below}
use Rattle.words.proofs.Parts.{halves}
use Rattle.words.proofs.divide.by_full_width.Goals as goal

-- the dividend by its digits
in-digits : (top low : ℕ) → (top * 2 ^ 32 + low / 2 ^ 32) * 2 ^ 32 + bit_and low 0xffff_ffff ≡ top * 2 ^ 64 + low
in-digits top low = omega (arith, halves low)

-- where top is below the divisor's upper digit, top and the next digit are below the divisor
one_below : (top low d : ℕ) → top < d / 2 ^ 32 → low < 2 ^ 64 → top * 2 ^ 32 + low / 2 ^ 32 < d
one_below top low d h fits = lt_of_lt_of_le (digits_lt h (omega arith)) (div-mul-le_self d (2 ^ 32))

-- the rest of the first digit's step is below the divisor, and both digits are short
pub overflow_add-result : goal.overflow_add-result
overflow_add-result c =
    let rest_below : c.digit-first.result.rest < c.args.divisor = rw c.digit-first.ensures.1 (mod-lt _ (omega arith)) in
    let first_short : c.digit-first.result.quotient < 2 ^ 32 = rw c.digit-first.ensures.0 (digit_below c.requires.1 (omega arith)) in
    let second_short : c.digit-second.result.quotient < 2 ^ 32 = rw c.digit-second.ensures.0 (digit_below rest_below (mask_lt c.args.low 32)) in
    Fits-cat 32 32 tt first_short second_short

-- the two steps' digits make the quotient
joined : (top low d q1 r1 q0 : ℕ) → 0 < d → q1 ≡ (top * 2 ^ 32 + low / 2 ^ 32) / d → r1 ≡ (top * 2 ^ 32 + low / 2 ^ 32) % d → q0 ≡ (r1 * 2 ^ 32 + bit_and low 0xffff_ffff) / d
    → q1 * 2 ^ 32 + q0 ≡ (top * 2 ^ 64 + low) / d
joined top low d q1 r1 q0 h first rest second =
    rw (second, first, rest) (sym (carried (top * 2 ^ 32 + low / 2 ^ 32) (2 ^ 32) (bit_and low 0xffff_ffff) d h) ∙ ap (λ (x : ℕ). x / d) (in-digits top low))

pub returns : goal.returns
returns c =
    joined c.args.top c.args.low c.args.divisor c.digit-first.result.quotient c.digit-first.result.rest c.digit-second.result.quotient (omega arith) c.digit-first.ensures.0 c.digit-first.ensures.1 c.digit-second.ensures.0
