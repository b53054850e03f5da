-- `decimal::read_digits` meets its contract. The loop's invariant: the bytes passed are digits and v is their number.
use Rattle.std.proofs.Common.{◌≡◌, refl, sym, ◌∙◌, true, false, ℕ, get_or}
use Rattle.std.specs.Char.{is_ascii_digit}
use Rattle.laws.specs.Lists.{every}
use Rattle.laws.specs.Every.{every_fails}
use Rattle.decimal.specs.Decimal.{is_digit, value}
use Rattle.decimal.proofs.Prefix.{one_more, value_more, value_fits}
use Rattle.decimal.proofs.read_digits.Goals as goal

-- std's digit is ours
as_std : (c : ℕ) → is_digit c ≡ is_ascii_digit c
unfolding is_digit
as_std c = refl

pub loop-c-init : goal.loop-c-init
unfolding every value
loop-c-init c = (refl, refl)

-- the test's byte is no digit
pub returns-then-not-is_ascii_digit : goal.returns-then-not-is_ascii_digit
returns-then-not-is_ascii_digit c =
    let other : is_digit (get_or c.args.s.now c.loop-c.c-index 0) ≡ false = as_std _ ∙ sym c.is_ascii_digit.ensures.value ∙ c.if-not-is_ascii_digit.true in
    rw (every_fails is_digit c.args.s.now c.loop-c.c-index 0 other c.loop-c-test.true)

-- past the test the byte is a digit
pub joined-v-requires : goal.joined-v-requires
joined-v-requires c = (
  rw c.loop-c.invariant.1 (value_fits c.args.s.now c.loop-c.c-index c.loop-c-test.true c.requires c.loop-c.invariant.0),
  as_std _ ∙ sym c.is_ascii_digit.ensures.value ∙ c.if-not-is_ascii_digit.false,
)

pub loop-c-preserved : goal.loop-c-preserved
loop-c-preserved c =
    let digit : is_digit (get_or c.args.s.now c.loop-c.c-index 0) ≡ true = as_std _ ∙ sym c.is_ascii_digit.ensures.value ∙ c.if-not-is_ascii_digit.false in (
      one_more c.args.s.now c.loop-c.c-index c.loop-c-test.true c.loop-c.invariant.0 digit,
      c.joined-v.ensures ∙ rw c.loop-c.invariant.1 (sym (value_more c.args.s.now c.loop-c.c-index c.loop-c-test.true)),
    )
