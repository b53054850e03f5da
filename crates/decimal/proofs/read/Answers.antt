-- `decimal::read` meets its contract, test by test.
use Rattle.std.proofs.Common.{◌≡◌, ◌<◌, arith, length, get_or, eq-eqb}
use Rattle.std.proofs.lemmas.Bool.Decides.{nat_tests}
use Rattle.decimal.specs.Decimal.{zero_byte}
use Rattle.decimal.proofs.Shape.{empty, too_long, zero_leads, by_digits, lone_zero}
use Rattle.decimal.proofs.read.Goals as goal

pub returns-then-is_empty : goal.returns-then-is_empty
returns-then-is_empty c = empty c.args.s.now (grind (arith, nat_tests))

pub returns-then-s-gt-DIGIT_LIMIT : goal.returns-then-s-gt-DIGIT_LIMIT
returns-then-s-gt-DIGIT_LIMIT c = too_long c.args.s.now (grind (arith, nat_tests)) c.if-s-gt-DIGIT_LIMIT.true

pub returns-then-s-eq-ZERO : goal.returns-then-s-eq-ZERO
returns-then-s-eq-ZERO c = zero_leads c.args.s.now (omega arith) c.if-s-gt-DIGIT_LIMIT.false c.if-s-gt1.true (eq-eqb _ zero_byte c.if-s-eq-ZERO.true)

-- the tests together leave no leading zero
pub returns : goal.returns
returns c =
    let lone : 1 < length c.args.s.now → get_or c.args.s.now 0 0 ≡ zero_byte → ⊥ = λ h e. grind arith in
    by_digits c.args.s.now (grind (arith, nat_tests)) c.if-s-gt-DIGIT_LIMIT.false c.read_digits.result (lone_zero c.args.s.now lone) c.read_digits.ensures
