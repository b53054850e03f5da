-- `words::divide::digit` meets its contract: the law of an estimated digit (`laws`, Divide) at the base 2^32.
use Rattle.std.proofs.Common.{ℕ, ◌/◌, ◌^◌, ◌<◌, ◌≤◌, arith, bit_and}
use Rattle.std.specs.Int.Bits.{mask_lt}
use Rattle.laws.specs.Divide.{Step, Less, two_enough, exact, less}
use Rattle.words.proofs.Parts.{halves}
use Rattle.words.proofs.divide.digit.Goals as goal

-- the step, with the divisor's digits as the code takes them
step : (divisor top next : ℕ) → 2 ^ 63 ≤ divisor → top < divisor → next < 2 ^ 32 → Step (2 ^ 32) (divisor / 2 ^ 32) (bit_and divisor 0xffff_ffff) divisor top next
step divisor top next full below digit = record { split = halves divisor; low = mask_lt divisor 32; full = omega arith; below = below; digit = digit }

pub returns-then-need-have : goal.returns-then-need-have
returns-then-need-have c = exact (step c.args.divisor c.args.top c.args.next c.requires.0 c.requires.1 c.requires.2) c.if-need-have.true

-- one divisor makes up what is short
pub returns-then-short-divisor : goal.returns-then-short-divisor
returns-then-short-divisor c =
    let s = step c.args.divisor c.args.top c.args.next c.requires.0 c.requires.1 c.requires.2 in
    let once : Less s 1 = less s 1 c.if-need-have.false (omega arith) (omega arith) in
    (once.quotient, omega (arith, once.rest))

-- or two do
pub returns : goal.returns
returns c =
    let s = step c.args.divisor c.args.top c.args.next c.requires.0 c.requires.1 c.requires.2 in
    let twice : Less s 2 = less s 2 c.if-need-have.false (omega (arith, two_enough s)) (omega arith) in
    (twice.quotient, omega (arith, twice.rest))
