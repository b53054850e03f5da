-- `decimal::read_digits` meets its contract. The loop's invariant: the bytes passed are digits and v is their number.
use Rattle.std.proofs.Common.{◌≡◌, true, take}
use Rattle.laws.specs.Lists.{every}
use Rattle.decimal.specs.Decimal.{is_digit, value}
use Rattle.decimal.proofs.read_digits.Given as goal

abbrev pub invariant-loop-c : goal.invariant-loop-c
invariant-loop-c l = (every is_digit (take l.c-index l.s) ≡ true) × (l.v ≡ value (take l.c-index l.s))
