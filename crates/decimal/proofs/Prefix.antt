-- The digits read so far: one more, and how large their number is.
use Rattle.std.proofs.Common.{◌≡◌, true, List, [], ◌∷◌, ℕ, ◌+◌, ◌-◌, ◌*◌, ◌^◌, ◌<◌, ◌≤◌, length, get_or, take, arith, add-one}
use Rattle.std.proofs.Math.Nat.{pow-le-pow_right}
use Rattle.std.proofs.Math.Seq.{take-suc, length-take-le}
use Rattle.laws.specs.Lists.{every}
use Rattle.laws.specs.Every.{every_append}
use Rattle.limits.specs.Limits.{digit_limit}
use Rattle.decimal.specs.Decimal.{zero_byte, is_digit, value}
use Rattle.decimal.specs.Laws.{value_snoc, value-below}

module _ (s : List ℕ) (i : ℕ) (h : i < length s) where
  pub one_more : every is_digit (take i s) ≡ true → is_digit (get_or s i 0) ≡ true → every is_digit (take (i + 1) s) ≡ true
  unfolding every
  one_more e d = rw (add-one i, take-suc s i 0, every_append is_digit (take i s) (get_or s i 0 ∷ []), e, d)

  pub value_more : value (take (i + 1) s) ≡ value (take i s) * 10 + (get_or s i 0 - zero_byte)
  value_more = rw (add-one i, take-suc s i 0) (value_snoc (take i s) (get_or s i 0))

  pub value_fits : length s ≤ digit_limit → every is_digit (take i s) ≡ true → value (take i s) * 10 < 10 ^ digit_limit
  value_fits few e =
      let n : length (take i s) ≤ 17 = omega (arith, length-take-le i s (omega arith)) in
      omega (arith, value-below (take i s) e, pow-le-pow_right {n = 10} (omega arith) n)
