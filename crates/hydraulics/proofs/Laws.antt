-- Whole numbers made floats, and the floats that the code writes as literals.
use Rattle.std.proofs.Common.{◌≡◌, refl, true, false, ℕ, zero, suc, ◌/◌, ◌≤◌, ◌^◌, arith, ℤ, pos, negsuc, nat_abs}
use lib.Ieee.{binary64, of_bits, of_int, div}
use lib.Signed.{quot_z}
use Rattle.laws.specs.Signed.{abs_neg}
use lib.Ieee.Back.{round_whole}
use Rattle.hydraulics.specs.declared.ScreenLaw.TheVariants.{Square}
use Rattle.hydraulics.specs.Hydraulics.{float, Exactly, millionths, law_of, twice_gravity, gravity}

-- a size up to 2^53 is a float exactly
pub exactly : (z : ℤ) → nat_abs z ≤ 2 ^ 53 → Exactly z (float z)
unfolding float of_int
exactly (pos n) h = round_whole binary64 false n h
exactly (negsuc n) h = round_whole binary64 true (suc n) h

-- a literal is its bits
pub zero_is : of_bits binary64 0 ≡ float (pos 0)
unfolding of_bits float of_int
zero_is = refl

pub thousand_is : of_bits binary64 0x408f400000000000 ≡ float (pos 1000)
unfolding of_bits float of_int
thousand_is = refl

pub million_is : of_bits binary64 0x412e848000000000 ≡ float (pos 1000000)
unfolding of_bits float of_int
million_is = refl

pub twice_gravity_is : of_bits binary64 0x40339d013a92a305 ≡ twice_gravity
unfolding of_bits float of_int twice_gravity div
twice_gravity_is = refl

pub gravity_is : of_bits binary64 0x40239d013a92a305 ≡ gravity
unfolding of_bits float of_int gravity div
gravity_is = refl

-- ---- the screen law of two coefficients
pub law_square : (count n₁ n₂ : ℕ) → 2 ≤ count → law_of count n₁ n₂ ≡ Square (millionths n₁) (millionths n₂)
unfolding law_of
law_square zero n₁ n₂ h = absurd (omega arith)
law_square (suc zero) n₁ n₂ h = absurd (omega arith)
law_square (suc (suc more)) n₁ n₂ h = refl

-- ---- F, in whole thousands
pub quot_size : (z : ℤ) (d : ℕ) → nat_abs (quot_z z (pos d)) ≡ nat_abs z / d
quot_size (pos n) d = refl
quot_size (negsuc n) d = abs_neg (pos (suc n / d))
