-- The terms of a logarithm's series, the two cases of a logarithm, and how large the numbers of the rules are.
use Rattle.std.proofs.Common.{◌≡◌, refl, lt-ltb, le-ltb, ℕ, zero, suc, ◌+◌, ◌*◌, ◌-◌, ◌/◌, ◌^◌, ◌<◌, ◌≤◌, le_trans, add-le-add, div-mul-le_self, mul-le-mul, div-one, le-div_iff_mul-le, add-one, arith}
use Rattle.limits.specs.Limits.{midsection_factor}
use Rattle.std.proofs.Math.Decide.{dec_lt}
use Rattle.std.proofs.Math.Nat.{div-le_of_le-mul, div-eq_of_eq-mul_left}
use Rattle.geometry.specs.Geometry.{terms, ratio, series_logarithm, logarithm_of_three, logarithm}

-- the term numbered k, and those after it
pub one_more : (w k t : ℕ) → k < 16 → terms (16 - k) w k t ≡ t / (2 * k + 1) + terms (16 - (k + 1)) w (k + 1) (t * w / 2 ^ 30)
unfolding terms
one_more w k t h = let e : 16 - k ≡ suc (16 - (k + 1)) = omega arith in rw (e, add-one k)

-- after the last no term is left
pub none_left : (w k t : ℕ) → k ≡ 16 → terms (16 - k) w k t ≡ 0
unfolding terms
none_left w k t e = rw e

-- the sum is at least its first term
first_term : (n w z : ℕ) → z ≤ terms (suc n) w 0 z
unfolding terms
first_term n w z = omega (arith, div-one z)

-- z is at most a half of 2^30
pub ratio_small : (p q : ℕ) → q < p → p ≤ 3 * q → ratio p q ≤ 2 ^ 29
unfolding ratio
ratio_small p q h r = div-le_of_le-mul (p + q) (omega arith)

-- and above 0 for radii in their limits
ratio_above : (p q : ℕ) → q < p → p ≤ 4000000 → 0 < ratio p q
unfolding ratio
ratio_above p q h r = (le-div_iff_mul-le {k = p + q} {x = 1} {y = (p - q) * 2 ^ 30} (omega arith)).1 (omega arith)

-- so the series' Λ is above 0
pub series_above : (p q : ℕ) → q < p → p ≤ 4000000 → 0 < series_logarithm p q
unfolding series_logarithm
series_above p q h r = omega (arith, ratio_above p q h r, first_term 15 (ratio p q * ratio p q / 2 ^ 30) (ratio p q))

-- ---- at p = 3q z is 2^29, and Λ the constant
three_ratio : (q : ℕ) → 0 < q → ratio (3 * q) q ≡ 2 ^ 29
unfolding ratio
three_ratio q h = div-eq_of_eq-mul_left (omega arith) (omega arith)

largest : 2 * terms 16 (2 ^ 29 * 2 ^ 29 / 2 ^ 30) 0 (2 ^ 29) ≡ logarithm_of_three
unfolding terms
largest = refl

pub series_at_three : (q : ℕ) → 0 < q → series_logarithm (3 * q) q ≡ logarithm_of_three
unfolding series_logarithm
series_at_three q h = rw (three_ratio q h) largest

-- at p = q z is 0, and so is Λ
zero_ratio : (n : ℕ) → ratio n n ≡ 0
unfolding ratio
zero_ratio n = let h : ratio n n ≤ 0 = div-le_of_le-mul (n + n) (omega arith) in omega arith

pub series_at_one : (n : ℕ) → series_logarithm n n ≡ 0
unfolding series_logarithm terms
series_at_one n = rw (zero_ratio n)

-- ---- the terms rise with z, so no Λ of the series is above that constant
quotient_rises : (d : ℕ) {a b : ℕ} → 0 < d → a ≤ b → a / d ≤ b / d
quotient_rises d {a} {b} hd h = (le-div_iff_mul-le {k = d} {x = a / d} {y = b} hd).1 (le_trans (div-mul-le_self a d) h)

terms_rise : (n k : ℕ) {w w' t t' : ℕ} → w ≤ w' → t ≤ t' → terms n w k t ≤ terms n w' k t'
unfolding terms
terms_rise zero k hw ht = omega arith
terms_rise (suc n) k hw ht = add-le-add (quotient_rises (2 * k + 1) (omega arith) ht) (terms_rise n (suc k) hw (quotient_rises (2 ^ 30) (omega arith) (mul-le-mul ht hw)))

pub series_most : (p q : ℕ) → q < p → p ≤ 3 * q → series_logarithm p q ≤ logarithm_of_three
unfolding series_logarithm
series_most p q h r =
    let z : ratio p q ≤ 2 ^ 29 = ratio_small p q h r in
    let rise = terms_rise 16 0 (quotient_rises (2 ^ 30) (omega arith) (mul-le-mul z z)) z in
    omega (arith, rise, largest)

-- ---- the two cases of Λ
pub logarithm_near : (p q : ℕ) → p ≤ 3 * q → logarithm p q ≡ series_logarithm p q
unfolding logarithm
logarithm_near p q h = rw (le-ltb (3 * q) p h)

pub logarithm_far : (p q : ℕ) → 3 * q < p → logarithm p q ≡ logarithm_of_three + series_logarithm p (3 * q)
unfolding logarithm
logarithm_far p q h = rw (lt-ltb (3 * q) p h)

pub logarithm_most : (p q : ℕ) → q < p → p ≤ midsection_factor * q → logarithm p q ≤ 2359251896
logarithm_most p q h r = elim (dec_lt (3 * q) p) [
  | yes u ↦ omega (arith, logarithm_far p q u, series_most p (3 * q) u (omega arith))
  | no u ↦ omega (arith, logarithm_near p q (omega arith), series_most p q h (omega arith))
]

-- a product of two bounded factors is bounded
pub product_at_most : (m n : ℕ) {a b : ℕ} → a ≤ m → b ≤ n → a * b ≤ m * n
product_at_most m n ha hb = mul-le-mul ha hb

-- ---- areas
pub square_at_most : (b : ℕ) {a : ℕ} → a ≤ b → a * a ≤ b * b
square_at_most b h = mul-le-mul h h
