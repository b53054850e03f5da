-- Laws of the rules of geometry, for the proofs of this and other crates: laws only, nothing to believe.
--     area_is, area_most     an area by products of radii, and how large it is
--     from_table_le          C between layers 1 and 2 is the largest at s = 0
use Rattle.std.proofs.Common.{◌≡◌, refl, Bool, true, false, cond, ◌||◌, ℕ, ◌+◌, ◌*◌, ◌-◌, ◌/◌, ◌^◌, ◌≤◌, ◌<◌, eqb, ap, ◌∙◌, le_refl, mul-pos, mul-le-mul, zero-mul, zero-add, div-mul-le_self, le-div_iff_mul-le, arith, mul-one}
use Rattle.std.proofs.Math.Nat.{pow-zero, pow-succ', div-le_of_le-mul}
use Rattle.std.proofs.lemmas.Bool.{eqb-false}
use Rattle.laws.specs.Sums.{or_no}
use Rattle.geometry.specs.Geometry.{area, from_table}

-- ---- areas
module _ (outer inner : ℕ) where
  pub area_is : 3373259426 * (outer * outer - inner * inner) / 2 ^ 30 ≡ area outer inner
  unfolding area
  area_is = rw (square_is outer, square_is inner)
    where
      square_is : (n : ℕ) → n ^ 2 ≡ n * n
      square_is n = pow-succ' n 1 ∙ ap (λ m. n * m) (pow-succ' n 0 ∙ ap (λ m. n * m) (pow-zero n) ∙ mul-one n)

  -- it is less than four times a square, for a radius within its limit
  pub area_most : outer ≤ 2000000 → area outer inner ≤ 2 ^ 44
  area_most h = rw (← area_is) (div-le_of_le-mul (2 ^ 30) (omega (arith, mul-le-mul h h)))

-- ---- C between layers 1 and 2

-- a larger divisor gives no more
falls : (x y z : ℕ) → 0 < y → x / (z + y) ≤ x / y
falls x y z h = (le-div_iff_mul-le h).1 (omega (arith, div-mul-le_self x (z + y)))

pub from_table_le : (a kv₁ b₂ kv₂ s : ℕ) → 0 < b₂ → from_table a kv₁ b₂ kv₂ s ≤ from_table a kv₁ b₂ kv₂ 0
unfolding from_table
from_table_le a kv₁ b₂ kv₂ s h = go (eqb kv₁ 0 || eqb kv₂ 0) (or_no (eqb kv₁ 0) (eqb kv₂ 0))
  where
    C : ℕ → ℕ
    C z = a * 1000 * kv₁ * kv₂ / (z * kv₂ + 500 * b₂ * kv₁)

    go : (t : Bool) → (t ≡ false → (eqb kv₁ 0 ≡ false) × (eqb kv₂ 0 ≡ false)) → cond t 0 (C s) ≤ cond t 0 (C 0)
    go true k = le_refl 0
    go false k =
        rw (zero-mul kv₂, zero-add)
        (falls (a * 1000 * kv₁ * kv₂) (500 * b₂ * kv₁) (s * kv₂) (mul-pos (omega arith) (omega (arith, eqb-false kv₁ 0 (k refl).0))))
