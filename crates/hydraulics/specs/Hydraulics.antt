-- The formulas of head loss on numbers (document 01, 'Readings', last paragraph), in binary64: each operation is rounded once, in the order written.
-- Lengths are mm, areas mm², water nl, Δt µs, flows l/s, velocities m/s, head losses m.
use Rattle.std.specs.Prelude.{true, false, cond, ℕ, zero, suc, ◌*◌, Float, ℤ, pos, negsuc}
use Rattle.std.specs.Float.{binary64}
use Rattle.std.specs.Float.Ieee.{add, sub, mul, div, neg, lt, of_int}
use Rattle.std.specs.Float.Ieee.Exact.{HasValue}
use Rattle.std.specs.Int.Signed.{quot_z}
use Rattle.geometry.specs.Geometry.{area}
use Rattle.hydraulics.specs.declared.ScreenLaw.{ScreenLaw}
use Rattle.hydraulics.specs.declared.ScreenLaw.TheVariants.{None, Linear, Square}

-- ---- binary64

infixl 6 ◌⊕◌ ◌⊖◌
infixl 7 ◌⊗◌ ◌⊘◌
-- sum, difference, product and quotient, each rounded once
abbrev pub ◌⊕◌ : Float → Float → Float
x ⊕ y = add binary64 x y

abbrev pub ◌⊖◌ : Float → Float → Float
x ⊖ y = sub binary64 x y

abbrev pub ◌⊗◌ : Float → Float → Float
x ⊗ y = mul binary64 x y

abbrev pub ◌⊘◌ : Float → Float → Float
x ⊘ y = div binary64 x y

-- a whole number made a float
unfoldable pub float : ℤ → Float
float z = of_int binary64 z

-- x is that number exactly, as it is for every one below, none of which is over 2^53 in size
abbrev pub Exactly : ℤ → Float → Type 0
Exactly (pos n) x = HasValue x false n 1
Exactly (negsuc n) x = HasValue x true (suc n) 1

-- |x|
unfoldable pub absolute : Float → Float
absolute x = cond (lt x (float (pos 0))) (neg x) x

-- a number of millionths
unfoldable pub millionths : ℕ → Float
millionths n = float (pos n) ⊘ float (pos 1000000)

-- ---- the flow of a layer

-- e = (F/1000 rounded toward zero)/Δt
unfoldable pub inflow_of : ℤ → ℕ → Float
inflow_of F dt = float (quot_z F (pos 1000)) ⊘ float (pos dt)

-- y = (e×1000)/(b×R_0)
unfoldable pub wall_velocity : Float → ℕ → ℕ → Float
wall_velocity e b R₀ = (e ⊗ float (pos 1000)) ⊘ float (pos (b * R₀))

-- ---- the screen loss (equation 13 of document 000)

-- the law by the count of coefficients and their numbers
unfoldable pub law_of : ℕ → ℕ → ℕ → ScreenLaw
law_of zero n₁ n₂ = None
law_of (suc zero) n₁ n₂ = Linear (millionths n₁)
law_of (suc (suc more)) n₁ n₂ = Square (millionths n₁) (millionths n₂)

-- 0, c1×y, or c1×y + (c2×y)×|y|
unfoldable pub screen_loss : ScreenLaw → Float → Float
screen_loss None y = float (pos 0)
screen_loss (Linear c₁) y = c₁ ⊗ y
screen_loss (Square c₁ c₂) y = c₁ ⊗ y ⊕ c₂ ⊗ y ⊗ absolute y

-- ---- the velocity in the pipe

-- v = (E×1000)/A_0
unfoldable pub velocity : Float → ℕ → Float
velocity E R₀ = (E ⊗ float (pos 1000)) ⊘ float (pos (area R₀ 0))

-- ---- the pipe loss (equation 14 of document 000, with the velocity squared in the friction term)

-- 19.6133 and 9.80665 m/s²: a quotient of two whole numbers is the float nearest to it
unfoldable pub twice_gravity : Float
twice_gravity = float (pos 196133) ⊘ float (pos 10000)

unfoldable pub gravity : Float
gravity = float (pos 980665) ⊘ float (pos 100000)

-- (f×(d/(4×R_0)))×(v×|v|)/19.6133 + (v'×v' − v×v)/9.80665
unfoldable pub pipe_loss : Float → ℤ → ℕ → Float → Float → Float
pipe_loss f d R₀ v v' = f ⊗ (float d ⊘ float (pos (4 * R₀))) ⊗ (v ⊗ absolute v) ⊘ twice_gravity ⊕ (v' ⊗ v' ⊖ v ⊗ v) ⊘ gravity
