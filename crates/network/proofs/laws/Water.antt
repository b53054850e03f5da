-- C in use is between 0 and C, and water that it lets through in Δt. Every bound on a step rests on in_use_lem alone.
use Rattle.std.specs.Prelude.{◌≡◌, ℤ, pos, neg_ℤ, nat_abs}
use Rattle.std.proofs.Math.Path.{refl}
use Rattle.std.proofs.Common.{sym, le_refl, mul-le-mul, mul-le-mul_right, div-mul-le_self}
use Prim.Native.Nat.{ℕ, ◌+◌, ◌*◌, ◌-◌, ◌/◌, ◌^◌, ◌<◌, ◌≤◌, zero-le}
use Rattle.std.proofs.Math.Decide.{dec_le}
use Rattle.std.proofs.Math.Nat.{mul-le-mul_left, div-le_of_le-mul}
use native.Mathlib.Omega.{arith}
use Rattle.laws.specs.Integer.{plus, minus, diff_neg, diff_le, plus_neg, minus_neg, natural, pos_≤ℤ, UpTo, abs_up_to, odd_times, odd_by, odd_quot}
use Rattle.geometry.specs.Geometry.{from_table}
use Rattle.geometry.specs.Laws.{from_table_le}
use Rattle.network.specs.Network.{Rule, saturated, at_table, in_use_by, water}

-- C in use is at most C: on an unconfined face while both drawdowns are within layer 1, on one between layers 1 and 2 while end one's is and C is the
-- value at s = 0
module _ (b₁ C : ℕ) where
  abbrev pub WithinLayer : ℤ → Type 0
  WithinLayer D = UpTo (1000 * b₁) D

  pub reduced : (a b : ℕ) → a ≤ 1000 * b₁ → b ≤ 1000 * b₁ → UpTo C (in_use_by b₁ C Rule.unconfined (pos a) (pos b))
  unfolding in_use_by saturated
  reduced a b u v = rw (diff_le (1000 * b₁) a u, diff_le (1000 * b₁) b v) (pos_≤ℤ zero-le, pos_≤ℤ (div-le_of_le-mul (2000 * b₁) (omega (arith, mul-le-mul_left C (most a b u v)))))
    where
      most : (a b : ℕ) → a ≤ 1000 * b₁ → b ≤ 1000 * b₁ → 1000 * b₁ - a + (1000 * b₁ - b) ≤ 2000 * b₁
      most a b u v = omega arith

  by_table : (x kv₁ b₂ kv₂ a : ℕ) (Db : ℤ) → a ≤ 1000 * b₁ → 0 < b₂ → C ≡ from_table x kv₁ b₂ kv₂ 0 → UpTo C (in_use_by b₁ C (Rule.table x kv₁ b₂ kv₂) (pos a) Db)
  unfolding in_use_by saturated at_table
  by_table x kv₁ b₂ kv₂ a Db u p e = rw (diff_le (1000 * b₁) a u, e) (pos_≤ℤ zero-le, pos_≤ℤ (from_table_le x kv₁ b₂ kv₂ (1000 * b₁ - a) p))

  pub in_use_lem : (r : Rule) (Da Db : ℤ)
      → (r ≡ Rule.unconfined → WithinLayer Da × WithinLayer Db)
      → ((x kv₁ b₂ kv₂ : ℕ) → r ≡ Rule.table x kv₁ b₂ kv₂ → WithinLayer Da × (0 < b₂) × (C ≡ from_table x kv₁ b₂ kv₂ 0))
      → UpTo C (in_use_by b₁ C r Da Db)
  unfolding in_use_by
  in_use_lem Rule.fixed Da Db h k = (pos_≤ℤ zero-le, pos_≤ℤ (le_refl C))
  in_use_lem Rule.unconfined Da Db h k = let w = h refl in rw (natural w.0.0, natural w.1.0) (reduced (nat_abs Da) (nat_abs Db) (abs_up_to w.0) (abs_up_to w.1))
  in_use_lem (Rule.table x kv₁ b₂ kv₂) Da Db h k =
      let w = k x kv₁ b₂ kv₂ refl in
      rw (natural w.0.0) (by_table x kv₁ b₂ kv₂ (nat_abs Da) Db (abs_up_to w.0) w.1 w.2)

-- ---- water between drawdowns a and b, neither below 0

-- its size, rounded down, where the drawdowns are d apart
unfoldable pub size : ℕ → ℕ → ℕ → ℕ
size c d dt = c * d * dt / 10 ^ 12

module _ (c a b dt : ℕ) where
  pub runs_ahead : a ≤ b → water (pos c) (pos a) (pos b) dt ≡ pos (size c (b - a) dt)
  unfolding water size
  runs_ahead h = rw (diff_le b a h)

  pub runs_back : b ≤ a → water (pos c) (pos a) (pos b) dt ≡ neg_ℤ (pos (size c (a - b) dt))
  unfolding water size
  runs_back h =
      rw (sym (diff_neg a b), diff_le a b h, odd_times c (pos (a - b)), odd_by (pos (c * (a - b))) dt)
      (odd_quot (pos (c * (a - b) * dt)) (10 ^ 12))

-- at a larger C and over a larger difference more water crosses
size_le : (c C d B dt : ℕ) → c ≤ C → d ≤ B → size c d dt * 10 ^ 12 ≤ C * (B * dt)
unfolding size
size_le c C d B dt h k = omega (arith, div-mul-le_self (c * d * dt) (10 ^ 12), mul-le-mul_right dt (mul-le-mul h k))

-- what runs ahead, where b is at most B above a, and what runs back, where a is at most B above b
module _ (c C a b dt : ℕ) (h : c ≤ C) (B : ℕ) where
  pub ahead_le : b ≤ a + B → plus (water (pos c) (pos a) (pos b) dt) * 10 ^ 12 ≤ C * (B * dt)
  ahead_le k = elim (dec_le a b) [
    | yes u ↦ rw (runs_ahead c a b dt u) (size_le c C (b - a) B dt h (omega arith))
    | no u ↦ rw (runs_back c a b dt (omega arith), plus_neg) zero-le
  ]

  pub back_le : a ≤ b + B → minus (water (pos c) (pos a) (pos b) dt) * 10 ^ 12 ≤ C * (B * dt)
  back_le k = elim (dec_le a b) [
    | yes u ↦ rw (runs_ahead c a b dt u) zero-le
    | no u ↦ rw (runs_back c a b dt (omega arith), minus_neg) (size_le c C (a - b) B dt h (omega arith))
  ]
