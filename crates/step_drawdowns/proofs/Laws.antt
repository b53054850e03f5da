-- The high word of a loss times the multiplier of its storage is the drawdown, or one less; and stores in an array of multipliers.
use Rattle.std.proofs.Common.{◌≡◌, refl, ap, subst, List, [], ◌∷◌, ℕ, zero, suc, ◌+◌, ◌*◌, ◌-◌, ◌/◌, ◌%◌, ◌^◌, ◌≤◌, ◌<◌, mul_assoc, mul-le-mul_left, mul-le-mul_right, div-add-mod', mod-lt, div-lt_iff_lt-mul, lt_of_mul-lt-mul_right, arith, ℤ, pos, nat_abs, ◌*ℤ◌, get_or, set, replicate, ◌≤ℤ◌, w64, SFits}
use lib.Signed.{shr_z}
use Rattle.laws.specs.Divide.{divided}
use Rattle.laws.specs.Fill.{get_or_same}
use Rattle.laws.specs.Integer.{natural, ≤ℤ_pos}
use Rattle.step_drawdowns.specs.Drawdowns.{depth_of, multiplier_of, Stands, Multiplied}

-- D by a whole quotient of words
module _ {v : ℤ} (s : ℕ) (h : pos 0 ≤ℤ v) where
  pub depth_is : depth_of v s ≡ pos (nat_abs v * 10 ^ 6 / s)
  unfolding depth_of
  depth_is = ap (λ z. shr_z (z *ℤ pos (10 ^ 6)) s) (natural h)

  pub depth_small : {n : ℕ} → depth_of v s ≤ℤ pos n → nat_abs v * 10 ^ 6 / s ≤ n
  depth_small k = ≤ℤ_pos (rw depth_is at k)

-- a loss is below half of what a word holds
pub loss_small : {v : ℤ} → pos 0 ≤ℤ v → SFits w64 v → nat_abs v < 2 ^ 63
loss_small {v} h f = (subst (SFits w64) (natural h) f).sfits

-- a multiplier is a word
pub multiplier_small : {s : ℕ} → 10 ^ 6 < s → (0 < s) × (10 ^ 6 * 2 ^ 64 / s < 2 ^ 64)
multiplier_small {s} h = (omega arith, (div-lt_iff_lt-mul {k = s} (omega arith)).1 (omega arith))

-- 2^64 cancelled
under : {x y z : ℕ} → x * 2 ^ 64 ≤ z → z ≤ y * 2 ^ 64 → x ≤ y
under h k = omega arith

nearby : (x y z w s : ℕ) → 0 < s → z + s ≤ x * 2 ^ 64 + s * 2 ^ 64 → y * 2 ^ 64 ≤ z + w → w + s ≤ s * 2 ^ 63 → y < x + 2 * s
nearby x y z w s p f g h = let e : y * 2 ^ 64 < (x + 2 * s) * 2 ^ 64 = omega (arith, f, g, h, p) in lt_of_mul-lt-mul_right (2 ^ 64) e

-- a quotient's rest, v times over
spread : (v k m s : ℕ) → k + 1 ≤ m * s + s → v * k ≤ v * m * s + v * s
spread v k m s h = let e : v * (k + 1) ≤ v * (m * s + s) = mul-le-mul_left v h in omega (arith, e, mul_assoc v m s)

module _ (v s : ℕ) where
  abbrev pub low : ℕ
  low = v * multiplier_of s / 2 ^ 64

  module _ (hv : v < 2 ^ 63) (hs : 10 ^ 6 < s) where
    -- the multiplier's own quotient
    of_storage : (multiplier_of s * s ≤ 10 ^ 6 * 2 ^ 64) × (10 ^ 6 * 2 ^ 64 + 1 ≤ multiplier_of s * s + s)
    unfolding multiplier_of
    of_storage =
        let rest : 10 ^ 6 * 2 ^ 64 % s < s = mod-lt (10 ^ 6 * 2 ^ 64) (omega arith) in
        omega (arith, div-add-mod' (10 ^ 6 * 2 ^ 64) s)

    of_product : (low * 2 ^ 64 ≤ v * multiplier_of s) × (v * multiplier_of s + 1 ≤ low * 2 ^ 64 + 2 ^ 64)
    of_product = omega arith

    most : v * multiplier_of s * s ≤ v * 10 ^ 6 * 2 ^ 64
    most = rw (mul_assoc v (multiplier_of s) s, mul_assoc v (10 ^ 6) (2 ^ 64)) (mul-le-mul_left v of_storage.0)

    least : low * s * 2 ^ 64 ≤ v * multiplier_of s * s
    least = let h : low * 2 ^ 64 * s ≤ v * multiplier_of s * s = mul-le-mul_right s of_product.0 in omega (arith, h)

    above : v * multiplier_of s * s + s ≤ low * s * 2 ^ 64 + s * 2 ^ 64
    above = let h : (v * multiplier_of s + 1) * s ≤ (low * 2 ^ 64 + 2 ^ 64) * s = mul-le-mul_right s of_product.1 in omega (arith, h)

    near : v * 10 ^ 6 * 2 ^ 64 ≤ v * multiplier_of s * s + v * s
    near = rw (mul_assoc v (10 ^ 6) (2 ^ 64)) (spread v (10 ^ 6 * 2 ^ 64) (multiplier_of s) s of_storage.1)

    half : v * s + s ≤ s * 2 ^ 63
    half = let b : v + 1 ≤ 2 ^ 63 = omega arith in let h : (v + 1) * s ≤ 2 ^ 63 * s = mul-le-mul_right s b in omega (arith, h)

    pub low_fits : low * s ≤ v * 10 ^ 6
    low_fits = under least most

    low_near : v * 10 ^ 6 < low * s + 2 * s
    low_near = nearby (low * s) (v * 10 ^ 6) (v * multiplier_of s * s) (v * s) s (omega arith) above near half

    -- what the high word leaves is a word
    pub rest_small : s < 2 ^ 63 → v * 10 ^ 6 - low * s < 2 ^ 64
    rest_small h = omega (arith, h, low_near)

    pub low_small : low < 2 ^ 63
    low_small = let h : low * s < 2 ^ 63 * s = omega (arith, low_fits, hv, hs) in lt_of_mul-lt-mul_right s h

    pub is_next : s ≤ v * 10 ^ 6 - low * s → low + 1 ≡ v * 10 ^ 6 / s
    is_next h = (divided {q = low + 1} {r = v * 10 ^ 6 - (low + 1) * s} {n = v * 10 ^ 6} {d = s} (omega (arith, h, low_fits)) (omega (arith, low_near))).0

    pub is_low : v * 10 ^ 6 - low * s < s → low ≡ v * 10 ^ 6 / s
    is_low h = (divided {q = low} {r = v * 10 ^ 6 - low * s} {n = v * 10 ^ 6} {d = s} (omega (arith, low_fits)) h).0

-- ---- stores

set_each : (P : ℕ → ℕ → Type 0) (l : List ℕ) (k v : ℕ) → P k v → ((j : ℕ) → P j (get_or l j 0)) → (j : ℕ) → P j (get_or (set l k v) j 0)
set_each P [] k v h all j = all j
set_each P (x ∷ l) zero v h all zero = h
set_each P (x ∷ l) zero v h all (suc j) = all (suc j)
set_each P (x ∷ l) (suc k) v h all zero = all zero
set_each P (x ∷ l) (suc k) v h all (suc j) = set_each (λ i w. P (suc i) w) l k v h (λ i. all (suc i)) j

-- zeros stand for the multipliers of any storages
pub none_multiplied : (n : ℕ) (ss : List ℕ) → Multiplied (replicate n 0) ss
none_multiplied n ss = record { at = λ k. rw (get_or_same {A = ℕ} n k 0) (record { multiplier = λ h. absurd (h refl) }) }

-- a turn's store
pub more_multiplied : {ms ss : List ℕ} (k m : ℕ) → Multiplied ms ss → Stands m (get_or ss k 0) → Multiplied (set ms k m) ss
more_multiplied {ms} {ss} k m all h = record { at = set_each (λ j w. Stands w (get_or ss j 0)) ms k m h all.at }
