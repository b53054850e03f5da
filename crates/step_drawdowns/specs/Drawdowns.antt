-- D of a loss and a storage, by slot, and the multiplier of a storage, by which it is worked out in place of a quotient: inner definitions, for
-- the contracts of this crate's functions.
use Rattle.std.specs.Prelude.{◌≡◌, List, ℕ, ◌*◌, ◌/◌, ◌^◌, ◌<◌, ℤ, pos, ◌*ℤ◌, get_or}
use Rattle.std.specs.Int.Signed.{shr_z}

-- D = V×10^6/S of a loss and a storage, rounded down; 0 where nothing is stored
unfoldable pub depth_of : ℤ → ℕ → ℤ
depth_of v s = shr_z (v *ℤ pos (10 ^ 6)) s

unfoldable pub depth_at : List ℤ → List ℕ → ℕ → ℤ
depth_at vs ss k = depth_of (get_or vs k (pos 0)) (get_or ss k 0)

-- 10^6 × 2^64 / S, rounded down: a word where S is over 10^6
unfoldable pub multiplier_of : ℕ → ℕ
multiplier_of s = 10 ^ 6 * 2 ^ 64 / s

-- m is 0, or the multiplier of an S over 10^6
pub record Stands (m s : ℕ) : Type 0 where
  pub multiplier : (m ≡ 0 → ⊥) → (10 ^ 6 < s) × (m ≡ multiplier_of s)

-- so does each slot's for the storage in the same slot
pub record Multiplied (ms ss : List ℕ) : Type 0 where
  pub at : (k : ℕ) → Stands (get_or ms k 0) (get_or ss k 0)
