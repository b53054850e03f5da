-- A law of C in use, nothing to believe.
use Rattle.std.proofs.Common.{◌≡◌, ℕ, suc, ◌*◌, ℤ, pos, negsuc, ◌+ℤ◌, ◌-ℤ◌, ◌*ℤ◌, zero-mul}
use Rattle.std.proofs.Math.Nat.{zero-div}
use Rattle.std.specs.Int.Signed.{shr_z}
use Rattle.network.specs.Network.{saturated, in_use_by}
use Rattle.step_flows.specs.Flows.{reduced_c}

-- where C is 0, so is what is in use of it
pub reduced_none : (b : ℕ) (Da Db : ℤ) → reduced_c b 0 Da Db ≡ pos 0
unfolding reduced_c in_use_by saturated
reduced_none b Da Db = go (pos (1000 * b) -ℤ Da +ℤ (pos (1000 * b) -ℤ Db))
  where
    go : (z : ℤ) → shr_z (pos 0 *ℤ z) (2000 * b) ≡ pos 0
    go (pos n) = rw (zero-mul n, zero-div (2000 * b))
    go (negsuc n) = rw (zero-mul (suc n), zero-div (2000 * b))
