-- Bounds on the sums of C.
use Rattle.std.proofs.Common.{◌≡◌, refl, sym, Bool, true, false, cond, List, ℕ, ◌+◌, ◌/◌, ◌%◌, ◌-◌, ◌≤◌, ◌<◌, zero-le, arith, eqb, ltb, get_or}
use Rattle.laws.specs.RowSums.{sum_more}
use Rattle.laws.specs.Lists.{sumℕ, range}
use Rattle.limits.specs.Limits.{conductance_limit}
use Rattle.step_stability.specs.Stability.{Limited, inward_c, upper_c, well_sum}

either : (t : Bool) {a b n : ℕ} → a ≤ n → b ≤ n → cond t a b ≤ n
either true h k = h
either false h k = k

module _ {screen horizontal vertical : List ℕ} (l : Limited screen horizontal vertical) (k : ℕ) (h : k < 1000) where
  pub inward_le : inward_c screen horizontal k ≤ conductance_limit
  unfolding inward_c
  inward_le = either (eqb (k % 50) 0) (l.well (k / 50) (omega arith)) (l.across (k - 1) (omega arith))

  pub upper_le : upper_c vertical k ≤ conductance_limit
  unfolding upper_c
  upper_le = either (ltb k 50) zero-le (l.down (k - 50) (omega arith))

pub well_none : (screen : List ℕ) → 0 ≡ well_sum 0 screen
unfolding well_sum sumℕ range
well_none screen = refl

pub well_more : (screen : List ℕ) (n : ℕ) → well_sum n screen + get_or screen n 0 ≡ well_sum (n + 1) screen
unfolding well_sum
well_more screen n = sym (sum_more (λ i. get_or screen i 0) n)
