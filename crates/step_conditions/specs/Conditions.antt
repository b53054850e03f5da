-- What 9, 10 and 11 come to in a record's numbers and arrays: inner definitions, for the contracts of this crate's functions.
-- What the refusals say of places stands with the network; Laws joins the two.
use Rattle.std.specs.Prelude.{Bool, not, ◌||◌, List, ℕ, ◌+◌, ◌*◌, ◌-◌, ◌<◌, ltb, ℤ, pos, get_or, ◌≤ℤ◌}
use Rattle.laws.specs.Lists.{all_below}
use Rattle.limits.specs.Limits.{total_limit}
use Rattle.validity_drawdowns.specs.Drawdowns.{deeper}

-- 9: the pumped total or the time would pass its limit
abbrev pub totals_full : ℕ → ℕ → ℕ → ℕ → Bool
totals_full pumped time rate dt = ltb total_limit (pumped + rate * dt) || ltb total_limit (time + dt)

-- ---- 10 and 11

-- the first n slots store water, and have given off none or some
pub record Filled (n : ℕ) (storages : List ℕ) (losses : List ℤ) : Type 0 where
  pub storage : (k : ℕ) → k < n → 0 < get_or storages k 0
  pub loss : (k : ℕ) → k < n → pos 0 ≤ℤ get_or losses k (pos 0)

-- no D of layer 1 is past 1000×b_1
unfoldable pub table_within : ℕ → ℕ → List ℕ → List ℤ → Bool
table_within columns thickness storages losses = all_below (columns - 1) (λ k. not (deeper (1000 * thickness) (get_or storages k 0) (get_or losses k (pos 0))))
