-- What 8 comes to in a record's arrays, slot by slot: inner definitions, for the contracts of this crate's functions.
-- What the refusal says of places and faces stands with the network; Laws joins the two.
use Rattle.std.specs.Prelude.{Bool, cond, ◌&&◌, ◌||◌, List, ℕ, ◌+◌, ◌*◌, ◌-◌, ◌/◌, ◌%◌, ◌^◌, ◌≤◌, ◌<◌, eqb, leb, ltb, get_or}
use Rattle.laws.specs.Lists.{all_below, sumℕ, range}
use Rattle.limits.specs.Limits.{conductance_limit}

-- no slot holds a C over the limit
pub record Limited (screen horizontal vertical : List ℕ) : Type 0 where
  pub well : (i : ℕ) → i < 20 → get_or screen i 0 ≤ conductance_limit
  pub across : (k : ℕ) → k < 1000 → get_or horizontal k 0 ≤ conductance_limit
  pub down : (k : ℕ) → k < 1000 → get_or vertical k 0 ≤ conductance_limit

-- C toward the well: in column 1 that of the well's face
unfoldable pub inward_c : List ℕ → List ℕ → ℕ → ℕ
inward_c screen horizontal k = cond (eqb (k % 50) 0) (get_or screen (k / 50) 0) (get_or horizontal (k - 1) 0)

-- C with the layer above; layer 1 has none
unfoldable pub upper_c : List ℕ → ℕ → ℕ
upper_c vertical k = cond (ltb k 50) 0 (get_or vertical (k - 50) 0)

-- sum of C of the faces of the cell in slot k, and of the well's with the first n layers
unfoldable pub cell_sum : List ℕ → List ℕ → List ℕ → ℕ → ℕ
cell_sum screen horizontal vertical k = get_or horizontal k 0 + inward_c screen horizontal k + get_or vertical k 0 + upper_c vertical k

unfoldable pub well_sum : ℕ → List ℕ → ℕ
well_sum n screen = sumℕ (range 0 n) (λ i. get_or screen i 0)

-- Δt × (sum of C) is at most 10^6 × S at slot k; the last column has no place
unfoldable pub cell_steady : ℕ → List ℕ → List ℕ → List ℕ → List ℕ → ℕ → ℕ → Bool
cell_steady columns screen horizontal vertical storages dt k =
    leb columns (k % 50 + 1) || leb (dt * cell_sum screen horizontal vertical k) (10 ^ 6 * get_or storages k 0)

-- and at every place
unfoldable pub slots_steady : ℕ → ℕ → List ℕ → List ℕ → List ℕ → List ℕ → ℕ → ℕ → Bool
slots_steady layers columns screen horizontal vertical storages well_storage dt =
    leb (dt * well_sum layers screen) (10 ^ 6 * well_storage)
    && all_below (layers * 50) (cell_steady columns screen horizontal vertical storages dt)
