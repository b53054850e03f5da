-- What the answer comes to in a record's arrays, slot by slot: inner definitions, for the contracts of this crate's functions.
-- Units: C 10^-12 m²/s; S nl per m; V nl; D µm; lengths of steps µs.
use Rattle.std.specs.Prelude.{◌≡◌, Bool, true, false, cond, List, ℕ, ◌+◌, ◌*◌, ◌-◌, ◌/◌, ◌%◌, ◌^◌, ◌≤◌, ◌<◌, eqb, leb, ltb, ℤ, pos, get_or, ◌≤ℤ◌}
use Rattle.std.specs.Int.Signed.{lt_z}
use Rattle.limits.specs.Limits.{length_limit, drawdown_limit}
use Rattle.network.specs.Network.{stable}
use Rattle.network.specs.Grid.{network_of}
use Rattle.record.specs.declared.Record.{Record}
use Rattle.record.specs.Record.{grid_of}
use Rattle.validity.specs.Validity.{valid}
use Rattle.step_stability.specs.Stability.{cell_sum}
use Rattle.step_drawdowns.specs.Drawdowns.{depth_at}
use Rattle.readings.specs.declared.Place.{Place}
use Rattle.readings.specs.declared.Place.TheVariants.{Cell}

-- the place of the cell in slot k
unfoldable pub slot_place : ℕ → Place
slot_place k = Cell (k / 50 + 1) (k % 50 + 1)

-- ---- 8

-- a word that stands for no limit, and for any that is over a word
unfoldable pub no_limit : ℕ
no_limit = 2 ^ 64 - 1

unfoldable pub in_word : ℕ → ℕ
in_word n = cond (ltb n (2 ^ 64)) n no_limit

-- the longest step that 8 allows where the C add up to c and S is s
unfoldable pub longest_word : ℕ → ℕ → ℕ
longest_word c s = cond (eqb c 0) no_limit (in_word (10 ^ 6 * s / c))

-- that of the cell in slot k; the last column has no place
unfoldable pub cell_longest : ℕ → List ℕ → List ℕ → List ℕ → List ℕ → ℕ → ℕ
cell_longest columns screen horizontal vertical storages k =
    cond (leb columns (k % 50 + 1)) no_limit (longest_word (cell_sum screen horizontal vertical k) (get_or storages k 0))

-- the same in a record's slots
abbrev pub slot_longest : Record → ℕ → ℕ
slot_longest r = cell_longest r.site.columns r.screen r.horizontal r.vertical r.storages

-- whether f is less at q than at p
unfoldable pub less_at : (ℕ → ℕ) → ℕ → ℕ → Bool
less_at f q p = ltb (f q) (f p)

-- 14 lets the record pass, and 8 forbids some step
pub record TooLongFor (r : Record) : Type 0 where
  pub passed : valid r ≡ true
  pub length : ℕ
  pub limited : length ≤ length_limit
  pub unsteady : stable (network_of (grid_of r)) length ≡ false

-- ---- 11

-- whether slot j is deeper than slot k
unfoldable pub deeper_slot : List ℤ → List ℕ → ℕ → ℕ → Bool
deeper_slot vs ss j k = lt_z (depth_at vs ss k) (depth_at vs ss j)

-- V of the first n slots is not negative, and their D is within its limit
pub record Shallow (vs : List ℤ) (ss : List ℕ) (n : ℕ) : Type 0 where
  pub loss : (k : ℕ) → k < n → pos 0 ≤ℤ get_or vs k (pos 0)
  pub depth : (k : ℕ) → k < n → depth_at vs ss k ≤ℤ pos drawdown_limit
