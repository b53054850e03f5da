-- What would hold back a step not taken (document 02, N12): the answer of `limiting_place`, by the number that `step` would answer.
-- Units: C 10^-12 m²/s; S nl per m; V nl; D µm; lengths of steps µs; rates ml/s.
use Rattle.std.specs.Prelude.{Bool, cond, not, ◌&&◌, ◌||◌, List, ℕ, zero, suc, ◌+◌, ◌*◌, ◌-◌, ◌/◌, ◌^◌, eqb, ltb, ℤ, get_or, Result, Ok, Err}
use Rattle.std.specs.Int.Signed.{lt_z}
use Rattle.refusals.specs.declared.Refusal.{Refusal}
use Rattle.network.specs.Network.{Network, storage_at, drawdown, losses_after, conductance_sum}
use Rattle.network.specs.Grid.{Grid, place, one_per_place, network_of}
use Rattle.record.specs.declared.Record.{Record}
use Rattle.record.specs.Record.{grid_of, state_of}
use Rattle.step_rules.specs.Step.{step_refusal}
use Rattle.readings.specs.declared.Place.{Place}
use Rattle.readings.specs.declared.Place.TheVariants.{Well, Cell}
use Rattle.read_limiting.specs.declared.Limiting.{Limiting}

-- of the numbers k to k + n the first that no other comes before, where `before q p` says that q comes before p in some order
unfoldable pub foremost : (ℕ → ℕ → Bool) → ℕ → ℕ → ℕ
foremost before k zero = k
foremost before k (suc n) = cond (before (k + suc n) (foremost before k n)) (k + suc n) (foremost before k n)

-- ---- 8: the place with the shortest allowed step; C as 8 counts it, between layers 1 and 2 at s = 0 (N6)

-- whether p sets a limit: not where its C add up to 0
unfoldable pub sets_limit : Network → ℕ → Bool
sets_limit N p = ltb 0 (conductance_sum N p)

-- the longest step that 8 allows at such a place: 10^6×S/(sum of C of its faces), rounded down
unfoldable pub longest_at : Network → ℕ → ℕ
longest_at N p = 10 ^ 6 * storage_at N p / conductance_sum N p

-- whether the longest step allowed at q is shorter than that at p, in whole µs
unfoldable pub shorter_at : Network → ℕ → ℕ → Bool
shorter_at N q p = sets_limit N q && (not (sets_limit N p) || ltb (longest_at N q) (longest_at N p))

-- the place with the shortest: of equal ones the first in the numbering of places, the well, then the lowest layer, then the lowest column
unfoldable pub shortest_place : Network → ℕ
shortest_place N = foremost (shorter_at N) 0 (N.places - 1)

-- ---- 11: the deepest cell of layer 1, where the losses are vs

-- whether the cell of column j is deeper than that of column k
unfoldable pub deeper_at : Grid → List ℤ → ℕ → ℕ → Bool
deeper_at G vs j k = lt_z (drawdown (network_of G) vs (place G 0 k)) (drawdown (network_of G) vs (place G 0 j))

-- the column, 1 to m−1, of the deepest: of equal ones the lowest
unfoldable pub deepest_column : Grid → List ℤ → ℕ
deepest_column G vs = foremost (deeper_at G vs) 1 (G.columns - 2)

-- ---- the answer

-- the place with a number, as a caller names it
unfoldable pub name_of : Grid → ℕ → Place
name_of G p = get_or (one_per_place G Well (λ i j. Cell (suc i) j)) p Well

-- 8: that place, and the longest step that 8 allows
unfoldable pub too_long_in : Grid → Limiting
too_long_in G = Limiting.TooLong (name_of G (shortest_place (network_of G))) (longest_at (network_of G) (shortest_place (network_of G)))

-- 11: the cell of layer 1 that is deepest where the losses are vs
unfoldable pub past_bottom_in : Grid → List ℤ → Limiting
past_bottom_in G vs = Limiting.PastBottom (Cell 1 (deepest_column G vs))

-- the answer to a step of dt at this rate that is refused with the number n, or taken where n is 0; vs are the losses at its start
unfoldable pub limiting_in : Grid → List ℤ → ℕ → ℕ → ℕ → Result Limiting Refusal
limiting_in G vs rate dt n =
    cond (eqb n 14) (Err Refusal.Record)
    (Ok (cond (eqb n 8) (too_long_in G)
    (cond (eqb n 10) (Limiting.PastIntake Well)
    (cond (eqb n 11) (past_bottom_in G (losses_after (network_of G) vs rate dt))
    Limiting.Nothing))))

-- of a record, by the number that `step` would answer
unfoldable pub limiting_of : Record → ℕ → ℕ → Result Limiting Refusal
limiting_of r rate dt = limiting_in (grid_of r) (state_of r).losses rate dt (step_refusal r rate dt)
