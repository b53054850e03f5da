-- The ends of a face, of which the drawdown is read: for the inner contracts of the readings.
use Rattle.std.specs.Prelude.{ℕ, ◌≤◌}
use Rattle.network.specs.Grid.{Grid}
use Rattle.readings.specs.declared.Place.{Place}
use Rattle.readings.specs.declared.Place.TheVariants.{Well, Cell}

-- what an end may be: the well, or a cell, also of the last column
pub data End (G : Grid) : Place → Type 0 where
  well : End G Well
  cell : (i j : ℕ) → 1 ≤ i → i ≤ G.layers → 1 ≤ j → j ≤ G.columns → End G (Cell i j)
