-- Levels after the pump stops (document 02, N14): what holds of a record that 14 does not refuse and of a list of calls on it in which every step has
-- rate 0, in what the readings give.
-- Units: D and mark µm; losses and totals nl; Δt µs.
use Rattle.std.specs.Prelude.{◌≡◌, ℕ, Bool, true, eqb, List, [], ◌∷◌, map, ℤ, ◌+ℤ◌, ◌-ℤ◌, neg_ℤ, ◌≤ℤ◌, Ok}
use mathlib.Core.List.{flat_map}
use Rattle.refusals.specs.Refusals.{outcome_of}
use Rattle.laws.specs.Lists.{larger}
use Rattle.network.specs.Network.{drawdown}
use Rattle.network.specs.Grid.{Grid, stored_columns, layers_of, place, network_of}
use Rattle.record.specs.declared.Record.{Record}
use Rattle.record.specs.Record.{grid_of, state_of}
use Rattle.step_rules.specs.Step.{step_of}
use Rattle.readings.specs.declared.Place.{Place}
use Rattle.readings.specs.declared.Totals.{Totals}
use Rattle.readings.specs.Readings.{is_named, drawdown_of, budget_of}
use Rattle.ledger.specs.Calls.{Call, step, read, left, left_by_all}

-- a call at rest: a step at rate 0, whatever its Δt, or a reading
unfoldable pub is_at_rest : Call → Bool
is_at_rest (step rate dt) = eqb rate 0
is_at_rest (read q) = true

-- ---- the largest drawdown

-- the largest of x and of the numbers in a list
unfoldable pub largest_of : ℤ → List ℤ → ℤ
largest_of x [] = x
largest_of x (y ∷ ys) = larger y (largest_of x ys)

-- D of each cell of a grid with the losses vs, columns 1 to m−1 of every layer
unfoldable pub cell_depths : Grid → List ℤ → List ℤ
cell_depths G vs = flat_map (λ i. map (λ j. drawdown (network_of G) vs (place G i j)) (stored_columns G)) (layers_of G)

-- the largest D over the well and all cells
unfoldable pub largest_in : Grid → List ℤ → ℤ
largest_in G vs = largest_of (drawdown (network_of G) vs 0) (cell_depths G vs)

-- that of a record: the largest of the moment. The mark is another number, the largest that the well has had since start
unfoldable pub largest : Record → ℤ
largest r = largest_in (grid_of r) (state_of r).losses

-- ---- what is read of a record
pub record Reads (r : Record) : Type 0 where
  -- the budget reading gives these totals
  pub totals : Totals
  pub budget : budget_of r ≡ Ok totals
  -- the drawdown reading gives at every place a drawdown that is at most the largest, and at one place the largest
  pub depth : (p : Place) → is_named (grid_of r) p ≡ true → (D : ℤ) × (drawdown_of r p ≡ Ok D) × (D ≤ℤ largest r)
  pub deepest : (p : Place) × (drawdown_of r p ≡ Ok (largest r))

-- ---- from one call to the next

-- r is the record that a call is handed, q the one that it leaves
pub record Between (r q : Record) : Type 0 where
  pub before : Reads r
  pub after : Reads q
  -- the largest drawdown never rises
  pub depth : largest q ≤ℤ largest r
  -- the inflow total never falls
  pub inflow : before.totals.inflow ≤ℤ after.totals.inflow

-- that, of each call of a list: the first is made on the record r, and each on the record that the last one left
pub data Each : Record → List Call → Type 0 where
  nothing : {r : Record} → Each r []
  further : {r : Record} {c : Call} {cs : List Call} → Between r (left r c) → Each (left r c) cs → Each r (c ∷ cs)

-- ---- over a list of calls from the record r on

-- the losses of the well and of all cells together
abbrev pub lost : Totals → ℤ
lost t = t.well_loss +ℤ t.cell_loss

-- what holds of the list. One that is cut short is a list too, so that what is said of the record at its end is said of the record after each call
pub record Recovers (r : Record) (calls : List Call) : Type 0 where
  pub each : Each r calls
  pub begun : Reads r
  pub ended : Reads (left_by_all r calls)
  -- the water that left storage meanwhile, over well and cells together, is minus the inflow gained
  pub stored : lost ended.totals -ℤ lost begun.totals ≡ neg_ℤ (ended.totals.inflow -ℤ begun.totals.inflow)
  -- with the mark in the record (N1): it stays, and 10 refuses no further step at rate 0
  pub mark : ended.totals.mark ≡ begun.totals.mark
  pub intake : (dt : ℕ) → (step_of (left_by_all r calls) 0 dt).outcome ≡ outcome_of 10 → ⊥
