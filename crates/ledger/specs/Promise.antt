-- Demand 3: what holds before the first call of a run and after each. A list of calls cut short is a list of calls, and so is the empty one, so a
-- statement about every list says it of every moment of a run.
use Rattle.std.specs.Prelude.{◌≡◌, true, List, [], ◌∷◌, ℕ, ltb, pos, ◌-ℤ◌, length, ◌≤ℤ◌, Result, Ok}
use Rattle.refusals.specs.declared.Refusal.{Refusal}
use Rattle.laws.specs.Lists.{ifℤ}
use Rattle.network.specs.Network.{at_rest, loss_at, drawdown, loss_in}
use Rattle.network.specs.Grid.{place_count}
use Rattle.record.specs.declared.Record.{Record}
use Rattle.record.specs.Record.{state_of}
use Rattle.validity.specs.Validity.{valid}
use Rattle.scenario.specs.Scenario.{scenario_of}
use Rattle.readings.specs.declared.Place.{Place}
use Rattle.readings.specs.Readings.{is_named, number_of, drawdown_of, budget_of, loss_of}
use Rattle.ledger.specs.Calls.{Call, Reply, stepped, amount, balance, listed, compared, losses, limited}
use Rattle.ledger.specs.Ledger.{grid_from, network_from, ledger_of, outcomes_from, accepted_of, pumped_by, in_set, net_into, greatest}
use Rattle.ledger.specs.Told.{Told}

-- the outcomes among the replies of a run, one for each step call
unfoldable pub outcomes_in : List Reply → List (Result Unit Refusal)
outcomes_in [] = []
outcomes_in (stepped answer ∷ rs) = answer.outcome ∷ outcomes_in rs
outcomes_in (amount a ∷ rs) = outcomes_in rs
outcomes_in (balance b ∷ rs) = outcomes_in rs
outcomes_in (listed l ∷ rs) = outcomes_in rs
outcomes_in (compared s ∷ rs) = outcomes_in rs
outcomes_in (losses l ∷ rs) = outcomes_in rs
outcomes_in (limited l ∷ rs) = outcomes_in rs

-- what holds of the replies of a list of calls from the record that start gives for a text, and of the record r that the last of them left
pub record Holds (text : List ℕ) (calls : List Call) (replies : List Reply) (r : Record) : Type 0 where
  -- what each call of the list gives back, a reading too, is what the ledger has for it
  pub told : Told (scenario_of text) [] (at_rest (network_from text)) calls replies
  -- a step call is accepted exactly when the ledger accepts it, and a refused one has the ledger's number
  pub outcomes : outcomes_in replies ≡ outcomes_from (network_from text) (at_rest (network_from text)) calls
  -- the record's losses, totals and time are the ledger's
  pub state : state_of r ≡ ledger_of text calls
  -- 14 does not refuse the record
  pub accepted : valid r ≡ true
  -- its mark is the largest D that the ledger's well has had (document 02, N1)
  pub mark : r.mark ≡ greatest (network_from text) (accepted_of text calls)
  -- the budget reading gives the ledger's pumped total, well's loss, all cells' loss and inflow total, and that largest D
  pub budget : budget_of r ≡ Ok (record {
    pumped = (ledger_of text calls).pumped;
    well_loss = loss_at (ledger_of text calls).losses 0;
    cell_loss = loss_in (network_from text) (λ p. ltb 0 p) (ledger_of text calls).losses;
    inflow = (ledger_of text calls).inflow;
    mark = greatest (network_from text) (accepted_of text calls);
  })
  -- the storage loss read for a set is the water pumped, if the well is in it, less the net water in over its border
  pub loss : (bytes : List ℕ) → length bytes ≡ place_count (grid_from text)
      → loss_of r bytes ≡ Ok (
      ifℤ (in_set (network_from text) bytes 0) (pos (pumped_by (accepted_of text calls)))
      -ℤ net_into (network_from text) (in_set (network_from text) bytes) (accepted_of text calls))
  -- the drawdown read at a place is the ledger's, and not below 0
  pub depth : (p : Place) → is_named (grid_from text) p ≡ true
      → drawdown_of r p ≡ Ok (drawdown (network_from text) (ledger_of text calls).losses (number_of (grid_from text) p))
  pub natural : (p : Place) → is_named (grid_from text) p ≡ true
      → pos 0 ≤ℤ drawdown (network_from text) (ledger_of text calls).losses (number_of (grid_from text) p)
  -- and at most the mark, in the well and in the aquifer (N1)
  pub within : (p : Place) → is_named (grid_from text) p ≡ true
      → drawdown (network_from text) (ledger_of text calls).losses (number_of (grid_from text) p) ≤ℤ r.mark
