-- The ledger of a run (document 01, 'The ledger of a run'): kept from the scenario text and the calls' arguments, and from no record.
-- Units: V, totals and water nl; D µm; times µs.
use Rattle.std.specs.Prelude.{cond, ◌&&◌, Bool, List, [], ◌∷◌, ℕ, ◌*◌, ℤ, eqb, Result}
use Rattle.refusals.specs.Refusals.{outcome_of}
use Rattle.refusals.specs.declared.Refusal.{Refusal}
use Rattle.laws.specs.Lists.{larger, sumℕ, sumℤ}
use Rattle.network.specs.Network.{Network, State, at_rest, is_place, drawdown, flow, inward, moved, refusal}
use Rattle.network.specs.Grid.{Grid, network_of}
use Rattle.coefficients.specs.Coefficients.{scenario_grid}
use Rattle.scenario.specs.Scenario.{scenario_of}
use Rattle.readings.specs.Readings.{set_of}
use Rattle.ledger.specs.Calls.{Call, step, read}

-- places and faces, with the scenario's C, S and other numbers
abbrev pub grid_from : List ℕ → Grid
grid_from text = scenario_grid (scenario_of text)

abbrev pub network_from : List ℕ → Network
network_from text = network_of (grid_from text)

-- ---- V of each place, totals and time, from s on

-- a step that a condition other than 14 forbids, judged on the ledger, changes nothing, and nor does a reading
unfoldable pub after_call : Network → State → Call → State
after_call N s (step rate dt) = cond (eqb (refusal N s rate dt) 0) (moved N s rate dt) s
after_call N s (read q) = s

unfoldable pub after_calls : Network → State → List Call → State
after_calls N s [] = s
after_calls N s (c ∷ cs) = after_calls N (after_call N s c) cs

-- all zero at first
unfoldable pub ledger_of : List ℕ → List Call → State
ledger_of text calls = after_calls (network_from text) (at_rest (network_from text)) calls

-- the outcome of each step call
unfoldable pub outcomes_from : Network → State → List Call → List (Result Unit Refusal)
outcomes_from N s [] = []
outcomes_from N s (step rate dt ∷ cs) = outcome_of (refusal N s rate dt) ∷ outcomes_from N (after_call N s (step rate dt)) cs
outcomes_from N s (read q ∷ cs) = outcomes_from N s cs

-- ---- the accepted steps

-- an accepted step: the ledger before it, its rate and its Δt
pub record Accepted : Type 0 where
  pub before : State
  pub rate : ℕ
  pub dt : ℕ

unfoldable pub accepted_from : Network → State → List Call → List Accepted
accepted_from N s [] = []
accepted_from N s (step rate dt ∷ cs) =
    cond (eqb (refusal N s rate dt) 0)
    (record { before = s; rate = rate; dt = dt } ∷ accepted_from N (moved N s rate dt) cs)
    (accepted_from N s cs)
accepted_from N s (read q ∷ cs) = accepted_from N s cs

unfoldable pub accepted_of : List ℕ → List Call → List Accepted
accepted_of text calls = accepted_from (network_from text) (at_rest (network_from text)) calls

-- the water pumped: rate × Δt over accepted steps
unfoldable pub pumped_by : List Accepted → ℕ
pumped_by steps = sumℕ steps λ t. t.rate * t.dt

-- whether p is in the set that bytes give; the last column is in no set
unfoldable pub in_set : Network → List ℕ → ℕ → Bool
in_set N bytes p = is_place N p && set_of bytes p

-- the net water in: over accepted steps and border faces, the flow toward the end inside
unfoldable pub net_into : Network → (ℕ → Bool) → List Accepted → ℤ
net_into N s steps = sumℤ steps λ t. inward N s (flow N t.before.losses t.dt)

-- the largest D that the well has had: at the start, where it is 0, and after each accepted step
unfoldable pub greatest : Network → List Accepted → ℤ
greatest N [] = drawdown N (at_rest N).losses 0
greatest N (t ∷ steps) = larger (drawdown N (moved N t.before t.rate t.dt).losses 0) (greatest N steps)
