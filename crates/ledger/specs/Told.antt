-- What the ledger has for each call of a run (document 01, 'The ledger of a run', 'Readings' and 'Who brings a refusal about'): by the scenario's
-- numbers, its places, faces, C and S, the ledger's state and its accepted steps, and from no record of the run. 14 refuses only a record that is
-- handed in for comparison.
-- Units: D µm; V, totals and water nl; Δt µs; inflow l/s, head losses m.
use Rattle.std.specs.Prelude.{◌≡◌, not, ◌||◌, List, [], ◌∷◌, ◌++◌, ◌-◌, eqb, ltb, length, Ok}
use Rattle.refusals.specs.Refusals.{given, outcome_of}
use Rattle.laws.specs.Lists.{first}
use Rattle.network.specs.Network.{Network, State, loss_in, length_out, unstable, refusal}
use Rattle.network.specs.Network as network
use Rattle.network.specs.Grid.{Grid, place_count, network_of}
use Rattle.site.specs.declared.Site.{Site}
use Rattle.record.specs.declared.Record.{Record}
use Rattle.record.specs.Record.{state_of}
use Rattle.validity.specs.Validity.{valid}
use Rattle.coefficients.specs.Coefficients.{scenario_grid, start_record}
use Rattle.step_rules.specs.Step.{holding}
use Rattle.readings.specs.Readings.{is_named, number_of, totals_in, set_of, leads, water_from, deep_count_in, deep_codes_in, listed_of, same_record}
use Rattle.hydraulics.specs.Hydraulics.{inflow_of}
use Rattle.read_head_loss.specs.HeadLoss.{water_into, losses_at, is_screened_layer}
use Rattle.read_limiting.specs.Limiting.{limiting_in}
use Rattle.ledger.specs.Calls.{drawdown, budget, loss, flow, deep, same, same_as, head_loss, limiting, Call, step, read, Reply, stepped, amount, balance, listed, compared, losses, limited}
use Rattle.ledger.specs.Ledger.{after_call, Accepted, accepted_from, greatest}

-- the record that holds a scenario with its C and S, a state of its ledger, and the largest D that the well has had in the accepted steps to it
abbrev pub ledger_record : Site → List Accepted → State → Record
ledger_record scenario steps s = holding (start_record scenario) s (greatest (network_of (scenario_grid scenario)) steps)

module _ (scenario : Site) (steps : List Accepted) (s : State) where
  abbrev G : Grid
  G = scenario_grid scenario

  abbrev N : Network
  N = network_of G

  -- the accepted steps after a call
  abbrev pub steps_after : Call → List Accepted
  steps_after c = steps ++ accepted_from N s (c ∷ [])

  -- the record that a call leaves
  abbrev pub record_left : Call → Record
  record_left c = ledger_record scenario (steps_after c) (after_call N s c)

  -- what the reply to one call is, in the state s after these accepted steps
  unfoldable pub Tells : Call → Reply → Type 0
  -- a step: the outcome by the ledger's judgement, and that record; its losses, totals and time are the ledger's after the call, and its mark is the largest D
  -- that the ledger's well has had then
  Tells (step rate dt) reply =
      (reply ≡ stepped (record { outcome = outcome_of (refusal N s rate dt); «record» = record_left (step rate dt) }))
      × (state_of (record_left (step rate dt)) ≡ after_call N s (step rate dt))
      × ((record_left (step rate dt)).mark ≡ greatest N (steps_after (step rate dt)))
  -- the drawdown at a place; 12 for no such place
  Tells (read (drawdown p)) reply = reply ≡ amount (given (first ((not (is_named G p), 12) ∷ [])) (network.drawdown N s.losses (number_of G p)))
  -- the pumped total, the well's loss, all cells' loss, the inflow total and the largest D that the well has had; never refused
  Tells (read budget) reply = reply ≡ balance (Ok (totals_in N s (greatest N steps)))
  -- the storage loss of a set; 13 for another count of bytes than of places
  Tells (read (loss bytes)) reply = reply ≡ amount (given (first ((not (eqb (length bytes) (place_count G)), 13) ∷ [])) (loss_in N (set_of bytes) s.losses))
  -- the water of a face from the first end named to the second, for a step Δt not taken; 12 for no such face, 7 and 8 for the Δt
  Tells (read (flow a b dt)) reply =
      reply ≡ amount (given (first ((not (leads G a b || leads G b a), 12) ∷ (length_out dt, 7) ∷ (unstable N dt, 8) ∷ [])) (water_from G s.losses dt a b))
  -- the cells deeper than D: how many, and in the lent list the code of each in the reading's order; 13 for a list too short
  Tells (read (deep D old)) reply =
      reply ≡ listed (listed_of (first ((ltb (length old) (deep_count_in G s.losses D), 13) ∷ [])) (deep_count_in G s.losses D) (deep_codes_in G s.losses D) old)
  -- whether another record is that of the ledger (document 02, N10), and the other way round; 14 for that record
  Tells (read (same q)) reply = reply ≡ compared (given (first ((not (valid q), 14) ∷ [])) (same_record (ledger_record scenario steps s) q))
  Tells (read (same_as q)) reply = reply ≡ compared (given (first ((not (valid q), 14) ∷ [])) (same_record q (ledger_record scenario steps s)))
  -- inflow, screen loss and pipe loss of a layer, from 1, for a step Δt not taken; 12 for no such screened layer, 7 and 8 for the Δt
  Tells (read (head_loss layer dt)) reply =
      reply ≡ losses (given (first ((not (is_screened_layer G layer), 12) ∷ (length_out dt, 7) ∷ (unstable N dt, 8) ∷ []))
      (losses_at scenario (λ i. inflow_of (water_into G s.losses dt i) dt) (layer - 1)))
  -- what would hold back a step not taken (document 02, N12), by the ledger's own judgement of it; never refused
  Tells (read (limiting rate dt)) reply = reply ≡ limited (limiting_in G s.losses rate dt (refusal N s rate dt))

-- what the replies to a list of calls are, from the state s on, after these accepted steps
pub data Told (scenario : Site) : List Accepted → State → List Call → List Reply → Type 0 where
  nothing : {steps : List Accepted} {s : State} → Told scenario steps s [] []
  further : {steps : List Accepted} {s : State} {c : Call} {cs : List Call} {reply : Reply} {replies : List Reply} → Tells scenario steps s c reply
      → Told scenario (steps_after scenario steps s c) (after_call (network_of (scenario_grid scenario)) s c) cs replies → Told scenario steps s (c ∷ cs) (reply ∷ replies)
