-- Head loss of one screened layer of a record (document 01, 'Readings', last paragraph).
-- The formulas stand in hydraulics, the layers along the pipe in pipe.
-- Lengths are mm, water nl, Δt µs, flows l/s, velocities m/s, head losses m.
use Rattle.std.specs.Prelude.{Bool, not, ◌&&◌, List, [], ◌∷◌, ℕ, ◌-◌, Float, ℤ, neg_ℤ, get_or, Result}
use Rattle.refusals.specs.declared.Refusal.{Refusal}
use Rattle.refusals.specs.Refusals.{given}
use Rattle.laws.specs.Lists.{first}
use Rattle.network.specs.Network.{flow, length_out, unstable}
use Rattle.network.specs.Grid.{Grid, across_face, network_of}
use Rattle.site.specs.declared.Site.{Site}
use Rattle.record.specs.declared.Record.{Record}
use Rattle.record.specs.Record.{grid_of, state_of}
use Rattle.validity.specs.Validity.{valid}
use Rattle.readings.specs.Readings.{is_layer}
use Rattle.hydraulics.specs.Hydraulics.{inflow_of, wall_velocity, law_of, screen_loss}
use Rattle.pipe.specs.Pipe.{pipe_loss_at}
use Rattle.read_head_loss.specs.declared.Losses.{Losses}

-- ---- the flow of a layer

-- F: the water into the well from layer i, from its column 1, for a step Δt not taken
unfoldable pub water_into : Grid → List ℤ → ℕ → ℕ → ℤ
water_into G vs dt i = neg_ℤ (flow (network_of G) vs dt (across_face G i 0))

-- ---- the reading

-- inflow, screen loss and pipe loss of layer i of a site, by the e of its layers
unfoldable pub losses_at : Site → (ℕ → Float) → ℕ → Losses
losses_at s e i = record {
  inflow = e i;
  screen_loss = screen_loss (law_of s.loss_count (get_or s.loss_coefficients 0 0) (get_or s.loss_coefficients 1 0)) (wall_velocity (e i) (get_or s.thickness i 0) s.well_radius);
  pipe_loss = pipe_loss_at s e i;
}

-- a layer that a caller names, from 1, is one of the layers and is screened
unfoldable pub is_screened_layer : Grid → ℕ → Bool
is_screened_layer G layer = is_layer G layer && G.screened (layer - 1)

-- the number of the first condition that forbids the reading, 0 if none does
unfoldable pub head_loss_refusal : Record → ℕ → ℕ → ℕ
head_loss_refusal r layer dt =
    first (
    (not (valid r), 14)
    ∷ (not (is_screened_layer (grid_of r) layer), 12)
    ∷ (length_out dt, 7)
    ∷ (unstable (network_of (grid_of r)) dt, 8)
    ∷ [])

-- head loss of a layer, from 1, for a step Δt not taken
unfoldable pub head_loss_of : Record → ℕ → ℕ → Result Losses Refusal
head_loss_of r layer dt =
    given (head_loss_refusal r layer dt)
    (losses_at r.site (λ i. inflow_of (water_into (grid_of r) (state_of r).losses dt i) dt) (layer - 1))
