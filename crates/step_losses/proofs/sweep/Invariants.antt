-- `step_losses::sweep` meets its contract: after i turns the first i layers are swept, and their water with the well and the last column is added.
use Rattle.std.proofs.Common.{◌≡◌, pos, get_or}
use Rattle.laws.specs.Span.{spans}
use Rattle.laws.specs.Signed.{Adding}
use Rattle.limits.specs.Limits.{total_limit}
use Rattle.step_flows.specs.Flows.{screen_at}
use Rattle.step_losses.specs.Losses.{water_in, changed, inflow_from, well_limit}
use Rattle.step_losses.proofs.sweep.Given as goal

abbrev pub invariant-loop-i : goal.invariant-loop-i
invariant-loop-i l =
    Adding well_limit l.well_loss (screen_at l.screen l.well l.faces.depths l.dt) l.layers l.i l.loss
    × Adding total_limit l.inflow (inflow_from (water_in l.faces.conductances l.faces.depths l.faces.down l.dt (screen_at l.screen l.well l.faces.depths l.dt)) l.stored) l.layers l.i l.total
    × (l.losses ≡ spans l.stored l.i (changed (water_in l.faces.conductances l.faces.depths l.faces.down l.dt (screen_at l.screen l.well l.faces.depths l.dt)) l.initial.losses) l.initial.losses)
    × (l.before ≡ spans l.stored l.i (λ k. get_or l.initial.losses k (pos 0)) l.initial.before)
