-- One step on a record (document 01, 'A step' and 'Who brings a refusal about').
use Rattle.std.specs.Prelude.{not, cond, ◌∷◌, ℕ, ℤ, pos}
use Rattle.laws.specs.Lists.{larger, first}
use Rattle.network.specs.Network.{State, loss_at, drawdown, moved, step_tests}
use Rattle.network.specs.Grid.{place, network_of}
use Rattle.record.specs.declared.Record.{Record}
use Rattle.record.specs.declared.Answer.{Answer}
use Rattle.record.specs.Record.{slots, is_cell, grid_of, state_of, answer_of}
use Rattle.validity.specs.Validity.{valid}

-- the record with another state, each cell's loss in its slot, and another mark, µm
abbrev pub holding : Record → State → ℤ → Record
holding r s mark = record {
  site = r.site;
  screen = r.screen;
  horizontal = r.horizontal;
  vertical = r.vertical;
  storages = r.storages;
  losses = slots (λ i j. cond (is_cell r.site i j) (loss_at s.losses (place (grid_of r) i j)) (pos 0));
  well_storage = r.well_storage;
  well_loss = loss_at s.losses 0;
  pumped = s.pumped;
  inflow = s.inflow;
  time = s.time;
  mark = mark;
}

-- the record with another state, of which the mark is the larger of what it was and the well's D in that state (N1)
unfoldable pub with_state : Record → State → Record
with_state r s = holding r s (larger r.mark (drawdown (network_of (grid_of r)) s.losses 0))

-- the number of the first condition that forbids the step, 0 if none does: 14, then 7 to 11
unfoldable pub step_refusal : Record → ℕ → ℕ → ℕ
step_refusal r rate dt = first ((not (valid r), 14) ∷ step_tests (network_of (grid_of r)) (state_of r) rate dt)

-- a refused step gives its number and the record handed in
unfoldable pub step_of : Record → ℕ → ℕ → Answer
step_of r rate dt = answer_of (step_refusal r rate dt) r (with_state r (moved (network_of (grid_of r)) (state_of r) rate dt))
