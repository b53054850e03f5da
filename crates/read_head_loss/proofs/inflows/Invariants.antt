-- `read_head_loss::inflows` meets its contract: after i turns the first i slots are filled.
use Rattle.std.proofs.Common.{◌≡◌}
use Rattle.laws.specs.Fill.{fill}
use Rattle.read_head_loss.specs.Slots.{inflow_at, no_inflows}
use Rattle.read_head_loss.proofs.inflows.Given as goal

abbrev pub invariant-loop-i : goal.invariant-loop-i
invariant-loop-i l = l.out ≡ fill l.i (inflow_at l.rec.screen l.rec.storages l.rec.losses l.well l.dt) no_inflows
