-- `step_drawdowns::multipliers` meets its contract: after k turns each slot holds 0 or its multiplier.
use Rattle.step_drawdowns.proofs.Laws.{none_multiplied}
use Rattle.step_drawdowns.proofs.multipliers.Goals as goal

pub loop-k-init : goal.loop-k-init
loop-k-init c = none_multiplied 1000 c.args.storages.now
