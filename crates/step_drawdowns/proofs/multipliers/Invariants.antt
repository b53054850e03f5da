-- `step_drawdowns::multipliers` meets its contract: after k turns each slot holds 0 or its multiplier.
use Rattle.step_drawdowns.specs.Drawdowns.{Multiplied}
use Rattle.step_drawdowns.proofs.multipliers.Given as goal

abbrev pub invariant-loop-k : goal.invariant-loop-k
invariant-loop-k l = Multiplied l.out l.storages
