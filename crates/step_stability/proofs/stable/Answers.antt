-- `step_stability::stable`: 8 by slots is the network's.
use Rattle.std.proofs.Common.{◌∙◌}
use Rattle.step_stability.specs.Laws.{steady_asks, steady_valid}
use Rattle.step_stability.proofs.stable.Goals as goal

pub steady-requires : goal.steady-requires
steady-requires c = steady_asks _ c.requires

pub returns : goal.returns
returns c = c.steady.ensures ∙ steady_valid _ c.requires c.args.dt
