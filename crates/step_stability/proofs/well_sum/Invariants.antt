-- `step_stability::well_sum`: so many C, none over the limit.
use Rattle.std.proofs.Common.{◌≡◌, ◌*◌, ◌≤◌}
use Rattle.limits.specs.Limits.{conductance_limit}
use Rattle.step_stability.specs.Stability.{well_sum}
use Rattle.step_stability.proofs.well_sum.Given as goal

abbrev pub invariant-loop-i : goal.invariant-loop-i
invariant-loop-i l = (l.sum ≡ well_sum l.i l.rec.screen) × (l.sum ≤ l.i * conductance_limit)
