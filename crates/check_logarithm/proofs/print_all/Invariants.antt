-- `check_logarithm::print_all`.
use Rattle.std.proofs.Common.{◌≤◌, ◌-◌}
use Rattle.check_logarithm.proofs.print_all.Given as goal

abbrev pub invariant-loop-q : goal.invariant-loop-q
invariant-loop-q g l = 20 ≤ l.q

abbrev pub decreases-loop-q : goal.decreases-loop-q
decreases-loop-q g l = 4000000 - l.q
