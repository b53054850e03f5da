-- `sections::repeats_hold` meets its contract: the repeats of the first i entries are within their limits.
use Rattle.std.proofs.Common.{◌≡◌, true, ℕ, ◌+◌, ◌*◌, ◌<◌, get_or}
use Rattle.limits.specs.Limits.{repeat_limits}
use Rattle.sections.proofs.repeats_hold.Given as goal

abbrev pub invariant-loop-i : goal.invariant-loop-i
invariant-loop-i l = (k : ℕ) → k < l.i → repeat_limits (get_or l.values (l.layout.pumping + 3 + 3 * k) 0) ≡ true
