-- `site::layers_hold`: every layer before the loop's place is within its limits.
use Rattle.std.proofs.Common.{◌≡◌, true, ◌≤◌}
use Rattle.limits.specs.Limits.{layer_places}
use Rattle.laws.specs.Lists.{all_below}
use Rattle.site.specs.Site.{layer_at}
use Rattle.site.proofs.layers_hold.Given as goal

abbrev pub invariant-loop-i : goal.invariant-loop-i
invariant-loop-i l = (l.i-end ≤ layer_places) × (all_below l.i (layer_at l.site) ≡ true)
