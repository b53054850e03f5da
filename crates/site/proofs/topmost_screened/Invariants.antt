-- `site::topmost_screened`: the search from the top is the search from layer i on.
use Rattle.std.proofs.Common.{◌≡◌, ◌≤◌, ◌-◌}
use Rattle.site.specs.Site.{topmost_screened, screen_layer}
use Rattle.site.proofs.topmost_screened.Given as goal

abbrev pub invariant-loop-i : goal.invariant-loop-i
invariant-loop-i l = (l.i-end ≤ 20) × (screen_layer l.site ≡ topmost_screened l.site.screened (l.i-end - l.i) l.i)
