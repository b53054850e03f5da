-- `site::radii_hold`: rule 4 holds at every column before the loop's place, whose R_j and u_j = R_(j-1) + R_j the loop has.
use Rattle.std.proofs.Common.{◌≡◌, true, ◌≤◌, ◌+◌, get_or}
use Rattle.laws.specs.Lists.{all_below}
use Rattle.site.specs.Site.{radii_of, midsection, column_rises}
use Rattle.site.proofs.radii_hold.Given as goal

abbrev pub invariant-loop-j : goal.invariant-loop-j
invariant-loop-j l =
    (l.j-end ≤ 50)
    × (l.radius ≡ get_or (radii_of l.site) l.j 0)
    × (l.previous + l.radius ≡ midsection (radii_of l.site) l.j)
    × (l.previous ≤ 2000000)
    × (l.radius ≤ 2000000)
    × (all_below l.j (column_rises (radii_of l.site)) ≡ true)
