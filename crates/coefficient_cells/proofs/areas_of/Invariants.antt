-- `coefficient_cells::areas_of`: the slots before the loop's place are filled. The loop has R_j and the radius before it.
use Rattle.std.proofs.Common.{◌≡◌, ◌-◌, ◌≤◌, get_or, replicate}
use Rattle.laws.specs.Fill.{fill}
use Rattle.site.specs.Site.{radii_of}
use Rattle.site.specs.Columns.{area_at}
use Rattle.coefficient_cells.proofs.areas_of.Given as goal

abbrev pub invariant-loop-j : goal.invariant-loop-j
invariant-loop-j l =
    (l.m ≤ 50)
    × (l.radius ≡ get_or (radii_of l.site) l.j 0)
    × (l.previous ≡ get_or (radii_of l.site) (l.j - 1) 0)
    × (l.previous ≤ l.radius)
    × (l.radius ≤ 2000000)
    × (l.areas ≡ fill l.j (area_at l.site) (replicate 50 0))
