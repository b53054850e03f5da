-- `coefficient_cells::logarithms_of`: the slots before the loop's place are filled. The loop has R_j, the radius before it and with both u_j, and keeps
-- that each logarithm is above 0.
use Rattle.std.proofs.Common.{◌≡◌, ℕ, ◌+◌, ◌<◌, ◌≤◌, get_or, replicate}
use Rattle.laws.specs.Fill.{fill}
use Rattle.site.specs.Site.{radii_of, midsection}
use Rattle.site.specs.Columns.{logarithm_at}
use Rattle.coefficient_cells.proofs.logarithms_of.Given as goal

abbrev pub invariant-loop-j : goal.invariant-loop-j
invariant-loop-j l =
    (l.m ≤ 50)
    × (l.radius ≡ get_or (radii_of l.site) l.j 0)
    × (l.previous + l.radius ≡ midsection (radii_of l.site) l.j)
    × (l.previous ≤ l.radius)
    × (l.radius ≤ 2000000)
    × (l.logarithms ≡ fill l.j (logarithm_at l.site) (replicate 50 0))
    × ((k : ℕ) → k < l.j → 0 < logarithm_at l.site k)
