-- What is known of a scenario in its limits and of its columns' areas, for the proofs of this and other crates: laws only, nothing to believe.
--     judged_site     what the tests of 2, 3 and 4 say
--     areas_of_lem        the array of areas holds A_j of each column before the last
use Rattle.std.proofs.Common.{◌≡◌, true, ℕ, zero, suc, ◌^◌, ◌≤◌, ◌<◌, get_or, replicate, arith}
use Rattle.std.proofs.Math.ListN.{length-replicate}
use Rattle.laws.specs.Fill.{get_or-fill}
use Rattle.limits.specs.Limits.{column_places}
use Rattle.geometry.specs.Laws.{area_most}
use Rattle.site.specs.declared.Site.{Site}
use Rattle.site.specs.Columns.{area_at}
use Rattle.site.specs.Laws.{counts_hold_lem, numbers_hold_lem, radii_hold_lem}
use Rattle.site.specs.Site.{radii_of, counts_hold, numbers_hold, radii_hold}
use Rattle.coefficient_cells.specs.Worked.{InLimits, areas_of, Areas}

pub judged_site : (s : Site) → counts_hold s ≡ true → numbers_hold s ≡ true → radii_hold s ≡ true → InLimits s
judged_site s counts numbers radii = record { counts = counts_hold_lem s counts; numbers = numbers_hold_lem s numbers; rises = radii_hold_lem s numbers radii }

module _ (s : Site) (h : InLimits s) where
  radius_most : (j : ℕ) → j < s.columns → get_or (radii_of s) j 0 ≤ 2000000
  radius_most zero k = omega (arith, h.numbers.well.radius_most)
  radius_most (suc j) k = h.numbers.column j (omega arith)

  area_small : (j : ℕ) → j < s.columns → area_at s j ≤ 2 ^ 44
  unfolding area_at
  area_small j k = area_most _ _ (radius_most j k)

  area_at_lem : (j : ℕ) → j < s.columns → get_or (areas_of s) j 0 ≡ area_at s j
  unfolding areas_of
  area_at_lem j k = get_or-fill (area_at s) (replicate column_places 0) s.columns j 0 k (omega (arith, h.counts.columns_most, length-replicate {A = ℕ} column_places 0))

  pub areas_of_lem : Areas s (areas_of s)
  areas_of_lem = record { at = area_at_lem; most = λ j k. rw (area_at_lem j k) (area_small j k) }
