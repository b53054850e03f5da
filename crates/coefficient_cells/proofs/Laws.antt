-- Laws that this crate's proofs share: what the code's numbers of a column are by the definitions.
use Rattle.std.proofs.Common.{◌≡◌, ℕ, ◌+◌, ◌-◌, ◌≤◌, ◌<◌, List, get_or, replicate, arith}
use Rattle.std.proofs.Math.ListN.{length-replicate}
use Rattle.laws.specs.Fill.{fill, get_or-fill}
use Rattle.geometry.specs.Geometry.{logarithm, area}
use Rattle.site.specs.declared.Site.{Site}
use Rattle.site.specs.Columns.{logarithm_at, area_at}
use Rattle.site.specs.Site.{radii_of, midsection}

-- ---- column j of the loop over columns, which has R_j and the radius before it
module _ (s : Site) (j previous radius : ℕ) (here : radius ≡ get_or (radii_of s) j 0) where
  pub logarithm_is : previous + radius ≡ midsection (radii_of s) j
      → logarithm (radius + get_or s.radii j 0) (previous + radius) ≡ logarithm_at s j
  unfolding logarithm_at midsection
  logarithm_is u = rw (u, here)

  pub area_is : previous ≡ get_or (radii_of s) (j - 1) 0 → area radius previous ≡ area_at s j
  unfolding area_at
  area_is p = rw (p, here)

-- ---- arrays
pub filled : (f : ℕ → ℕ) {m : ℕ} {l : List ℕ} → l ≡ fill m f (replicate 50 0) → m ≤ 50 → (j : ℕ) → j < m → get_or l j 0 ≡ f j
filled f {m} e most j h = rw e (get_or-fill f (replicate 50 0) m j 0 h (omega (arith, length-replicate {A = ℕ} 50 0)))
