-- A scenario's columns by the rules of geometry: the logarithm of each face between columns and the area of each column.
use Rattle.std.specs.Prelude.{ℕ, suc, ◌-◌, get_or}
use Rattle.geometry.specs.Geometry.{logarithm, area}
use Rattle.site.specs.declared.Site.{Site}
use Rattle.site.specs.Site.{radii_of, midsection}

-- Λ(u_(j+1), u_j)
unfoldable pub logarithm_at : Site → ℕ → ℕ
logarithm_at s j = logarithm (midsection (radii_of s) (suc j)) (midsection (radii_of s) j)

-- A_j of a column j from 1 on, mm²
unfoldable pub area_at : Site → ℕ → ℕ
area_at s j = area (get_or (radii_of s) j 0) (get_or (radii_of s) (j - 1) 0)
