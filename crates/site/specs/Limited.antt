-- What the tests of a scenario's numbers say where they hold, as inequalities: inner definitions, for contracts that ask for it and for laws.
use Rattle.std.specs.Prelude.{List, ℕ, suc, ◌*◌, ◌≤◌, ◌<◌, get_or}
use Rattle.limits.specs.Limits.{layer_places, column_places, coefficient_places, midsection_factor}
use Rattle.site.specs.declared.Site.{Site}
use Rattle.site.specs.Site.{midsection}

-- ---- counts
pub record Counts (s : Site) : Type 0 where
  pub layers_least : 2 ≤ s.layers
  pub layers_most : s.layers ≤ layer_places
  pub columns_least : 2 ≤ s.columns
  pub columns_most : s.columns ≤ column_places
  pub coefficients_most : s.loss_count ≤ coefficient_places

-- ---- limits
-- layer i: b, screen, Kh, Kv, storage
pub record LayerNumbers (s : Site) (i : ℕ) : Type 0 where
  pub thickness_least : 1 ≤ get_or s.thickness i 0
  pub thickness_most : get_or s.thickness i 0 ≤ 1000000
  pub screened_most : get_or s.screened i 0 ≤ 1
  pub kh_most : get_or s.kh i 0 ≤ 100000000
  pub kv_most : get_or s.kv i 0 ≤ 100000000
  pub storage_least : 1 ≤ get_or s.storage i 0
  pub storage_most : get_or s.storage i 0 ≤ 100000000
  pub storage_below_most : 1 ≤ i → get_or s.storage i 0 ≤ 1000000

pub record WellNumbers (s : Site) : Type 0 where
  pub radius_least : 10 ≤ s.well_radius
  pub radius_most : s.well_radius ≤ 5000
  pub area_least : 1 ≤ s.water_area
  pub area_most : s.water_area ≤ 1000000000
  pub intake_least : 1 ≤ s.intake
  pub intake_most : s.intake ≤ 1000000
  pub friction_most : s.friction ≤ 1000000

pub record Numbers (s : Site) : Type 0 where
  pub layer : (i : ℕ) → i < s.layers → LayerNumbers s i
  pub column : (j : ℕ) → j < s.columns → get_or s.radii j 0 ≤ 2000000
  pub well : WellNumbers s
  pub coefficient : (k : ℕ) → k < s.loss_count → get_or s.loss_coefficients k 0 ≤ 1000000000000

-- ---- rule 4, at columns j and j + 1 (column 0 is the well): radii R_j and R_(j+1), twice the midsection radii u_j and u_(j+1)
pub record Rises (rs : List ℕ) (j : ℕ) : Type 0 where
  pub radius_least : 10 ≤ get_or rs j 0
  pub radius_rises : get_or rs j 0 < get_or rs (suc j) 0
  pub radius_most : get_or rs (suc j) 0 ≤ 2000000
  pub midsection_least : 20 ≤ midsection rs j
  pub midsection_rises : midsection rs j < midsection rs (suc j)
  pub midsection_near : midsection rs (suc j) ≤ midsection_factor * midsection rs j
  pub midsection_most : midsection rs (suc j) ≤ 4000000
