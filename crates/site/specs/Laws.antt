-- What the tests of a scenario's numbers say where they hold, for the proofs of this and other crates: laws only, nothing to believe.
--     within             Within: a number between two limits
--     counts_hold_lem        how many layers, columns and coefficients there are
--     numbers_hold_lem       the limits of each layer, radius, coefficient and of the well
--     radii_hold_lem         what rules 3 and 4 say of the radii on both sides of each face between columns
use Rattle.std.specs.Prelude.{◌≡◌, true, ◌&&◌, ℕ, zero, suc, ◌*◌, ◌≤◌, ◌<◌, leb, ltb, get_or}
use Rattle.std.proofs.Common.{arith, leb-true, ltb-true}
use Rattle.laws.specs.All.{all_at, and_left, and_right}
use Rattle.laws.specs.Rows.{three_hold, four_hold}
use Rattle.site.specs.declared.Site.{Site}
use Rattle.limits.specs.Limits.{between, layer_places, column_places, midsection_factor, layer_count, column_count, coefficient_count, thickness_limits, screened_limits, conductivity_limits, well_radius_limits, water_area_limits, intake_limits, friction_limits}
use Rattle.site.specs.Site.{radii_of, midsection, counts_hold, storage_holds, layer_holds, layer_at, layers_hold, columns_hold, well_holds, screen_loss_holds, numbers_hold, column_rises, radii_hold}
use Rattle.site.specs.Limited.{Counts, LayerNumbers, WellNumbers, Numbers, Rises}

-- ---- a number within its limits
pub record Within (lo hi n : ℕ) : Type 0 where
  pub least : lo ≤ n
  pub most : n ≤ hi

pub within : (lo hi n : ℕ) → between lo hi n ≡ true → Within lo hi n
within lo hi n e = record {
  least = leb-true lo n (and_left (leb lo n) (leb n hi) e);
  most = leb-true n hi (and_right (leb lo n) (leb n hi) e);
}

-- ---- counts
pub counts_hold_lem : (s : Site) → counts_hold s ≡ true → Counts s
unfolding counts_hold
counts_hold_lem s e =
    let tests = three_hold (layer_count s.layers) (column_count s.columns) (coefficient_count s.loss_count) e in
    let layers = within 2 layer_places s.layers tests.0 in
    let columns = within 2 column_places s.columns tests.1 in
    record {
      layers_least = layers.least;
      layers_most = layers.most;
      columns_least = columns.least;
      columns_most = columns.most;
      coefficients_most = leb-true _ _ tests.2;
    }

-- ---- limits
record Storage (i x : ℕ) : Type 0 where
  least : 1 ≤ x
  most : x ≤ 100000000
  below_most : 1 ≤ i → x ≤ 1000000

storage : (i x : ℕ) → storage_holds i x ≡ true → Storage i x
unfolding storage_holds
storage zero x e = let w = within 1 100000000 x e in record { least = w.least; most = w.most; below_most = λ h. absurd (omega arith) }
storage (suc i) x e = let w = within 1 1000000 x e in record { least = w.least; most = omega arith; below_most = λ h. w.most }

module _ (s : Site) where
  layer_numbers : (i : ℕ) → layer_at s i ≡ true → LayerNumbers s i
  unfolding layer_at layer_holds
  layer_numbers i e =
      let b = get_or s.thickness i 0 in
      let x = get_or s.screened i 0 in
      let kh = get_or s.kh i 0 in
      let kv = get_or s.kv i 0 in
      let rest = thickness_limits b && screened_limits x && conductivity_limits kh && conductivity_limits kv in
      let tests = four_hold (thickness_limits b) (screened_limits x) (conductivity_limits kh) (conductivity_limits kv) (and_left rest (storage_holds i (get_or s.storage i 0)) e) in
      let thickness = within 1 1000000 b tests.0 in
      let stored = storage i (get_or s.storage i 0) (and_right rest (storage_holds i (get_or s.storage i 0)) e) in
      record {
        thickness_least = thickness.least;
        thickness_most = thickness.most;
        screened_most = leb-true _ _ tests.1;
        kh_most = leb-true _ _ tests.2;
        kv_most = leb-true _ _ tests.3;
        storage_least = stored.least;
        storage_most = stored.most;
        storage_below_most = stored.below_most;
      }

  well_numbers : well_holds s ≡ true → WellNumbers s
  unfolding well_holds
  well_numbers e =
      let tests = four_hold (well_radius_limits s.well_radius) (water_area_limits s.water_area) (intake_limits s.intake) (friction_limits s.friction) e in
      let radius = within 10 5000 s.well_radius tests.0 in
      let area = within 1 1000000000 s.water_area tests.1 in
      let intake = within 1 1000000 s.intake tests.2 in
      record {
        radius_least = radius.least;
        radius_most = radius.most;
        area_least = area.least;
        area_most = area.most;
        intake_least = intake.least;
        intake_most = intake.most;
        friction_most = leb-true _ _ tests.3;
      }

  pub numbers_hold_lem : numbers_hold s ≡ true → Numbers s
  unfolding numbers_hold
  numbers_hold_lem e =
      let tests = four_hold (layers_hold s) (columns_hold s) (well_holds s) (screen_loss_holds s) e in
      record {
        layer = λ i h. layer_numbers i (all_at _ s.layers i tests.0 h);
        column = λ j h. leb-true _ _ (all_at _ s.columns j tests.1 h);
        well = well_numbers tests.2;
        coefficient = λ k h. leb-true _ _ (all_at _ s.loss_count k tests.3 h);
      }

module _ (s : Site) (numbers : numbers_hold s ≡ true) (radii : radii_hold s ≡ true) where
  rises : (j : ℕ) → j < s.columns → column_rises (radii_of s) j ≡ true
  unfolding radii_hold
  rises j h = all_at (column_rises (radii_of s)) s.columns j radii h

  radius_up : (j : ℕ) → j < s.columns → get_or (radii_of s) j 0 < get_or (radii_of s) (suc j) 0
  unfolding column_rises
  radius_up j h = ltb-true _ _ (and_left (ltb (get_or (radii_of s) j 0) (get_or (radii_of s) (suc j) 0)) _ (rises j h))

  near : (j : ℕ) → j < s.columns → midsection (radii_of s) (suc j) ≤ midsection_factor * midsection (radii_of s) j
  unfolding column_rises
  near j h = leb-true _ _ (and_right (ltb (get_or (radii_of s) j 0) (get_or (radii_of s) (suc j) 0)) _ (rises j h))

  -- the well's radius is the smallest
  wide : (j : ℕ) → j < s.columns → 10 ≤ get_or (radii_of s) j 0
  wide zero h = (numbers_hold_lem s numbers).well.radius_least
  wide (suc j) h = omega (arith, wide j (omega arith), radius_up j (omega arith))

  midsection_up : (j : ℕ) → j < s.columns → midsection (radii_of s) j < midsection (radii_of s) (suc j)
  unfolding midsection
  midsection_up zero h = omega (arith, radius_up 0 h)
  midsection_up (suc j) h = omega (arith, radius_up j (omega arith), radius_up (suc j) h)

  midsection_wide : (j : ℕ) → j < s.columns → 20 ≤ midsection (radii_of s) j
  unfolding midsection
  midsection_wide zero h = omega (arith, wide 0 h)
  midsection_wide (suc j) h = omega (arith, wide j (omega arith), wide (suc j) h)

  pub radii_hold_lem : (j : ℕ) → j < s.columns → Rises (radii_of s) j
  unfolding midsection
  radii_hold_lem j h =
      let radius_most : get_or (radii_of s) (suc j) 0 ≤ 2000000 = (numbers_hold_lem s numbers).column j h in
      let up = radius_up j h in
      record {
        radius_least = wide j h;
        radius_rises = up;
        radius_most = radius_most;
        midsection_least = midsection_wide j h;
        midsection_rises = midsection_up j h;
        midsection_near = near j h;
        midsection_most = omega arith;
      }
