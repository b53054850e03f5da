-- The numbers of a scenario's first four sections, and what document 01 asks of them ('Who brings a refusal about', 3 to 5).
use Rattle.std.specs.Prelude.{Bool, cond, ◌&&◌, not, List, ◌∷◌, ℕ, zero, suc, ◌+◌, ◌*◌, leb, ltb, eqb, get_or}
use Rattle.laws.specs.Lists.{all_below}
use Rattle.site.specs.declared.Site.{Site}
use Rattle.limits.specs.Limits.{layer_count, column_count, coefficient_count, thickness_limits, screened_limits, conductivity_limits, yield_limits, specific_storage_limits, radius_limits, well_radius_limits, water_area_limits, intake_limits, friction_limits, coefficient_limits, midsection_factor}

-- whether layer i is screened, by the layers' numbers 0 and 1
unfoldable pub is_screened : List ℕ → ℕ → Bool
is_screened screened i = eqb (get_or screened i 0) 1

-- R_0, R_1, .. : the well's radius, then the outer radius of each column, mm
abbrev pub radii_of : Site → List ℕ
radii_of s = s.well_radius ∷ s.radii

-- u_j, mm, by those radii: twice the midsection radius of column j, and u_0 = 2R_0
unfoldable pub midsection : List ℕ → ℕ → ℕ
midsection rs zero = 2 * get_or rs 0 0
midsection rs (suc j) = get_or rs j 0 + get_or rs (suc j) 0

-- depth of the top of layer i, mm: the layers above it, one on another
unfoldable pub layer_top : List ℕ → ℕ → ℕ
layer_top thickness zero = 0
layer_top thickness (suc i) = layer_top thickness i + get_or thickness i 0

-- the topmost screened layer among the n layers from layer i on; i + n, which is none of them, where none is screened
unfoldable pub topmost_screened : List ℕ → ℕ → ℕ → ℕ
topmost_screened screened zero i = i
topmost_screened screened (suc n) i = cond (is_screened screened i) i (topmost_screened screened n (suc i))

-- ---- counts (2)
unfoldable pub counts_hold : Site → Bool
counts_hold s = layer_count s.layers && column_count s.columns && coefficient_count s.loss_count

-- ---- limits (3)
-- storage is specific yield in layer 1, specific storage below it
unfoldable pub storage_holds : ℕ → ℕ → Bool
storage_holds zero x = yield_limits x
storage_holds (suc i) x = specific_storage_limits x

-- layer i with its thickness, screen, Kh, Kv and storage
unfoldable pub layer_holds : ℕ → ℕ → ℕ → ℕ → ℕ → ℕ → Bool
layer_holds i b screened kh kv storage =
    thickness_limits b && screened_limits screened && conductivity_limits kh && conductivity_limits kv && storage_holds i storage

unfoldable pub layer_at : Site → ℕ → Bool
layer_at s i = layer_holds i (get_or s.thickness i 0) (get_or s.screened i 0) (get_or s.kh i 0) (get_or s.kv i 0) (get_or s.storage i 0)

abbrev pub layers_hold : Site → Bool
layers_hold s = all_below s.layers (layer_at s)

abbrev pub columns_hold : Site → Bool
columns_hold s = all_below s.columns (λ j. radius_limits (get_or s.radii j 0))

unfoldable pub well_holds : Site → Bool
well_holds s = well_radius_limits s.well_radius && water_area_limits s.water_area && intake_limits s.intake && friction_limits s.friction

abbrev pub screen_loss_holds : Site → Bool
screen_loss_holds s = all_below s.loss_count (λ k. coefficient_limits (get_or s.loss_coefficients k 0))

unfoldable pub numbers_hold : Site → Bool
numbers_hold s = layers_hold s && columns_hold s && well_holds s && screen_loss_holds s

-- ---- rule 4: the radii rise, and u_(j+1) is at most so many times u_j, from the well to the last column
unfoldable pub column_rises : List ℕ → ℕ → Bool
column_rises rs j = ltb (get_or rs j 0) (get_or rs (suc j) 0) && leb (midsection rs (suc j)) (midsection_factor * midsection rs j)

unfoldable pub radii_hold : Site → Bool
radii_hold s = all_below s.columns (column_rises (radii_of s))

-- ---- rule 5: some layer is screened, layer 1 is not, and the intake p is above the screen's top
-- the topmost screened layer; it is one of the layers where some layer is screened
abbrev pub screen_layer : Site → ℕ
screen_layer s = topmost_screened s.screened s.layers 0

-- depth of the screen's top, mm
abbrev pub screen_top : Site → ℕ
screen_top s = layer_top s.thickness (screen_layer s)

unfoldable pub screen_holds : Site → Bool
screen_holds s = ltb (screen_layer s) s.layers && not (is_screened s.screened 0) && ltb s.intake (screen_top s)
