-- Which records 14 refuses (document 01, 'Who brings a refusal about'), clause by clause.
use Rattle.std.specs.Prelude.{Bool, false, not, ◌&&◌, ◌||◌, List, ◌*◌, ℤ, pos, negsuc, ◌+ℤ◌, leb, eqb, get_or}
use Rattle.std.specs.Int.Signed.{le_z, non_neg}
use Rattle.laws.specs.Lists.{all_below, every}
use Rattle.limits.specs.Limits.{cell_places, total_limit, drawdown_limit}
use Rattle.network.specs.Network.{Network, State, is_place, drawdown, loss_in, well_too_deep, table_too_deep}
use Rattle.network.specs.Grid.{stored_columns, network_of}
use Rattle.geometry.specs.Geometry.{well_storage}
use Rattle.record.specs.declared.Record.{Record}
use Rattle.record.specs.Record.{is_cell, grid_of, state_of}
use Rattle.coefficient_slots.specs.Slots.{coefficients_hold, coefficients_unused, used_slot}
use Rattle.coefficient_cells.specs.Cells.{down_of}
use Rattle.validity_numbers.specs.Numbers.{site_holds, site_unused}

-- ---- 0 in every slot of a loss that no cell uses
abbrev pub is_zero_ℤ : ℤ → Bool
is_zero_ℤ (pos n) = eqb n 0
is_zero_ℤ (negsuc n) = false

unfoldable pub losses_unused : Record → Bool
losses_unused r = all_below cell_places (λ k. used_slot (is_cell r.site) k || is_zero_ℤ (get_or r.losses k (pos 0)))

-- ---- the C kept between layers 1 and 2 is what the record's own radii, thickness and conductivities give: the value at s = 0 (N6)
unfoldable pub table_holds : Record → Bool
table_holds r = every (λ j. eqb ((grid_of r).down 0 j) (down_of r.site 0 j)) (stored_columns (grid_of r))

-- ---- losses and inflow are not negative and add up to the pumped total, and that is at most 4×10^18, as the time is
abbrev pub equalℤ : ℤ → ℤ → Bool
equalℤ a b = le_z a b && le_z b a

unfoldable pub totals_hold : Network → State → Bool
totals_hold N s =
    every non_neg s.losses && non_neg s.inflow
    && equalℤ (loss_in N (is_place N) s.losses +ℤ s.inflow) (pos s.pumped)
    && leb s.pumped total_limit && leb s.time total_limit

-- ---- no D is past the bounds of 10 and 11, or past 10^9 µm
unfoldable pub drawdowns_hold : Network → List ℤ → Bool
drawdowns_hold N vs =
    not (well_too_deep N vs) && not (table_too_deep N vs) && all_below N.places (λ p. le_z (drawdown N vs p) (pos drawdown_limit))

-- ---- no D of the well or of a cell is over the mark, µm, nor the mark over 1000×p (N1)
unfoldable pub mark_holds : Network → List ℤ → ℤ → Bool
mark_holds N vs mark = all_below N.places (λ p. le_z (drawdown N vs p) mark) && le_z mark (pos (1000 * N.intake))

-- ---- 14 refuses a record that breaks any of these
unfoldable pub valid : Record → Bool
valid r =
    site_holds r.site && site_unused r.site && coefficients_unused r && losses_unused r
    && coefficients_hold (grid_of r) && eqb r.well_storage (well_storage r.site.water_area) && table_holds r
    && totals_hold (network_of (grid_of r)) (state_of r) && drawdowns_hold (network_of (grid_of r)) (state_of r).losses
    && mark_holds (network_of (grid_of r)) (state_of r).losses r.mark
