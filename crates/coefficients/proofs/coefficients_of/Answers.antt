-- `coefficients::coefficients_of` meets its contract: its slots, with capped numbers, pass the test where the scenario's coefficients do.
use Rattle.std.proofs.Common.{sym, ◌∙◌, arith}
use Rattle.site.specs.Laws.{counts_hold_lem, numbers_hold_lem}
use Rattle.coefficient_cells.specs.Laws.{judged_site, areas_of_lem}
use Rattle.coefficients.proofs.Held.{taken, refused}
use Rattle.coefficients.proofs.coefficients_of.Goals as goal

-- ---- Λ and areas are worked
pub logarithms_of-logarithms-requires : goal.logarithms_of-logarithms-requires
logarithms_of-logarithms-requires c = judged_site _ c.requires.0 c.requires.1 c.requires.2

pub areas_of-areas-requires : goal.areas_of-areas-requires
areas_of-areas-requires c = judged_site _ c.requires.0 c.requires.1 c.requires.2

pub screen_of-requires : goal.screen_of-requires
screen_of-requires c = (judged_site _ c.requires.0 c.requires.1 c.requires.2, c.logarithms_of-logarithms.ensures)

pub horizontal_of-requires : goal.horizontal_of-requires
horizontal_of-requires c = (judged_site _ c.requires.0 c.requires.1 c.requires.2, c.logarithms_of-logarithms.ensures)

pub vertical_of-requires : goal.vertical_of-requires
vertical_of-requires c =
    let within = judged_site _ c.requires.0 c.requires.1 c.requires.2 in
    (within, rw c.areas_of-areas.ensures (areas_of_lem _ within))

pub storages_of-requires : goal.storages_of-requires
storages_of-requires c =
    let within = judged_site _ c.requires.0 c.requires.1 c.requires.2 in
    (within, rw c.areas_of-areas.ensures (areas_of_lem _ within))

pub well_storage-requires : goal.well_storage-requires
well_storage-requires c = omega (arith, (numbers_hold_lem _ c.requires.1).well)

-- ---- so are C and S, each in its slot, and they are judged
pub coefficients_hold-requires : goal.coefficients_hold-requires
coefficients_hold-requires c = omega (arith, counts_hold_lem _ c.requires.0)

pub returns-then-coefficients_hold : goal.returns-then-coefficients_hold
returns-then-coefficients_hold c =
    taken _ c.requires.0 c.screen_of.ensures c.horizontal_of.ensures c.vertical_of.ensures c.storages_of.ensures
    c.well_storage.ensures (sym c.coefficients_hold.ensures ∙ c.if-coefficients_hold.true)

pub returns-else-coefficients_hold : goal.returns-else-coefficients_hold
returns-else-coefficients_hold c =
    refused _ c.requires.0 c.screen_of.ensures c.horizontal_of.ensures c.vertical_of.ensures c.storages_of.ensures
    c.well_storage.ensures (sym c.coefficients_hold.ensures ∙ c.if-coefficients_hold.false)
