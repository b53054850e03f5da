-- The coefficients of a scenario: its grid, with C of every face and S of every place, and the record at the start.
use Rattle.std.specs.Prelude.{cond, pos, get_or, replicate, Option, Some, None}
use Rattle.limits.specs.Limits.{cell_places}
use Rattle.network.specs.Grid.{Grid}
use Rattle.geometry.specs.Geometry.{well_storage}
use Rattle.site.specs.declared.Site.{Site}
use Rattle.site.specs.Columns.{area_at}
use Rattle.site.specs.Site.{is_screened}
use Rattle.coefficient_cells.specs.Cells.{across_of, down_of, storage_of}
use Rattle.record.specs.declared.Record.{Record}
use Rattle.record.specs.Record.{is_cell, has_below, has_screen, slots, layer_slots}
use Rattle.coefficient_slots.specs.Slots.{coefficients_hold}

-- the grid of a scenario
unfoldable pub scenario_grid : Site → Grid
scenario_grid s = record {
  layers = s.layers;
  columns = s.columns;
  screened = is_screened s.screened;
  across = across_of s;
  down = down_of s;
  storage = storage_of s;
  well_storage = well_storage s.water_area;
  thickness = get_or s.thickness 0 0;
  area = area_at s;
  kv₁ = get_or s.kv 0 0;
  b₂ = get_or s.thickness 1 0;
  kv₂ = get_or s.kv 1 0;
  intake = s.intake;
}

-- the record at the start: the scenario's numbers, each C and S in its slot; losses, totals, time and mark are 0
unfoldable pub start_record : Site → Record
start_record s = record {
  site = s;
  screen = layer_slots (λ i. cond (has_screen s i) (across_of s i 0) 0);
  horizontal = slots (λ i j. cond (is_cell s i j) (across_of s i j) 0);
  vertical = slots (λ i j. cond (has_below s i j) (down_of s i j) 0);
  storages = slots (λ i j. cond (is_cell s i j) (storage_of s i j) 0);
  losses = replicate cell_places (pos 0);
  well_storage = well_storage s.water_area;
  well_loss = pos 0;
  pumped = 0;
  inflow = pos 0;
  time = 0;
  mark = pos 0;
}

-- the answer of 6: the record at the start, if every C and S is within its limits
unfoldable pub coefficients_of : Site → Option Record
coefficients_of s = cond (coefficients_hold (scenario_grid s)) (Some (start_record s)) None
