-- What a record holds: its slots, the all-zero record, its grid and its state, and the answers that start, step and repeat give.
use Rattle.std.specs.Prelude.{Bool, ◌&&◌, List, map, ℕ, zero, suc, ◌+◌, ◌*◌, ◌-◌, ◌/◌, ◌%◌, pos, ltb, get_or, replicate}
use Rattle.laws.specs.Lists.{range}
use Rattle.limits.specs.Limits.{layer_places, column_places, coefficient_places, cell_places}
use Rattle.refusals.specs.Refusals.{outcome_of}
use Rattle.network.specs.Network.{State}
use Rattle.network.specs.Grid.{Grid, one_per_place}
use Rattle.site.specs.declared.Site.{Site}
use Rattle.site.specs.Columns.{area_at}
use Rattle.site.specs.Site.{is_screened}
use Rattle.record.specs.declared.Record.{Record}
use Rattle.record.specs.declared.Answer.{Answer}
use Rattle.record.specs.declared.Repeated.{Repeated}

-- ---- slots
-- the slot of the cell of layer i and column j in an array by cell
unfoldable pub slot : ℕ → ℕ → ℕ
slot i j = column_places * i + (j - 1)

-- an array by cell: f of each layer and column, in the order of the slots
unfoldable pub slots : {A : Type 0} → (ℕ → ℕ → A) → List A
slots f = map (λ k. f (k / column_places) (k % column_places + 1)) (range 0 cell_places)

-- an array by layer
unfoldable pub layer_slots : {A : Type 0} → (ℕ → A) → List A
layer_slots f = map f (range 0 layer_places)

-- layer i and column j have a stored cell, and with it a face toward the next column
unfoldable pub is_cell : Site → ℕ → ℕ → Bool
is_cell s i j = ltb i s.layers && ltb j s.columns

-- that cell has a face toward the layer below
unfoldable pub has_below : Site → ℕ → ℕ → Bool
has_below s i j = ltb (suc i) s.layers && ltb j s.columns

-- layer i has a face with the well
unfoldable pub has_screen : Site → ℕ → Bool
has_screen s i = ltb i s.layers && is_screened s.screened i

-- ---- the all-zero record
unfoldable pub zero_site : Site
zero_site = record {
  layers = 0;
  thickness = replicate layer_places 0;
  screened = replicate layer_places 0;
  kh = replicate layer_places 0;
  kv = replicate layer_places 0;
  storage = replicate layer_places 0;
  columns = 0;
  radii = replicate column_places 0;
  well_radius = 0;
  water_area = 0;
  intake = 0;
  friction = 0;
  loss_count = 0;
  loss_coefficients = replicate coefficient_places 0;
}

unfoldable pub zero_record : Record
zero_record = record {
  site = zero_site;
  screen = replicate layer_places 0;
  horizontal = replicate cell_places 0;
  vertical = replicate cell_places 0;
  storages = replicate cell_places 0;
  losses = replicate cell_places (pos 0);
  well_storage = 0;
  well_loss = pos 0;
  pumped = 0;
  inflow = pos 0;
  time = 0;
  mark = pos 0;
}

-- ---- the grid and the state that a record holds
-- C of layer i between columns j and j+1
unfoldable pub across_in : List ℕ → List ℕ → ℕ → ℕ → ℕ
across_in screen horizontal i zero = get_or screen i 0
across_in screen horizontal i (suc j) = get_or horizontal (slot i (suc j)) 0

unfoldable pub grid_of : Record → Grid
grid_of r = record {
  layers = r.site.layers;
  columns = r.site.columns;
  screened = is_screened r.site.screened;
  across = across_in r.screen r.horizontal;
  down = λ i j. get_or r.vertical (slot i j) 0;
  storage = λ i j. get_or r.storages (slot i j) 0;
  well_storage = r.well_storage;
  thickness = get_or r.site.thickness 0 0;
  area = area_at r.site;
  kv₁ = get_or r.site.kv 0 0;
  b₂ = get_or r.site.thickness 1 0;
  kv₂ = get_or r.site.kv 1 0;
  intake = r.site.intake;
}

unfoldable pub state_of : Record → State
state_of r = record {
  losses = one_per_place (grid_of r) r.well_loss (λ i j. get_or r.losses (slot i j) (pos 0));
  pumped = r.pumped;
  inflow = r.inflow;
  time = r.time;
}

-- ---- the answer, by the number of the first refusal, 0 for none
-- refused: that refusal and the record `old`; taken: the record `new`
unfoldable pub answer_of : ℕ → Record → Record → Answer
answer_of zero old new = record { outcome = outcome_of zero; «record» = new }
answer_of (suc n) old new = record { outcome = outcome_of (suc n); «record» = old }

-- many steps: the number of the refusal that ended them, the record after those that were taken, and how many these were
unfoldable pub repeated_of : ℕ → Record → ℕ → Repeated
repeated_of n r taken = record { outcome = outcome_of n; «record» = r; taken = taken }
