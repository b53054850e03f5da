-- What a record gives a step to work on: inner definitions, for the contracts of a run's functions.
use Rattle.std.specs.Prelude.{ℕ, get_or}
use Rattle.record.specs.declared.Record.{Record}
use Rattle.coefficient_cells.specs.Worked.{areas_of}
use Rattle.step_sweep.specs.declared.Terms.{Terms}
use Rattle.step_sweep.specs.Worked.{Lent, lent}

-- the terms of a run of a record, with this multiplier for the well
abbrev pub terms_of : Record → ℕ → ℕ → ℕ → Terms
terms_of r multiplier rate dt = record {
  layers = r.site.layers;
  columns = r.site.columns;
  thickness = get_or r.site.thickness 0 0;
  kv1 = get_or r.site.kv 0 0;
  b2 = get_or r.site.thickness 1 0;
  kv2 = get_or r.site.kv 1 0;
  intake = r.site.intake;
  well_storage = r.well_storage;
  well_multiplier = multiplier;
  rate = rate;
  dt = dt;
}

-- what `work_step` is lent of a record
abbrev pub lent_of : Record → ℕ → ℕ → Lent
lent_of r rate dt = lent (terms_of r 0 rate dt) r.well_loss r.inflow (areas_of r.site) r.screen r.horizontal r.vertical r.storages r.losses
