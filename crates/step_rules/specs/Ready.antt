-- What is asked of the first of many equal steps, and a record from where its run has come to: inner definitions, for the contracts of the
-- functions that take steps.
use Rattle.std.specs.Prelude.{◌≡◌, true, false, List, ℕ, ℤ, nat_abs}
use Rattle.network.specs.Network.{rate_or_length_out, stable}
use Rattle.network.specs.Grid.{network_of}
use Rattle.record.specs.declared.Record.{Record}
use Rattle.record.specs.Record.{grid_of}
use Rattle.validity.specs.Validity.{valid}
use Rattle.step_drawdowns.specs.Drawdowns.{depth_of}
use Rattle.step_judged.specs.declared.Course.{Course}

-- 14, 7 and 8 let a step pass
pub record Ready (r : Record) (rate dt : ℕ) : Type 0 where
  pub passed : valid r ≡ true
  pub sized : rate_or_length_out rate dt ≡ false
  pub steady : stable (network_of (grid_of r)) dt ≡ true

-- where a record's run has come to, beside the losses of its cells
abbrev pub course_of : Record → Course
course_of r = record {
  well_loss = r.well_loss;
  well_depth = nat_abs (depth_of r.well_loss r.well_storage);
  pumped = r.pumped;
  inflow = r.inflow;
  time = r.time;
  mark = r.mark;
}

-- a record with another course and other losses
abbrev pub with_course : Record → Course → List ℤ → Record
with_course r c losses = record {
  site = r.site;
  screen = r.screen;
  horizontal = r.horizontal;
  vertical = r.vertical;
  storages = r.storages;
  losses = losses;
  well_storage = r.well_storage;
  well_loss = c.well_loss;
  pumped = c.pumped;
  inflow = c.inflow;
  time = c.time;
  mark = c.mark;
}
