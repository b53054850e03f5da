-- The figures of a line within their limits: an inner definition, for the contracts of the functions that print them.
use Rattle.std.specs.Prelude.{◌≤◌, ℤ}
use Rattle.laws.specs.Integer.{UpTo}
use Rattle.limits.specs.Limits.{total_limit, drawdown_limit}
use Rattle.readings.specs.declared.Totals.{Totals}

-- the well's drawdown D and the totals t: none is negative, and none passes its limit
pub record Figures (D : ℤ) (t : Totals) : Type 0 where
  pub well : UpTo drawdown_limit D
  pub pumped : t.pumped ≤ total_limit
  pub well_loss : UpTo total_limit t.well_loss
  pub cell_loss : UpTo total_limit t.cell_loss
  pub inflow : UpTo total_limit t.inflow
