-- `listing_runs::run_entry` meets its contract: it is the answer of the steps, without their number.
use Rattle.std.proofs.Common.{ap}
use Rattle.step.specs.Repeat.{answered}
use Rattle.listing_runs.specs.Runs.{run_of}
use Rattle.listing_runs.proofs.run_entry.Goals as goal

pub returns : goal.returns
unfolding run_of
returns c = ap answered c.repeat-repeated.ensures
