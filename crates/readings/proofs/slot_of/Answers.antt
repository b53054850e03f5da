-- `readings::slot_of` meets its contract.
use Rattle.std.proofs.Common.{refl, arith}
use Rattle.record.specs.Record.{slot}
use Rattle.readings.proofs.slot_of.Goals as goal

pub returns : goal.returns
unfolding slot
returns c = (refl, omega arith)
