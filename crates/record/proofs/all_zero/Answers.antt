-- `record::all_zero` meets its contract: each array is a repeat of zeros.
use Rattle.std.proofs.Common.{refl}
use Rattle.record.specs.Record.{zero_site, zero_record}
use Rattle.record.proofs.all_zero.Goals as goal

pub returns : goal.returns
unfolding zero_record zero_site
returns c = refl
