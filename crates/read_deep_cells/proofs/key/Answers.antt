-- `read_deep_cells::key` meets its contract.
use Rattle.std.proofs.Common.{refl}
use Rattle.read_deep_cells.specs.Codes.{key_by}
use Rattle.read_deep_cells.proofs.key.Goals as goal

pub returns : goal.returns
unfolding key_by
returns c = refl
