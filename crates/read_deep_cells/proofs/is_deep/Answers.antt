-- `read_deep_cells::is_deep` meets its contract.
use Rattle.std.proofs.Common.{refl}
use Rattle.read_deep_cells.specs.Codes.{deep_at}
use Rattle.read_deep_cells.proofs.is_deep.Goals as goal

pub returns : goal.returns
unfolding deep_at
returns c = refl
