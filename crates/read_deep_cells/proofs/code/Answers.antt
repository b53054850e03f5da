-- `read_deep_cells::code` meets its contract.
use Rattle.std.proofs.Common.{refl}
use Rattle.read_deep_cells.specs.Codes.{code_of}
use Rattle.read_deep_cells.proofs.code.Goals as goal

pub returns : goal.returns
unfolding code_of
returns c = refl
