-- `read_budget::every_cell`: ones, with a zero at the well.
use Rattle.std.proofs.Common.{refl}
use Rattle.read_budget.specs.Counted.{every_cell}
use Rattle.read_budget.proofs.every_cell.Goals as goal

pub returns : goal.returns
unfolding every_cell
returns c = refl
