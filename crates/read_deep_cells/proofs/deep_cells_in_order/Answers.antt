-- The list of deep cells is in order, and no other list is.
use Rattle.read_deep_cells.proofs.Answer.{whole}
use Rattle.read_deep_cells.proofs.deep_cells_in_order.Goals as goal

pub returns : goal.returns
returns c r D old e = whole r D old e
