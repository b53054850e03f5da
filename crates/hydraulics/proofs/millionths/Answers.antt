-- `hydraulics::millionths` meets its contract.
use Rattle.hydraulics.specs.Hydraulics.{millionths}
use Rattle.hydraulics.proofs.Laws.{million_is}
use Rattle.hydraulics.proofs.millionths.Goals as goal

pub returns : goal.returns
unfolding millionths
returns c = rw (million_is, c.whole.ensures.0)
