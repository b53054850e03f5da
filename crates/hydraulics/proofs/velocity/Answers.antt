-- `hydraulics::velocity` meets its contract.
use Rattle.hydraulics.specs.Hydraulics.{velocity}
use Rattle.hydraulics.proofs.Laws.{thousand_is}
use Rattle.hydraulics.proofs.velocity.Goals as goal

pub returns : goal.returns
unfolding velocity
returns c = rw (thousand_is, c.whole.ensures.0, c.area.ensures.0)
