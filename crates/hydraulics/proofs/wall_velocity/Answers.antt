-- `hydraulics::wall_velocity` meets its contract: b × R_0 is at most 5×10^9.
use Rattle.hydraulics.specs.Hydraulics.{wall_velocity}
use Rattle.hydraulics.proofs.Laws.{thousand_is}
use Rattle.hydraulics.proofs.wall_velocity.Goals as goal

pub returns : goal.returns
unfolding wall_velocity
returns c = rw (thousand_is, c.whole.ensures.0)
