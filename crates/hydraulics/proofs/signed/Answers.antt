-- `hydraulics::signed` meets its contract: the number that the machine reads back from its bits is itself, and it is a float.
use Rattle.std.proofs.Common.{refl, to_z-of_z}
use Rattle.hydraulics.specs.Hydraulics.{float}
use Rattle.hydraulics.proofs.Laws.{exactly}
use Rattle.hydraulics.proofs.signed.Goals as goal

pub returns : goal.returns
unfolding float
returns c = rw (to_z-of_z c.ranges.n) (refl, exactly c.args.n c.requires)
