-- `hydraulics::whole` meets its contract: a number up to 2^53 is a float exactly.
use Rattle.std.proofs.Common.{refl, pos}
use Rattle.hydraulics.specs.Hydraulics.{float}
use Rattle.hydraulics.proofs.Laws.{exactly}
use Rattle.hydraulics.proofs.whole.Goals as goal

pub returns : goal.returns
unfolding float
returns c = (refl, exactly (pos c.args.n) c.requires)
