-- `site::layer_holds` meets its contract: the chain of tests is the definition's.
use Rattle.std.proofs.Common.{refl}
use Rattle.site.specs.Site.{layer_holds}
use Rattle.site.proofs.layer_holds.Goals as goal

pub returns : goal.returns
unfolding layer_holds
returns c = rw (c.between.ensures, c.storage_holds.ensures) refl
