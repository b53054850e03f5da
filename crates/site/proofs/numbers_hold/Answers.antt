-- `site::numbers_hold` meets its contract: the chain of tests is the definition's.
use Rattle.site.specs.Site.{well_holds, numbers_hold}
use Rattle.site.proofs.numbers_hold.Goals as goal

pub returns : goal.returns
unfolding well_holds numbers_hold
returns c = cc
