-- `site::screen_holds` meets its contract: the chain of tests is the definition's.
use Rattle.std.proofs.Common.{arith}
use Rattle.std.proofs.lemmas.Bool.Decides.{nat_tests}
use Rattle.site.specs.Site.{is_screened, screen_holds}
use Rattle.site.proofs.Laws.{some_found, none_found}
use Rattle.site.proofs.screen_holds.Goals as goal

pub layer_top-requires : goal.layer_top-requires
layer_top-requires c =
    let found = some_found _ _ _ c.in-Some.ensures in
    (c.requires.0, c.requires.1, grind (arith, nat_tests))

pub returns-in-Some : goal.returns-in-Some
unfolding screen_holds is_screened
returns-in-Some c =
    let found = some_found _ _ _ c.in-Some.ensures in
    rw (found.0, found.1, c.layer_top.ensures.0)

pub returns-in-None : goal.returns-in-None
unfolding screen_holds
returns-in-None c = rw (none_found _ _ c.in-None.ensures)
