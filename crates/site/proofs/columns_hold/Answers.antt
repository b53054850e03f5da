-- `site::columns_hold` meets its contract: there are as many slots as a site may have columns.
use Rattle.std.proofs.Common.{◌∙◌, refl}
use Rattle.limits.specs.Limits.{radius_limits}
use Rattle.site.specs.Laws.{counts_hold_lem}
use Rattle.site.proofs.Laws.{all_in}
use Rattle.site.proofs.columns_hold.Goals as goal

pub shared_ref_as_front-at_most : goal.shared_ref_as_front-at_most
shared_ref_as_front-at_most c = (counts_hold_lem _ c.requires).columns_most

pub returns : goal.returns
returns c = c.at_most.ensures ∙ all_in radius_limits _ c.args.site.columns refl
