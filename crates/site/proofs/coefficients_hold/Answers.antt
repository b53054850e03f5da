-- `site::coefficients_hold` meets its contract: there are as many slots as a site may have coefficients.
use Rattle.std.proofs.Common.{◌∙◌, refl}
use Rattle.limits.specs.Limits.{coefficient_limits}
use Rattle.site.specs.Laws.{counts_hold_lem}
use Rattle.site.proofs.Laws.{all_in}
use Rattle.site.proofs.coefficients_hold.Goals as goal

pub shared_ref_as_front-at_most : goal.shared_ref_as_front-at_most
shared_ref_as_front-at_most c = (counts_hold_lem _ c.requires).coefficients_most

pub returns : goal.returns
returns c = c.at_most.ensures ∙ all_in coefficient_limits _ c.args.site.loss_count refl
