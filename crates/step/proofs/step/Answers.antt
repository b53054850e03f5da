-- It is the answer of one of many equal steps.
use Rattle.std.proofs.Common.{ap, ◌∙◌}
use Rattle.step.specs.Repeat.{answered}
use Rattle.step.proofs.Laws.{one_step}
use Rattle.step.proofs.step.Goals as goal

pub returns : goal.returns
returns c = ap answered c.repeat-repeated.ensures ∙ one_step _ _ _
