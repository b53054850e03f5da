-- `read_limiting::losses_after`: nothing that `work_step` asks is wanting, and it gives the losses after the step.
use Rattle.validity.specs.Laws.{valid_record, valid_limits}
use Rattle.slot_places.specs.Drawdowns.{well_ask}
use Rattle.step_rules.proofs.Laws.{well_back, inflow_back, scratch_zeros}
use Rattle.read_limiting.proofs.DeepestCell.{work_asked, depth_asked, work_given}
use Rattle.read_limiting.proofs.losses_after.Goals as goal

pub areas_of-areas-requires : goal.areas_of-areas-requires
areas_of-areas-requires c = valid_limits _ (valid_record _ c.requires.passed)

pub drawdown-well-requires : goal.drawdown-well-requires
drawdown-well-requires c = rw (well_back _ _ _ c.requires) (well_ask _ (valid_record _ c.requires.passed))

pub work_step-requires-clause-workable : goal.work_step-requires-clause-workable
work_step-requires-clause-workable c =
    work_asked _ _ _ c.requires c.terms_of-terms.ensures.value c.areas_of-areas.ensures (well_back _ _ _ c.requires) (inflow_back _ _ _ c.requires)

pub work_step-requires-clause-well_value : goal.work_step-requires-clause-well_value
work_step-requires-clause-well_value c =
    (depth_asked _ _ _ c.requires c.terms_of-terms.ensures.value c.areas_of-areas.ensures (well_back _ _ _ c.requires) (inflow_back _ _ _ c.requires) c.drawdown-well.ensures, c.multipliers-multipliers.ensures)

pub work_step-requires-clause-scratch : goal.work_step-requires-clause-scratch
work_step-requires-clause-scratch c = scratch_zeros c.terms_of-terms.result.layers c.terms_of-terms.result.columns c.args.«record».horizontal

pub returns : goal.returns
returns c =
    work_given _ _ _ c.requires c.terms_of-terms.ensures.value c.areas_of-areas.ensures (well_back _ _ _ c.requires) (inflow_back _ _ _ c.requires) c.work_step.ensures
