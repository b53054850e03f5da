-- Two records of which `same` says yes are equal, and so is what `repeat` makes of them.
use Rattle.std.proofs.Common.{ap}
use Rattle.refusals.specs.Refusals.{given}
use Rattle.step.specs.Repeat.{repeat_of}
use Rattle.readings.proofs.SameLaws.{same_answer}
use Rattle.ledger_same.proofs.same_repeats.Goals as goal

pub returns : goal.returns
unfolding given
returns c one other same rate dt steps = ap (λ r. repeat_of r rate dt steps) (same_answer one other same).2
