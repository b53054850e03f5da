-- `control_choice::choose`: the choice, and the record handed in.
use Rattle.std.proofs.Common.{ap}
use Rattle.control_choice.specs.Choice.{chosen_of}
use Rattle.control_choice.proofs.choose.Goals as goal

pub returns : goal.returns
unfolding chosen_of
returns c = ap (λ x. record { choice = x; «record» = c.args.«record» }) c.judged-choice.ensures
