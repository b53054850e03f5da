-- The choice is the highest rate at which all steps are accepted, whatever is handed in.
use Rattle.control_choice.proofs.laws.Theorem.{chooses}
use Rattle.control_choice.proofs.highest_accepted.Goals as goal

pub returns : goal.returns
returns c = chooses
