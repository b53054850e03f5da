-- `control_choice::all_taken`: the outcome of the trial, as a test.
use Rattle.control_choice.proofs.Answers.{taken}
use Rattle.control_choice.proofs.all_taken.Goals as goal

pub returns : goal.returns
returns c = taken c.repeat.ensures c.is_ok.ensures.value
