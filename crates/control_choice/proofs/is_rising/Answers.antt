-- `control_choice::is_rising`: the test of each rate and the next.
use Rattle.std.proofs.Common.{ltb, rules, tests}
use Rattle.std.proofs.lemmas.Fn.{always_returns_same}
use Rattle.control_choice.proofs.Answers.{rising_is}
use Rattle.control_choice.proofs.is_rising.Goals as goal

pub returns : goal.returns
returns c = rising_is _ _ (c.is_sorted_by.ensures.cases ltb (always_returns_same _ _ _ (λ a r f' k. search (rules, tests))))
