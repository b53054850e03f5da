-- `control_choice::highest`: in a list that rises it is the first from the end at which all steps are taken.
use Rattle.std.proofs.Common.{◌∙◌}
use Rattle.control_choice.proofs.laws.Row.{repeat_accepted}
use Rattle.control_choice.proofs.laws.Highest.{last_passing}
use Rattle.control_choice.proofs.highest.Goals as goal

pub returns : goal.returns
returns c =
    let a = c.args in
    c.last_taken.ensures ∙ last_passing (λ rate. repeat_accepted rate a.dt a.steps a.«record» c.requires.0) a.rates.now c.requires.1
