-- `hydraulics::screen_loss` meets its contract: each arm is the definition at its law.
use Rattle.std.proofs.Common.{ap, ◌∙◌}
use Rattle.hydraulics.specs.Hydraulics.{◌⊕◌, ◌⊗◌, screen_loss}
use Rattle.hydraulics.proofs.Laws.{zero_is}
use Rattle.hydraulics.proofs.screen_loss.Goals as goal

pub returns-in-None : goal.returns-in-None
unfolding screen_loss
returns-in-None c = zero_is ∙ rw c.in-None.is

pub returns-in-Linear : goal.returns-in-Linear
unfolding screen_loss
returns-in-Linear c = rw c.in-Linear.is

pub returns-in-Square : goal.returns-in-Square
unfolding screen_loss
returns-in-Square c =
    let y = c.args.y in
    rw c.in-Square.is (ap (λ size. c.in-Square.c1 ⊗ y ⊕ c.in-Square.c2 ⊗ y ⊗ size) c.absolute-size.ensures)
