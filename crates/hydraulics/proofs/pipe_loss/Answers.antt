-- `hydraulics::pipe_loss` meets its contract: the operations are those of the definition, in its order.
use Rattle.std.proofs.Common.{ap, ap₂}
use Rattle.hydraulics.specs.Hydraulics.{◌⊕◌, ◌⊖◌, ◌⊗◌, ◌⊘◌, twice_gravity, gravity, pipe_loss}
use Rattle.hydraulics.proofs.Laws.{twice_gravity_is, gravity_is}
use Rattle.hydraulics.proofs.pipe_loss.Goals as goal

pub returns : goal.returns
unfolding pipe_loss
returns c =
    let v = c.args.v in
    let above = c.args.above in
    let length = ap₂ ◌⊘◌ c.whole.ensures.0 c.whole-2.ensures.0 in
    let friction = ap₂ ◌⊗◌ (ap₂ ◌⊗◌ c.millionths-f.ensures length) (ap (v ⊗◌) c.absolute-size.ensures) in
    rw (twice_gravity_is, gravity_is) (ap (λ x. x ⊘ twice_gravity ⊕ (above ⊗ above ⊖ v ⊗ v) ⊘ gravity) friction)
