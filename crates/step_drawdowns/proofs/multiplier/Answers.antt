-- `step_drawdowns::multiplier` meets its contract: the multiplier of a storage over 10^6 is a word.
use Rattle.std.proofs.Common.{arith}
use Rattle.step_drawdowns.specs.Drawdowns.{multiplier_of}
use Rattle.step_drawdowns.proofs.multiplier.Goals as goal

pub returns-else-s-le1000000 : goal.returns-else-s-le1000000
unfolding multiplier_of
returns-else-s-le1000000 c = record { multiplier = λ h. (omega (arith, c.if-s-le1000000.false), c.quotient_word.ensures) }
