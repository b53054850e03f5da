-- `validity_totals::losses_add_up`: what is left and the losses before the loop's place add up to the total.
use Rattle.std.proofs.Common.{◌≡◌, ◌+◌}
use Rattle.validity_totals.specs.Totals.{loss_sum}
use Rattle.validity_totals.proofs.losses_add_up.Given as goal

abbrev pub invariant-loop-loss : goal.invariant-loop-loss
invariant-loop-loss l = l.left + loss_sum l.loss-index l.losses ≡ l.total
