-- `read_budget::loss_in` meets its contract: after p turns the first p places are added.
use Rattle.std.proofs.Common.{pos}
use Rattle.laws.specs.Signed.{Adding}
use Rattle.limits.specs.Limits.{total_limit}
use Rattle.read_budget.specs.Counted.{counted_loss}
use Rattle.read_budget.proofs.loss_in.Given as goal

abbrev pub invariant-loop-p : goal.invariant-loop-p
invariant-loop-p l = Adding total_limit (pos 0) (counted_loss l.well l.losses l.stored l.set) l.places l.p l.sum
