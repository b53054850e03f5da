-- A turn gives back one loss: the first k are given back.
use Rattle.std.proofs.Common.{◌≡◌, get_or, pos}
use Rattle.laws.specs.Fill.{fill}
use Rattle.step_judged.proofs.restore.Given as goal

abbrev pub invariant-loop-k : goal.invariant-loop-k
invariant-loop-k l = l.losses ≡ fill l.k (λ j. get_or l.before j (pos 0)) l.initial.losses
