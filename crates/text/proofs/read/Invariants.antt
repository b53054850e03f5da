-- `text::read` meets its contract. The loop's invariant: the lines before the rest are read.
use Rattle.std.proofs.Common.{length}
use Rattle.text.proofs.Passed.{Passed}
use Rattle.text.proofs.read.Given as goal

abbrev pub invariant-loop-end : goal.invariant-loop-end
invariant-loop-end l = Passed l.text l.rest l.count l.values

abbrev pub decreases-loop-end : goal.decreases-loop-end
decreases-loop-end l = length l.rest
