-- `decimal::write` ends: the measure is the number.
use Rattle.decimal.proofs.+write.Given as goal

abbrev pub decreases-write : goal.decreases-write
decreases-write l = l.n
