-- `step_stability::well_sum`: so many C, none over the limit.
use Rattle.std.proofs.Common.{arith}
use Rattle.step_stability.proofs.Laws.{well_none, well_more}
use Rattle.step_stability.proofs.well_sum.Goals as goal

pub loop-i-init : goal.loop-i-init
loop-i-init c = (well_none _, omega arith)

pub loop-i-preserved : goal.loop-i-preserved
loop-i-preserved c = (omega (arith, well_more c.args.rec.now.screen c.loop-i.i), omega (arith, c.requires.1 c.loop-i.i (omega arith)))
