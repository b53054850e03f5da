-- `read_head_loss::inflows` meets its contract: after i turns the first i slots are filled.
use Rattle.std.proofs.Common.{sym}
use Rattle.laws.specs.Fill.{fill_none, fill_more}
use Rattle.read_head_loss.specs.Slots.{no_inflows}
use Rattle.read_head_loss.proofs.inflows.Goals as goal

pub loop-i-init : goal.loop-i-init
unfolding no_inflows
loop-i-init c = sym (fill_none _ _)

pub loop-i-preserved : goal.loop-i-preserved
loop-i-preserved c = fill_more _ no_inflows c.loop-i.i c.loop-i.invariant c.layer_inflow.ensures
