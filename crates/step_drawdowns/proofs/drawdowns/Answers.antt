-- `step_drawdowns::drawdowns` meets its contract: after i turns the rows of the first i layers are filled.
use Rattle.std.proofs.Common.{sym, map, pos}
use Rattle.laws.specs.Span.{spans_none, spans_more}
use Rattle.step_drawdowns.specs.Drawdowns.{depth_at}
use Rattle.step_drawdowns.proofs.drawdowns.Goals as goal

pub loop-i-init : goal.loop-i-init
loop-i-init c = sym (spans_none _ _ _)

pub loop-i-preserved : goal.loop-i-preserved
loop-i-preserved c =
    let at = c in
    let a = at.args in
    spans_more (depth_at a.losses.now a.storages.now) (map pos a.depths.now) a.stored at.loop-i.i at.loop-i.invariant c.row.ensures
