-- `step_drawdowns::drawdown_by` meets its contract: with no multiplier by the plain quotient, else by the multiplier.
use Rattle.std.proofs.Common.{sym, ap, ◌∙◌, pos, to_z-of_z}
use Rattle.step_drawdowns.proofs.Laws.{depth_is}
use Rattle.step_drawdowns.proofs.drawdown_by.Goals as goal

pub returns-else-multiplier-eq0 : goal.returns-else-multiplier-eq0
returns-else-multiplier-eq0 c =
    let s = c in
    ap pos (rw (to_z-of_z s.ranges.v) at c.by_multiplier.ensures) ∙ sym (depth_is s.args.s s.requires.0)
