-- `step_drawdowns::drawdowns` meets its contract: after i turns the rows of the first i layers are filled.
use Rattle.std.proofs.Common.{◌≡◌, map, pos}
use Rattle.laws.specs.Span.{spans}
use Rattle.step_drawdowns.specs.Drawdowns.{depth_at}
use Rattle.step_drawdowns.proofs.drawdowns.Given as goal

abbrev pub invariant-loop-i : goal.invariant-loop-i
invariant-loop-i l = map pos l.depths ≡ spans l.stored l.i (depth_at l.losses l.storages) (map pos l.initial.depths)
