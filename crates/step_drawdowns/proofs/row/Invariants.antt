-- `step_drawdowns::row` meets its contract: after n turns the first n cells of the row are filled.
use Rattle.std.proofs.Common.{◌≡◌, map, pos}
use Rattle.laws.specs.Span.{span}
use Rattle.step_drawdowns.specs.Drawdowns.{depth_at}
use Rattle.step_drawdowns.proofs.row.Given as goal

abbrev pub invariant-loop-n : goal.invariant-loop-n
invariant-loop-n l = map pos l.depths ≡ span l.start l.n (depth_at l.losses l.storages) (map pos l.initial.depths)
