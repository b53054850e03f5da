-- `step_flows::down_row` meets its contract: after n turns the first n slots of the span are filled.
use Rattle.std.proofs.Common.{◌≡◌}
use Rattle.laws.specs.Span.{span}
use Rattle.step_flows.specs.Flows.{flow_at}
use Rattle.step_flows.proofs.down_row.Given as goal

abbrev pub invariant-loop-n : goal.invariant-loop-n
invariant-loop-n l = l.down ≡ span l.start l.n (flow_at l.vertical l.depths 50 l.dt) l.initial.down
