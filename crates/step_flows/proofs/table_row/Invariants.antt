-- `step_flows::table_row` meets its contract: after k turns the first k slots are filled.
use Rattle.std.proofs.Common.{◌≡◌}
use Rattle.laws.specs.Fill.{fill}
use Rattle.step_flows.specs.Flows.{table_flow_at}
use Rattle.step_flows.proofs.table_row.Given as goal

abbrev pub invariant-loop-k : goal.invariant-loop-k
invariant-loop-k l = l.down ≡ fill l.k (table_flow_at l.thickness l.kv1 l.b2 l.kv2 l.areas l.depths l.dt) l.initial.down
