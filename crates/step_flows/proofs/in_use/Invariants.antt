-- `step_flows::in_use` meets its contract: after k turns the first k slots are reduced.
use Rattle.std.proofs.Common.{◌≡◌, map, ◌*◌, pos}
use Rattle.laws.specs.Fill.{fill}
use Rattle.step_flows.specs.Flows.{reduced_at}
use Rattle.step_flows.proofs.in_use.Given as goal

abbrev pub invariant-loop-k : goal.invariant-loop-k
invariant-loop-k l = (l.divisor ≡ 2000 * l.thickness) × (map pos l.conductances ≡ fill l.k (reduced_at l.thickness l.horizontal l.depths) (map pos l.initial.conductances))
