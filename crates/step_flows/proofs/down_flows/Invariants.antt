-- `step_flows::down_flows` meets its contract: with the first row, and after each turn, the columns in use of the first i layers are filled.
use Rattle.std.proofs.Common.{◌≡◌, List, ℤ}
use Rattle.laws.specs.Span.{spans}
use Rattle.step_flows.specs.Flows.{down_flow_at}
use Rattle.step_flows.proofs.down_flows.Given as goal

-- of any list from which the first row was filled
abbrev pub invariant-loop-i : goal.invariant-loop-i
invariant-loop-i l =
    let f = down_flow_at l.thickness l.kv1 l.b2 l.kv2 l.areas l.vertical l.depths l.stored l.dt in
    (old : List ℤ) → l.initial.down ≡ spans l.stored 1 f old → l.down ≡ spans l.stored l.i f old
