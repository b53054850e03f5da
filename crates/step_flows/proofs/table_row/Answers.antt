-- `step_flows::table_row` meets its contract: after k turns the first k slots are filled.
use Rattle.std.proofs.Common.{sym, ◌∙◌, arith}
use Rattle.laws.specs.Fill.{fill_none, fill_more}
use Rattle.laws.specs.Signed.{back}
use Rattle.step_flows.specs.Flows.{table_flow_at}
use Rattle.step_flows.proofs.table_row.Goals as goal

pub loop-k-init : goal.loop-k-init
loop-k-init c = sym (fill_none _ _)

pub loop-k-preserved : goal.loop-k-preserved
unfolding table_flow_at
loop-k-preserved c =
    let a = c.args in
    fill_more (table_flow_at a.thickness a.kv1 a.b2 a.kv2 a.areas.now a.depths.now a.dt) a.down.now c.loop-k.k c.loop-k.invariant
    (back c.crossing.result c.crossing.type_inv ∙ rw c.at_table-c.ensures at c.crossing.ensures)

pub crossing-requires-clause-dt_bound : goal.crossing-requires-clause-dt_bound
unfolding table_flow_at
crossing-requires-clause-dt_bound c = rw c.at_table-c.ensures (c.requires.by_index_2 c.loop-k.k (omega arith))
