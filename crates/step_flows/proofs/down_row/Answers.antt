-- `step_flows::down_row` meets its contract: after n turns the first n slots of the span are filled.
use Rattle.std.proofs.Common.{sym, ◌∙◌, arith}
use Rattle.laws.specs.Span.{span_none, span_more}
use Rattle.laws.specs.Signed.{back}
use Rattle.step_flows.specs.Flows.{flow_at}
use Rattle.step_flows.proofs.down_row.Goals as goal

pub loop-n-init : goal.loop-n-init
loop-n-init c = sym (span_none _ _ _)

pub loop-n-preserved : goal.loop-n-preserved
unfolding flow_at
loop-n-preserved c =
    let a = c.args in
    span_more (flow_at a.vertical.now a.depths.now 50 a.dt) a.down.now a.start c.loop-n.n c.loop-n.invariant
    (back c.crossing.result c.crossing.type_inv ∙ c.crossing.ensures)

pub crossing-requires-clause-dt_bound : goal.crossing-requires-clause-dt_bound
unfolding flow_at
crossing-requires-clause-dt_bound c = c.requires.by_index_2 c.loop-n.n (omega arith)
