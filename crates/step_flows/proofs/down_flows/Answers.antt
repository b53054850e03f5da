-- `step_flows::down_flows` meets its contract: with the first row, and after each turn, the columns in use of the first i layers are filled.
use Rattle.std.proofs.Common.{◌≡◌, ◌∙◌, ◌+◌, ◌*◌, arith}
use Rattle.step_flows.proofs.Laws.{down_joined, first-row, next_row}
use Rattle.step_flows.proofs.down_flows.Goals as goal

pub table_row-requires-clause-by_index_2 : goal.table_row-requires-clause-by_index_2
table_row-requires-clause-by_index_2 c =
    let a = c.args in
    λ k h. rw ((down_joined a.thickness a.kv1 a.b2 a.kv2 a.areas.now a.vertical.now a.depths.now a.stored a.dt).first k h) (c.requires.by_index_2 k (omega arith))

pub down_row-requires-clause-by_index_2 : goal.down_row-requires-clause-by_index_2
down_row-requires-clause-by_index_2 c =
    let a = c.args in
    let i = c.loop-i.i in
    λ n h. rw ((down_joined a.thickness a.kv1 a.b2 a.kv2 a.areas.now a.vertical.now a.depths.now a.stored a.dt).rest (50 * i + n) (omega arith)) (c.requires.by_index_2 (50 * i + n) (omega arith))

pub loop-i-preserved : goal.loop-i-preserved
loop-i-preserved c =
    let a = c.args in
    let j = down_joined a.thickness a.kv1 a.b2 a.kv2 a.areas.now a.vertical.now a.depths.now a.stored a.dt in
    λ old e. next_row j old c.loop-i.i (omega arith) (omega arith) (c.loop-i.invariant old e) c.down_row.ensures

pub returns : goal.returns
returns c =
    let a = c.args in
    let j = down_joined a.thickness a.kv1 a.b2 a.kv2 a.areas.now a.vertical.now a.depths.now a.stored a.dt in
    let e : c.loop-i.i ≡ a.layers = omega arith in
    let old = a.down.now in
    c.loop-i.invariant old (first-row j old c.table_row.ensures) ∙ rw e
