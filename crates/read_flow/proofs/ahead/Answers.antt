-- `read_flow::ahead` meets its contract: D at both ends, C in use, and from them the water of the face that joins them.
use Rattle.validity.specs.Laws.{valid_record}
use Rattle.read_flow.specs.Laws.{led}
use Rattle.read_flow.proofs.Laws.{joined-ends, in_use_asks, crossing_asks, crossing_back}
use Rattle.read_flow.proofs.ahead.Goals as goal

pub drawdown_at-here-requires : goal.drawdown_at-here-requires
drawdown_at-here-requires c = (c.requires.0, (joined-ends _ (valid_record _ c.requires.0) (led _ _ _ c.requires.1)).0)

pub drawdown_at-next-requires : goal.drawdown_at-next-requires
drawdown_at-next-requires c = (c.requires.0, (joined-ends _ (valid_record _ c.requires.0) (led _ _ _ c.requires.1)).1)

pub in_use-c-requires-clause-in_limits : goal.in_use-c-requires-clause-in_limits
in_use-c-requires-clause-in_limits c =
    let l = led _ _ _ c.requires.1 in
    (in_use_asks _ (valid_record _ c.requires.0) l _ c.requires.2 c.requires.3 _ _ c.drawdown_at-here.ensures c.drawdown_at-next.ensures).0

pub in_use-c-requires-clause-table_fits : goal.in_use-c-requires-clause-table_fits
in_use-c-requires-clause-table_fits c =
    let l = led _ _ _ c.requires.1 in
    (in_use_asks _ (valid_record _ c.requires.0) l _ c.requires.2 c.requires.3 _ _ c.drawdown_at-here.ensures c.drawdown_at-next.ensures).1

pub crossing-requires-clause-here_le_drawdown_limit : goal.crossing-requires-clause-here_le_drawdown_limit
crossing-requires-clause-here_le_drawdown_limit c =
    let l = led _ _ _ c.requires.1 in
    (crossing_asks _ (valid_record _ c.requires.0) l _ c.requires.2 c.requires.3 _ _ c.drawdown_at-here.ensures c.drawdown_at-next.ensures _ c.in_use-c.ensures).0

pub crossing-requires-clause-dt_bound : goal.crossing-requires-clause-dt_bound
crossing-requires-clause-dt_bound c =
    let l = led _ _ _ c.requires.1 in
    (crossing_asks _ (valid_record _ c.requires.0) l _ c.requires.2 c.requires.3 _ _ c.drawdown_at-here.ensures c.drawdown_at-next.ensures _ c.in_use-c.ensures).1

pub returns : goal.returns
returns c =
    let l = led _ _ _ c.requires.1 in
    crossing_back _ (valid_record _ c.requires.0) l _ c.requires.2 c.requires.3 _ _ c.drawdown_at-here.ensures c.drawdown_at-next.ensures _ c.in_use-c.ensures _ c.crossing.ensures
