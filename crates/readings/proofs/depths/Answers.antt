-- `readings::depths` meets its contract.
use Rattle.std.proofs.Common.{arith}
use Rattle.validity.specs.Laws.{valid_record}
use Rattle.slot_places.specs.Slots.{counted}
use Rattle.slot_places.specs.Drawdowns.{depths_ask, depths_given}
use Rattle.readings.proofs.depths.Goals as goal

pub overflow_sub-stored : goal.overflow_sub-stored
overflow_sub-stored c = omega (arith, (counted _ (valid_record _ c.requires)).columns_least)

pub returns : goal.returns
returns c = depths_given _ (valid_record _ c.requires) c.plain_drawdowns.result c.plain_drawdowns.ensures

pub plain_drawdowns-requires-clause-layers_bound : goal.plain_drawdowns-requires-clause-layers_bound
plain_drawdowns-requires-clause-layers_bound c = (depths_ask _ (valid_record _ c.requires)).0

pub plain_drawdowns-requires-clause-by_index : goal.plain_drawdowns-requires-clause-by_index
plain_drawdowns-requires-clause-by_index c = (depths_ask _ (valid_record _ c.requires)).1
