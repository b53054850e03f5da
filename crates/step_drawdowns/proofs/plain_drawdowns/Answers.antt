-- `step_drawdowns::plain_drawdowns` meets its contract: zeros stand for multipliers, and in an array of zeros the other slots hold 0.
use Rattle.step_drawdowns.proofs.Laws.{none_multiplied}
use Rattle.step_drawdowns.proofs.plain_drawdowns.Goals as goal

pub drawdowns-requires-clause-multiplied : goal.drawdowns-requires-clause-multiplied
drawdowns-requires-clause-multiplied c = none_multiplied 1000 c.args.storages.now
