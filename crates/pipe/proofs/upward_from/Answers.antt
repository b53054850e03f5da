-- `pipe::upward_from` meets its contract: the last of the layers before `layer` that is screened.
use Rattle.std.proofs.Common.{rules}
use Rattle.std.proofs.iter.runs.Made.{chains}
use Rattle.pipe.proofs.Laws.{upward_is}
use Rattle.pipe.proofs.upward_from.Goals as goal

pub returns : goal.returns
returns c = upward_is c.args.screened.now c.args.layer c.rposition.result (search (rules, chains))
