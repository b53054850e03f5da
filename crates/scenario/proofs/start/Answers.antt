-- `scenario::start` meets its contract: the record at the start of an accepted text, the all-zero record with the refusal of another.
use Rattle.scenario.proofs.Tests.{start_made, start_refused}
use Rattle.scenario.proofs.start.Goals as goal

pub returns-in-Ok : goal.returns-in-Ok
returns-in-Ok c = start_made _ c.in-Ok.ensures.taken c.in-Ok.ensures.made

pub returns-in-Err : goal.returns-in-Err
returns-in-Err c = start_refused _ c.in-Err.ensures c.all_zero.ensures
