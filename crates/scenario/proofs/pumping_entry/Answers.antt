-- `scenario::pumping_entry` meets its contract: a refused text gives its own refusal, an accepted one what `found` finds.
use Rattle.scenario.proofs.Tests.{entry_refused, entry_found}
use Rattle.scenario.proofs.pumping_entry.Goals as goal

pub returns-in-Err : goal.returns-in-Err
returns-in-Err c = entry_refused _ _ c.in-Err.ensures

pub found-requires : goal.found-requires
found-requires c = (_, c.in-Ok.ensures.read)

pub returns-in-Ok : goal.returns-in-Ok
returns-in-Ok c = entry_found _ _ c.in-Ok.ensures.taken (c.found.ensures _ c.in-Ok.ensures.read)
