-- `listing::opening` meets its contract.
use Rattle.listing_lines.specs.Laws.{holds_length}
use Rattle.listing.specs.Laws.{opening_taken, opening_refused}
use Rattle.listing.proofs.opening.Goals as goal

pub returns-in-Err : goal.returns-in-Err
returns-in-Err c =
    (opening_refused c.args.text.now c.start-answer.ensures _ c.in-Err.is c.scenario_line.ensures, holds_length _ c.scenario_line.ensures)

pub returns-in-Ok : goal.returns-in-Ok
returns-in-Ok c =
    (opening_taken c.args.text.now c.start-answer.ensures c.in-Ok.is c.header_line.ensures, holds_length _ c.header_line.ensures)
