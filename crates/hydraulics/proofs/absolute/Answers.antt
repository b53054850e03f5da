-- `hydraulics::absolute` meets its contract: each arm returns what the definition picks there.
use Rattle.hydraulics.specs.Hydraulics.{absolute}
use Rattle.hydraulics.proofs.Laws.{zero_is}
use Rattle.hydraulics.proofs.absolute.Goals as goal

pub returns-then-x : goal.returns-then-x
unfolding absolute
returns-then-x c = rw (← zero_is, c.if-x.true)

pub returns-else-x : goal.returns-else-x
unfolding absolute
returns-else-x c = rw (← zero_is, c.if-x.false)
