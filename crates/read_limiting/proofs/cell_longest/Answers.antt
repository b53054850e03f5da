-- `read_limiting::cell_longest`: past the last column there is no limit.
use Rattle.std.proofs.Common.{le-leb}
use borrow.Author.Tests.{lt-leb}
use Rattle.read_limiting.specs.Slots.{no_limit, cell_longest}
use Rattle.read_limiting.proofs.cell_longest.Goals as goal

pub returns-then-rec-k : goal.returns-then-rec-k
unfolding cell_longest no_limit
returns-then-rec-k c = rw (le-leb _ _ c.if-rec-k.true)

pub returns-else-rec-k : goal.returns-else-rec-k
unfolding cell_longest
returns-else-rec-k c = rw (lt-leb _ _ c.if-rec-k.false, ← c.cell_sum.ensures) c.longest.ensures
