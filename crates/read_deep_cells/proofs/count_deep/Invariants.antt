-- `read_deep_cells::count_deep` meets its contract: after k turns the deep ones of the first k slots are counted.
use Rattle.std.proofs.Common.{◌≡◌, ◌≤◌, length}
use Rattle.read_deep_cells.specs.Codes.{code_of, below, deep_at}
use Rattle.read_deep_cells.proofs.count_deep.Given as goal

abbrev pub invariant-loop-k : goal.invariant-loop-k
invariant-loop-k l = (l.count ≤ l.k) × (l.count ≡ length (below (deep_at l.depth l.depths) code_of l.k))
