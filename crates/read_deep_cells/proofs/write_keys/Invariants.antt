-- `read_deep_cells::write_keys` meets its contract: after k turns the keys of the deep ones of the first k slots are written.
use Rattle.std.proofs.Common.{◌≡◌, ◌≤◌, length}
use Rattle.read_deep_cells.specs.Codes.{key_of, below, deep_at}
use Rattle.read_deep_cells.proofs.Slots.{with_front}
use Rattle.read_deep_cells.proofs.write_keys.Given as goal

abbrev pub invariant-loop-k : goal.invariant-loop-k
invariant-loop-k l = (l.at ≤ l.k) × (l.at ≡ length (below (deep_at l.depth l.depths) (key_of l.depths) l.k)) × (l.list ≡ with_front (below (deep_at l.depth l.depths) (key_of l.depths) l.k) l.initial.list)
