-- `read_limiting::shortest_cell`: the first of the shortest slots before the loop's place, and its longest step.
use Rattle.std.proofs.Common.{◌≡◌, ◌-◌}
use Rattle.read_limiting.specs.Limiting.{foremost}
use Rattle.read_limiting.specs.Slots.{slot_longest, less_at}
use Rattle.read_limiting.proofs.shortest_cell.Given as goal

abbrev pub invariant-loop-k : goal.invariant-loop-k
invariant-loop-k l = (l.best.slot ≡ foremost (less_at (slot_longest l.rec)) 0 (l.k - 1)) × (l.best.longest ≡ slot_longest l.rec l.best.slot)
