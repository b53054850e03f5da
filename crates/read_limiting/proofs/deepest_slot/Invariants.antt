-- `read_limiting::deepest_slot`: the first of the deepest slots before the loop's place.
use Rattle.std.proofs.Common.{◌≡◌, ◌-◌}
use Rattle.read_limiting.specs.Limiting.{foremost}
use Rattle.read_limiting.specs.Slots.{deeper_slot}
use Rattle.read_limiting.proofs.deepest_slot.Given as goal

abbrev pub invariant-loop-k : goal.invariant-loop-k
invariant-loop-k l = l.best ≡ foremost (deeper_slot l.losses l.storages) 0 (l.k - 1)
