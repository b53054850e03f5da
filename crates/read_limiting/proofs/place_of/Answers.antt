-- `read_limiting::place_of`: layer and column from 1.
use Rattle.std.proofs.Common.{refl}
use Rattle.read_limiting.specs.Slots.{slot_place}
use Rattle.read_limiting.proofs.place_of.Goals as goal

pub returns : goal.returns
unfolding slot_place
returns c = refl
