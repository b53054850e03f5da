-- `listing_lines::empty`: an array of zeros holds no byte.
use Rattle.std.proofs.Common.{refl, sym}
use Rattle.listing_lines.specs.Laws.{held_none}
use Rattle.listing_lines.proofs.empty.Goals as goal

pub returns : goal.returns
returns c = (sym held_none, refl)
