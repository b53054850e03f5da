-- `listing_print::print_listing`: what has been written and what is left make the listing.
use Rattle.std.proofs.Common.{◌≡◌, ℕ, List, ◌++◌}
use Rattle.std.specs.Io.KnownBytes.{Appends}
use Rattle.listing.specs.Listing.{listing_of}
use Rattle.listing_print.proofs.Pieces.{left}
use Rattle.listing_print.proofs.print_listing.Given as goal

abbrev pub invariant-loop-done : goal.invariant-loop-done
invariant-loop-done g l =
    (w : List ℕ) × Appends (g.W.Write.contents l.fn.out) (g.W.Write.contents l.out) w × (w ++ left l.text l.done l.«record» ≡ listing_of l.text)
