-- `input::read_full`: what has been read lies in the text.
use Rattle.std.proofs.Common.{◌≤◌, length}
use Rattle.listing_input.proofs.read_full.Given as goal

abbrev pub invariant-loop : goal.invariant-loop
invariant-loop g l = l.done ≤ length l.text
