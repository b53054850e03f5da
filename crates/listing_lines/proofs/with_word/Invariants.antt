-- `listing_lines::with_word`: after i bytes of the word the line has these more.
use Rattle.std.proofs.Common.{◌≡◌, take}
use Rattle.listing_lines.specs.Appended.{appended}
use Rattle.listing_lines.proofs.with_word.Given as goal

abbrev pub invariant-loop-byte : goal.invariant-loop-byte
invariant-loop-byte l = l.longer ≡ appended l.initial.longer (take l.byte-index l.word)
