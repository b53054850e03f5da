-- `listing::header_line` meets its contract.
use Rattle.std.proofs.Common.{arith}
use Rattle.listing_lines.specs.Word.{word}
use Rattle.listing_lines.specs.Lines.{line_from}
use Rattle.listing_lines.specs.Laws.{held_then, holds}
use Rattle.listing.specs.Listing.{header_line}
use Rattle.listing.proofs.header_line.Goals as goal

pub returns : goal.returns
unfolding header_line line_from word
returns c =
    let empty = c.empty in
    holds _ (held_then _ _ empty.ensures.0 c.with_word.ensures.0) (omega (arith, c.with_word.ensures.1, empty.ensures.1))
