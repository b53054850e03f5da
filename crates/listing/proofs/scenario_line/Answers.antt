-- `listing::scenario_line` meets its contract.
use Rattle.std.proofs.Common.{arith}
use Rattle.listing_lines.specs.Word.{word}
use Rattle.listing_lines.specs.Lines.{line_from}
use Rattle.listing_lines.specs.Laws.{held_then, holds}
use Rattle.listing.specs.Listing.{scenario_line}
use Rattle.listing.proofs.scenario_line.Goals as goal

pub returns : goal.returns
unfolding scenario_line line_from word
returns c =
    let word = c.with_word-word in
    let empty = c.empty in
    holds _ (held_then _ _ (held_then _ _ empty.ensures.0 word.ensures.0) (rw c.number.ensures at c.with_number.ensures.0)) (omega (arith, c.with_number.ensures.1, word.ensures.1, empty.ensures.1))
