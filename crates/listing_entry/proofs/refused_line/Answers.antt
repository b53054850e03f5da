-- `listing_entry::refused_line` meets its contract.
use Rattle.std.proofs.Common.{refl, ap, ◌∙◌, append_assoc, arith}
use Rattle.listing_lines.specs.Word.{word}
use Rattle.listing_lines.specs.Lines.{line_from, held}
use Rattle.listing_lines.specs.Laws.{held_then, holds}
use Rattle.listing_entry.specs.EntryLine.{refused_line}
use Rattle.listing_entry.proofs.refused_line.Goals as goal

pub returns : goal.returns
unfolding refused_line line_from word
returns c =
    let entry = c.with_number-entry in
    let word = c.with_word-word in
    let empty = c.empty in
    holds _ (held_then _ _ (held_then _ _ (held_then _ _ empty.ensures.0 word.ensures.0) entry.ensures.0) (rw c.number-refused.ensures at c.with_number.ensures.0) ∙ ap held (simp append_assoc refl))
    (omega (arith, c.with_number.ensures.1, entry.ensures.1, word.ensures.1, empty.ensures.1))
