-- `listing_lines::with_number`: the digits, of which a word has at most 20, and the byte after them.
use Rattle.std.proofs.Common.{◌∙◌}
use Rattle.listing_lines.proofs.Number.{with_end}
use Rattle.listing_lines.proofs.with_number.Goals as goal

pub returns : goal.returns
returns c =
    let digits = c.as_slice.ensures.value ∙ c.write-digits.ensures in
    with_end c.args.n c.ranges.n.fits _ digits c.args.line c.with_word-longer.result c.followed.result c.with_word-longer.ensures.0 c.args.end c.followed.ensures
