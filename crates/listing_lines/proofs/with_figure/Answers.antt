-- `listing_lines::with_figure`: a figure that is not negative has the digits of its size.
use Rattle.std.proofs.Common.{◌∙◌, to_z-of_z}
use Rattle.listing_lines.specs.Laws.{figure_natural}
use Rattle.listing_lines.proofs.with_figure.Goals as goal

pub returns : goal.returns
returns c =
    (c.with_number.ensures.0 ∙ rw (to_z-of_z c.ranges.x, figure_natural c.args.x c.requires.1), c.with_number.ensures.1)
