-- `listing_entry::figures_line`: seven fields of at most 21 bytes.
use Rattle.std.proofs.Common.{◌≡◌, arith, w64, to_z, of_z, to_z-of_z, rules}
use Rattle.listing_entry.proofs.Fields.{figures-held}
use Rattle.listing_entry.proofs.figures_line.Goals as goal

pub returns : goal.returns
returns c =
    let a = c.args in
    let well_loss : to_z w64 (of_z w64 a.totals.well_loss) ≡ a.totals.well_loss = search rules in
    let cell_loss : to_z w64 (of_z w64 a.totals.cell_loss) ≡ a.totals.cell_loss = search rules in
    let inflow : to_z w64 (of_z w64 a.totals.inflow) ≡ a.totals.inflow = search rules in
    figures-held a.number a.time a.well a.totals
    c.empty.ensures.0
    c.with_number-entry.ensures.0
    c.with_number-us.ensures.0
    (rw (to_z-of_z c.ranges.well) at c.with_figure-depth.ensures.0)
    c.with_number-pumped.ensures.0
    (rw well_loss at c.with_figure-well_loss.ensures.0)
    (rw cell_loss at c.with_figure-cell_loss.ensures.0)
    (rw inflow at c.with_figure.ensures.0)
    (omega (
      arith,
      c.with_figure.ensures.1,
      c.with_figure-cell_loss.ensures.1,
      c.with_figure-well_loss.ensures.1,
      c.with_number-pumped.ensures.1,
      c.with_figure-depth.ensures.1,
      c.with_number-us.ensures.1,
      c.with_number-entry.ensures.1,
      c.empty.ensures.1,
    ))
