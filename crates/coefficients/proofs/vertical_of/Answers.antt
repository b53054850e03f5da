-- `coefficients::vertical_of`: an array of C between the layers.
use Rattle.std.proofs.Common.{rules, tests, ◌+◌, ◌/◌, ◌%◌}
use Rattle.record.specs.Record.{has_below, slots}
use Rattle.coefficient_cells.specs.Cells.{down_of}
use Rattle.coefficient_cells.specs.Worked.{slot_of}
use Rattle.coefficients.proofs.Made.{made_whole}
use Rattle.coefficients.proofs.vertical_of.Goals as goal

pub returns : goal.returns
unfolding slots
returns c =
    let s = c.args.site in
    made_whole _ _ (λ k. slot_of (has_below s (k / 50) (k % 50 + 1)) (down_of s (k / 50) (k % 50 + 1))) 1000 (λ i y q lt k. search (rules, tests)) _ c.from_fn.ensures.items
