-- `coefficients::storages_of`: an array of S of the cells.
use Rattle.std.proofs.Common.{rules, tests, ◌+◌, ◌/◌, ◌%◌}
use Rattle.record.specs.Record.{is_cell, slots}
use Rattle.coefficient_cells.specs.Cells.{storage_of}
use Rattle.coefficient_cells.specs.Worked.{slot_of}
use Rattle.coefficients.proofs.Made.{made_whole}
use Rattle.coefficients.proofs.storages_of.Goals as goal

pub returns : goal.returns
unfolding slots
returns c =
    let s = c.args.site in
    made_whole _ _ (λ k. slot_of (is_cell s (k / 50) (k % 50 + 1)) (storage_of s (k / 50) (k % 50 + 1))) 1000 (λ i y q lt k. search (rules, tests)) _ c.from_fn.ensures.items
