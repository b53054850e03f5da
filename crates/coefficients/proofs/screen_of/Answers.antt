-- `coefficients::screen_of`: an array of C at the well of each layer.
use Rattle.std.proofs.Common.{rules, tests}
use Rattle.record.specs.Record.{has_screen, layer_slots}
use Rattle.coefficient_cells.specs.Cells.{across_of}
use Rattle.coefficient_cells.specs.Worked.{slot_of}
use Rattle.coefficients.proofs.Made.{made_whole}
use Rattle.coefficients.proofs.screen_of.Goals as goal

pub returns : goal.returns
unfolding layer_slots
returns c = made_whole _ _ (λ i. slot_of (has_screen c.args.site i) (across_of c.args.site i 0)) 20 (λ i y q lt k. search (rules, tests)) _ c.from_fn.ensures.items
