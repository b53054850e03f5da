-- `read_drawdown::drawdown_at`: the loss and the storage that stand for the end have its drawdown.
use Rattle.std.proofs.Common.{ap, ◌∙◌, sym, rules, w64, SFits, get_or, pos}
use Rattle.std.proofs.lemmas.Int.{to_z-of_z}
use Rattle.validity.specs.Laws.{valid_record}
use Rattle.readings.specs.Laws.{well_back}
use Rattle.read_drawdown.proofs.Depth.{D, well_asks, well_depth, slot_asks, cell_asks, cell_depth}
use Rattle.read_drawdown.proofs.drawdown_at.Goals as goal

pub drawdown-requires : goal.drawdown-requires
drawdown-requires c = rw (well_back _ (valid_record _ c.requires.0)) (well_asks _ c.requires.0)

pub slot_of-slot-requires : goal.slot_of-slot-requires
slot_of-slot-requires c = slot_asks _ c.requires.0 (rw c.in-Cell.is at c.requires.1)

pub drawdown-requires-in-Cell : goal.drawdown-requires-in-Cell
drawdown-requires-in-Cell c =
    let fits : SFits w64 (get_or c.args.rec.now.losses c.slot_of-slot.result (pos 0)) = search rules in
    rw (to_z-of_z w64 _ fits) (cell_asks _ c.requires.0 (rw c.in-Cell.is at c.requires.1) _ c.slot_of-slot.ensures.0)

pub returns-in-Well : goal.returns-in-Well
returns-in-Well c =
    rw (well_back _ (valid_record _ c.requires.0)) at c.drawdown.ensures ∙ well_depth _ c.requires.0 ∙ ap (D c.args.rec.now) (sym c.in-Well.is)

pub returns-in-Cell : goal.returns-in-Cell
returns-in-Cell c =
    let fits : SFits w64 (get_or c.args.rec.now.losses c.slot_of-slot.result (pos 0)) = search rules in
    rw (to_z-of_z w64 _ fits) at c.drawdown-in-Cell.ensures
    ∙ cell_depth _ c.requires.0 (rw c.in-Cell.is at c.requires.1) _ c.slot_of-slot.ensures.0
    ∙ ap (D c.args.rec.now) (sym c.in-Cell.is)
