-- `read_budget::budget` meets its contract: the totals of the record, and the loss of the set of every cell.
use Rattle.std.proofs.Common.{sym, ◌∙◌, rules, w64, SFits}
use Rattle.std.proofs.lemmas.Int.{to_z-of_z}
use Rattle.validity.specs.Laws.{valid_record, mark_back}
use Rattle.read_budget.specs.Counted.{every_cell}
use Rattle.readings.specs.Laws.{well_back, inflow_back}
use Rattle.read_budget.proofs.Loss.{loss_asks, loss_room, count_asks, budget_14, cells_listed, budget_given}
use Rattle.read_budget.proofs.budget.Goals as goal

pub returns-then-not-valid : goal.returns-then-not-valid
returns-then-not-valid c = budget_14 _ (sym c.valid.ensures ∙ c.if-not-valid.true)

pub place_count-places-requires : goal.place_count-places-requires
place_count-places-requires c = count_asks _ (sym c.valid.ensures ∙ c.if-not-valid.false)

pub overflow_sub-stored : goal.overflow_sub-stored
overflow_sub-stored c = (count_asks _ (sym c.valid.ensures ∙ c.if-not-valid.false)).1

pub loss_in-cell_loss-requires-clause-stored_nonzero : goal.loss_in-cell_loss-requires-clause-stored_nonzero
loss_in-cell_loss-requires-clause-stored_nonzero c =
    let ok = sym c.valid.ensures ∙ c.if-not-valid.false in
    let n = c.place_count-places.ensures in
    rw c.every_cell-cells.ensures (loss_asks _ (valid_record _ ok) every_cell _ n (cells_listed _ ok _ n))

pub loss_in-cell_loss-requires-clause-room : goal.loss_in-cell_loss-requires-clause-room
loss_in-cell_loss-requires-clause-room c =
    let v = valid_record _ (sym c.valid.ensures ∙ c.if-not-valid.false) in
    rw (well_back _ v, c.every_cell-cells.ensures) (loss_room _ v every_cell _ c.place_count-places.ensures)

pub returns : goal.returns
returns c =
    let ok = sym c.valid.ensures ∙ c.if-not-valid.false in
    let v = valid_record _ ok in
    let fits : SFits w64 c.loss_in-cell_loss.result = search rules in
    let lost = rw (well_back _ v, c.every_cell-cells.ensures) at c.loss_in-cell_loss.ensures in
    budget_given _ ok _ c.place_count-places.ensures (well_back _ v) (to_z-of_z w64 _ fits ∙ lost) (inflow_back _ v) (mark_back _ v)
