-- `read_budget::storage_loss` meets its contract: the tests on the way give the refusals, and `loss_in` the loss.
use Rattle.std.proofs.Common.{sym, ◌∙◌, le_of_eq, rules, w64, SFits}
use Rattle.std.proofs.lemmas.Int.{to_z-of_z}
use Rattle.validity.specs.Laws.{valid_record}
use Rattle.readings.specs.Laws.{well_back}
use Rattle.read_budget.proofs.Loss.{loss_asks, loss_room, count_asks, loss_14, loss_13, loss-given}
use Rattle.read_budget.proofs.storage_loss.Goals as goal

pub returns-then-not-valid : goal.returns-then-not-valid
returns-then-not-valid c = loss_14 _ _ (sym c.valid.ensures ∙ c.if-not-valid.true)

pub place_count-places-requires : goal.place_count-places-requires
place_count-places-requires c = count_asks _ (sym c.valid.ensures ∙ c.if-not-valid.false)

pub returns-then-set-places : goal.returns-then-set-places
returns-then-set-places c = loss_13 _ (sym c.valid.ensures ∙ c.if-not-valid.false) _ c.place_count-places.ensures _ c.if-set-places.true

pub overflow_sub-stored : goal.overflow_sub-stored
overflow_sub-stored c = (count_asks _ (sym c.valid.ensures ∙ c.if-not-valid.false)).1

pub loss_in-requires-clause-stored_nonzero : goal.loss_in-requires-clause-stored_nonzero
loss_in-requires-clause-stored_nonzero c =
    let v = valid_record _ (sym c.valid.ensures ∙ c.if-not-valid.false) in
    loss_asks _ v c.args.set.now _ c.place_count-places.ensures (le_of_eq (sym c.if-set-places.false))

pub loss_in-requires-clause-room : goal.loss_in-requires-clause-room
loss_in-requires-clause-room c =
    let v = valid_record _ (sym c.valid.ensures ∙ c.if-not-valid.false) in
    rw (well_back _ v) (loss_room _ v c.args.set.now _ c.place_count-places.ensures)

pub returns : goal.returns
returns c =
    let ok = sym c.valid.ensures ∙ c.if-not-valid.false in
    let fits : SFits w64 c.loss_in.result = search rules in
    let lost = rw (well_back _ (valid_record _ ok)) at c.loss_in.ensures in
    rw (to_z-of_z w64 _ fits) (loss-given _ ok _ c.place_count-places.ensures _ c.if-set-places.false lost)
