-- `sections::layout_of` meets its contract: section by section, no test so far holds, and the place of the next count is near enough to the front to be read.
use Rattle.std.proofs.Common.{[], ◌∷◌, ◌<◌, ltb, length, refl, arith, rules}
use Rattle.std.proofs.lemmas.Result.{err_from_is_err_and}
use Rattle.limits.specs.Limits.{number_places, layer_count, column_count, coefficient_count, well_count, entry_count}
use Rattle.refusals.specs.Refusals.{refusal}
use Rattle.sections.specs.Sections.{from_columns, from_well, from_loss, from_pumping, left_over}
use Rattle.sections.proofs.Judging.{from_second, from_third, from_fourth, from_fifth, start, go_on, stop, over, whole}
use Rattle.sections.proofs.layout_of.Goals as goal

pub returns-in_err-columns : goal.returns-in_err-columns
returns-in_err-columns c ns held all =
    let p = err_from_is_err_and c.from_residual.result c.from_residual.ensures.1 in
    rw (p.1, p.2) (stop ns held all layer_count 5 (from_second ns) (omega arith) (start ns) c.layer_count.ensures c.in_err-columns.ensures.value)

pub returns-in_err-well : goal.returns-in_err-well
unfolding from_columns
returns-in_err-well c ns held all =
    let r₁ = go_on ns held all layer_count 5 (from_second ns) (omega arith) (start ns) c.layer_count.ensures c.in_ok-columns.ensures.value in
    let near₁ : c.in_ok-columns.columns < number_places = search rules in
    let p = err_from_is_err_and c.from_residual-in_err-well.result c.from_residual-in_err-well.ensures.1 in
    rw (p.1, p.2) (stop ns held all column_count 1 (from_third ns) near₁ r₁ c.column_count.ensures c.in_err-well.ensures.value)

pub returns-in_err-loss : goal.returns-in_err-loss
unfolding from_columns from_well
returns-in_err-loss c ns held all =
    let r₁ = go_on ns held all layer_count 5 (from_second ns) (omega arith) (start ns) c.layer_count.ensures c.in_ok-columns.ensures.value in
    let near₁ : c.in_ok-columns.columns < number_places = search rules in
    let r₂ = go_on ns held all column_count 1 (from_third ns) near₁ r₁ c.column_count.ensures c.in_ok-well.ensures.value in
    let near₂ : c.in_ok-well.well < number_places = search rules in
    let p = err_from_is_err_and c.from_residual-in_err-loss.result c.from_residual-in_err-loss.ensures.1 in
    rw (p.1, p.2) (stop ns held all well_count 1 (from_fourth ns) near₂ r₂ refl c.in_err-loss.ensures.value)

pub returns-in_err-pumping : goal.returns-in_err-pumping
unfolding from_columns from_well from_loss
returns-in_err-pumping c ns held all =
    let r₁ = go_on ns held all layer_count 5 (from_second ns) (omega arith) (start ns) c.layer_count.ensures c.in_ok-columns.ensures.value in
    let near₁ : c.in_ok-columns.columns < number_places = search rules in
    let r₂ = go_on ns held all column_count 1 (from_third ns) near₁ r₁ c.column_count.ensures c.in_ok-well.ensures.value in
    let near₂ : c.in_ok-well.well < number_places = search rules in
    let r₃ = go_on ns held all well_count 1 (from_fourth ns) near₂ r₂ refl c.in_ok-loss.ensures.value in
    let near₃ : c.in_ok-loss.loss < number_places = search rules in
    let p = err_from_is_err_and c.from_residual-in_err-pumping.result c.from_residual-in_err-pumping.ensures.1 in
    rw (p.1, p.2) (stop ns held all coefficient_count 1 (from_fifth ns) near₃ r₃ c.coefficient_count.ensures c.in_err-pumping.ensures.value)

pub returns-in_err-end : goal.returns-in_err-end
unfolding from_columns from_well from_loss from_pumping
returns-in_err-end c ns held all =
    let r₁ = go_on ns held all layer_count 5 (from_second ns) (omega arith) (start ns) c.layer_count.ensures c.in_ok-columns.ensures.value in
    let near₁ : c.in_ok-columns.columns < number_places = search rules in
    let r₂ = go_on ns held all column_count 1 (from_third ns) near₁ r₁ c.column_count.ensures c.in_ok-well.ensures.value in
    let near₂ : c.in_ok-well.well < number_places = search rules in
    let r₃ = go_on ns held all well_count 1 (from_fourth ns) near₂ r₂ refl c.in_ok-loss.ensures.value in
    let near₃ : c.in_ok-loss.loss < number_places = search rules in
    let r₄ = go_on ns held all coefficient_count 1 (from_fifth ns) near₃ r₃ c.coefficient_count.ensures c.in_ok-pumping.ensures.value in
    let near₄ : c.in_ok-pumping.pumping < number_places = search rules in
    let p = err_from_is_err_and c.from_residual-in_err-end.result c.from_residual-in_err-end.ensures.1 in
    rw (p.1, p.2) (stop ns held all entry_count 3 ((ltb 0 (length (left_over ns)), 1) ∷ []) near₄ r₄ c.entry_count.ensures c.in_err-end.ensures.value)

pub returns-then-end-total : goal.returns-then-end-total
unfolding from_columns from_well from_loss from_pumping left_over refusal
returns-then-end-total c ns held all =
    let r₁ = go_on ns held all layer_count 5 (from_second ns) (omega arith) (start ns) c.layer_count.ensures c.in_ok-columns.ensures.value in
    let near₁ : c.in_ok-columns.columns < number_places = search rules in
    let r₂ = go_on ns held all column_count 1 (from_third ns) near₁ r₁ c.column_count.ensures c.in_ok-well.ensures.value in
    let near₂ : c.in_ok-well.well < number_places = search rules in
    let r₃ = go_on ns held all well_count 1 (from_fourth ns) near₂ r₂ refl c.in_ok-loss.ensures.value in
    let near₃ : c.in_ok-loss.loss < number_places = search rules in
    let r₄ = go_on ns held all coefficient_count 1 (from_fifth ns) near₃ r₃ c.coefficient_count.ensures c.in_ok-pumping.ensures.value in
    let near₄ : c.in_ok-pumping.pumping < number_places = search rules in
    let r₅ = go_on ns held all entry_count 3 ((ltb 0 (length (left_over ns)), 1) ∷ []) near₄ r₄ c.entry_count.ensures c.in_ok-end.ensures.value in
    over ns r₅ (omega arith)

pub returns : goal.returns
unfolding from_columns from_well from_loss from_pumping left_over
returns c ns held all =
    let r₁ = go_on ns held all layer_count 5 (from_second ns) (omega arith) (start ns) c.layer_count.ensures c.in_ok-columns.ensures.value in
    let near₁ : c.in_ok-columns.columns < number_places = search rules in
    let r₂ = go_on ns held all column_count 1 (from_third ns) near₁ r₁ c.column_count.ensures c.in_ok-well.ensures.value in
    let near₂ : c.in_ok-well.well < number_places = search rules in
    let r₃ = go_on ns held all well_count 1 (from_fourth ns) near₂ r₂ refl c.in_ok-loss.ensures.value in
    let near₃ : c.in_ok-loss.loss < number_places = search rules in
    let r₄ = go_on ns held all coefficient_count 1 (from_fifth ns) near₃ r₃ c.coefficient_count.ensures c.in_ok-pumping.ensures.value in
    let near₄ : c.in_ok-pumping.pumping < number_places = search rules in
    let r₅ = go_on ns held all entry_count 3 ((ltb 0 (length (left_over ns)), 1) ∷ []) near₄ r₄ c.entry_count.ensures c.in_ok-end.ensures.value in
    record { held = held; form = whole ns r₅ (omega arith); columns = r₁.stands; well = r₂.stands; loss = r₃.stands; pumping = r₄.stands }
