-- `read_budget::loss_of`: the slot is that of the cell.
use Rattle.std.proofs.Common.{◌∙◌, ◌+◌, ◌*◌, ◌-◌, ◌/◌, ◌%◌, arith, rules, get_or, pos, w64, SFits}
use Rattle.std.proofs.lemmas.Int.{to_z-of_z}
use Rattle.read_budget.proofs.Loss.{of_well, of_cell}
use Rattle.read_budget.proofs.loss_of.Goals as goal

pub returns-then-p-eq0 : goal.returns-then-p-eq0
returns-then-p-eq0 c = let a = c.args in to_z-of_z w64 _ c.ranges.well ∙ of_well a.well a.losses.now a.stored a.p c.if-p-eq0.true

pub returns : goal.returns
returns c =
    let a = c.args in
    let fits : SFits w64 (get_or a.losses.now (50 * ((a.p - 1) / a.stored) + (a.p - 1) % a.stored) (pos 0)) = search rules in
    to_z-of_z w64 _ fits ∙ of_cell a.well a.losses.now a.stored a.p (omega arith)
