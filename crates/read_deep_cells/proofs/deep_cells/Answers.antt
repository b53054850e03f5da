-- `read_deep_cells::deep_cells` meets its contract: at each return the tests on the way give the definition's answer.
use Rattle.std.proofs.Common.{◌≡◌, sym, ◌∙◌, true, ◌*◌, ◌≤◌, arith, length-take-le}
use Rattle.validity.specs.Validity.{valid}
use Rattle.validity.specs.Laws.{valid_record}
use Rattle.record.specs.declared.Record.{Record}
use Rattle.slot_places.specs.Slots.{counted}
use Rattle.read_deep_cells.specs.Codes.{code_of}
use Rattle.read_deep_cells.proofs.Slots.{length-below}
use Rattle.read_deep_cells.proofs.Keys.{shallow}
use Rattle.read_deep_cells.proofs.Answer.{refused_14, refused_13, given_whole}
use Rattle.read_deep_cells.proofs.deep_cells.Goals as goal

few : (r : Record) → valid r ≡ true → 50 * r.site.layers ≤ 1000
few r ok = omega (arith, (counted r (valid_record r ok)).layers_most)

pub returns-then-not-valid : goal.returns-then-not-valid
returns-then-not-valid c = refused_14 _ _ _ (sym c.valid.ensures ∙ c.if-not-valid.true)

pub overflow_mul-cells : goal.overflow_mul-cells
overflow_mul-cells c = omega (arith, few _ (sym c.valid.ensures ∙ c.if-not-valid.false))

pub count_deep-count-requires : goal.count_deep-count-requires
count_deep-count-requires c = omega (arith, few _ (sym c.valid.ensures ∙ c.if-not-valid.false))

pub returns-then-list-count : goal.returns-then-list-count
returns-then-list-count c =
    refused_13 c.args.«record» c.args.depth (sym c.valid.ensures ∙ c.if-not-valid.false) c.depths-depths.result c.depths-depths.ensures c.args.list.now c.count_deep-count.ensures c.if-list-count.true

pub returns : goal.returns
returns c =
    given_whole c.args.«record» c.args.depth (sym c.valid.ensures ∙ c.if-not-valid.false) c.depths-depths.result c.depths-depths.ensures c.args.list.now c.count_deep-count.ensures (omega (arith, c.if-list-count.false)) c.arrange.ensures

pub arrange-requires-clause-n_bound : goal.arrange-requires-clause-n_bound
arrange-requires-clause-n_bound c =
    let ok = sym c.valid.ensures ∙ c.if-not-valid.false in (few _ ok, shallow _ ok c.depths-depths.result c.depths-depths.ensures)

-- the part of the list that is lent on has a slot for each
pub arrange-requires-clause-list_len : goal.arrange-requires-clause-list_len
arrange-requires-clause-list_len c =
    length-take-le _ _ (omega (arith, c.if-list-count.false)) ∙ c.count_deep-count.ensures ∙ length-below _ code_of _ ∙ sym (length-below _ _ _)
