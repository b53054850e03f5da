-- `read_head_loss::head_loss` meets its contract: at each return the tests on the way give the definition's answer.
use Rattle.std.proofs.Common.{sym, ap, ◌∙◌, ◌-◌, Ok}
use Rattle.validity.specs.Laws.{valid_record}
use Rattle.slot_places.specs.Drawdowns.{well_ask}
use Rattle.readings.specs.Laws.{well_back}
use Rattle.read_head_loss.specs.HeadLoss.{losses_at}
use Rattle.pipe.specs.Asked.{e_of}
use Rattle.read_head_loss.proofs.Reading.{begun, few_layers, refused_14, refused_12, refused_7, refused_8, screened_is, inflows_ask, answered}
use Rattle.read_head_loss.proofs.head_loss.Goals as goal

pub returns-then-not-valid : goal.returns-then-not-valid
returns-then-not-valid c =
    refused_14 _ _ _ (sym c.valid.ensures ∙ c.if-not-valid.true)

pub screened_layer-there-requires : goal.screened_layer-there-requires
screened_layer-there-requires c =
    few_layers c.args.record c.args.layer 0 (sym c.valid.ensures ∙ c.if-not-valid.false)

pub returns-then-not-there : goal.returns-then-not-there
returns-then-not-there c =
    refused_12 _ _ _ (sym c.valid.ensures ∙ c.if-not-valid.false) (sym c.screened_layer-there.ensures ∙ c.if-not-there.true)

pub returns-then-out : goal.returns-then-out
returns-then-out c =
    refused_7 _ _ _ (sym c.valid.ensures ∙ c.if-not-valid.false) (sym c.screened_layer-there.ensures ∙ c.if-not-there.false) (sym c.length_out-out.ensures ∙ c.if-out.true)

pub returns-then-not-stable : goal.returns-then-not-stable
returns-then-not-stable c =
    refused_8 _ _ _ (sym c.valid.ensures ∙ c.if-not-valid.false) (sym c.screened_layer-there.ensures ∙ c.if-not-there.false) (sym c.length_out-out.ensures ∙ c.if-out.false) (sym c.stable.ensures ∙ c.if-not-stable.true)

pub drawdown-well-requires : goal.drawdown-well-requires
drawdown-well-requires c =
    let v = valid_record _ (sym c.valid.ensures ∙ c.if-not-valid.false) in
    rw (well_back _ v) (well_ask _ v)

pub inflows-es-requires-clause-layers_bound : goal.inflows-es-requires-clause-layers_bound
inflows-es-requires-clause-layers_bound c =
    let b = begun _ _ _ c.valid.ensures c.if-not-valid.false c.screened_layer-there.ensures c.if-not-there.false c.length_out-out.ensures c.if-out.false c.stable.ensures c.if-not-stable.false in
    let at_well = rw (well_back _ (valid_record _ b.passed)) at c.drawdown-well.ensures in
    (inflows_ask _ _ _ b _ at_well).0

pub inflows-es-requires-clause-by_index : goal.inflows-es-requires-clause-by_index
inflows-es-requires-clause-by_index c =
    let b = begun _ _ _ c.valid.ensures c.if-not-valid.false c.screened_layer-there.ensures c.if-not-there.false c.length_out-out.ensures c.if-out.false c.stable.ensures c.if-not-stable.false in
    let at_well = rw (well_back _ (valid_record _ b.passed)) at c.drawdown-well.ensures in
    (inflows_ask _ _ _ b _ at_well).1

pub losses_at-requires : goal.losses_at-requires
losses_at-requires c =
    let b = begun _ _ _ c.valid.ensures c.if-not-valid.false c.screened_layer-there.ensures c.if-not-there.false c.length_out-out.ensures c.if-out.false c.stable.ensures c.if-not-stable.false in
    screened_is _ _ _ b

pub returns : goal.returns
returns c =
    let b = begun _ _ _ c.valid.ensures c.if-not-valid.false c.screened_layer-there.ensures c.if-not-there.false c.length_out-out.ensures c.if-out.false c.stable.ensures c.if-not-stable.false in
    let at_well = rw (well_back _ (valid_record _ b.passed)) at c.drawdown-well.ensures in
    let a = c.args in
    ap Ok (c.losses_at.ensures ∙ ap (λ l. losses_at a.record.site (e_of l) (a.layer - 1)) c.inflows-es.ensures) ∙ answered _ _ _ b _ at_well
