-- At each return the tests on the way give the refusal, or none.
use Rattle.std.proofs.Common.{◌≡◌, sym, ap, ◌∙◌, to_z-of_z, SFits, w64, rules}
use Rattle.laws.specs.Refusal.{first_is}
use Rattle.laws.specs.Refusal.First.{none, hit, skip}
use Rattle.refusals.specs.Refusals.{refusal, given, outcome_of}
use Rattle.step_judged.specs.Course.{too_deep}
use Rattle.step_judged.proofs.too_deep.Goals as goal

pub returns-then-well_too_deep : goal.returns-then-well_too_deep
unfolding too_deep refusal given
returns-then-well_too_deep c =
    let fits : SFits w64 c.args.well_loss = search rules in
    let well_is = rw (to_z-of_z fits) at c.well_too_deep.ensures in
    let number : 10 ≡ too_deep c.args.terms c.args.well_loss c.args.storages.now c.args.losses.now = first_is (hit (sym well_is ∙ c.if-well_too_deep.true)) in
    ap outcome_of number

pub returns-then-table_too_deep : goal.returns-then-table_too_deep
unfolding too_deep refusal given
returns-then-table_too_deep c =
    let fits : SFits w64 c.args.well_loss = search rules in
    let well_is = rw (to_z-of_z fits) at c.well_too_deep.ensures in
    let number : 11 ≡ too_deep c.args.terms c.args.well_loss c.args.storages.now c.args.losses.now =
    first_is (skip (sym well_is ∙ c.if-well_too_deep.false) (hit (sym c.table_too_deep.ensures ∙ c.if-table_too_deep.true))) in
    ap outcome_of number

pub returns : goal.returns
unfolding too_deep given
returns c =
    let fits : SFits w64 c.args.well_loss = search rules in
    let well_is = rw (to_z-of_z fits) at c.well_too_deep.ensures in
    let number : 0 ≡ too_deep c.args.terms c.args.well_loss c.args.storages.now c.args.losses.now =
    first_is (skip (sym well_is ∙ c.if-well_too_deep.false) (skip (sym c.table_too_deep.ensures ∙ c.if-table_too_deep.false) none)) in
    ap outcome_of number
