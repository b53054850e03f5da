-- `read_drawdown::drawdown` meets its contract: the tests on the way give the refusals, and a place's loss and storage its drawdown.
use Rattle.std.proofs.Common.{refl, sym, ap, ◌∙◌, not, arith, Ok}
use Rattle.refusals.specs.Refusals.{refusal, given}
use Rattle.laws.specs.Refusal.First.{none, hit, skip}
use Rattle.laws.specs.Signed.{read, small_fits}
use Rattle.readings.specs.Readings.{drawdown_of}
use Rattle.readings.specs.Laws.{answered}
use Rattle.read_drawdown.proofs.Depth.{named_end, depth_small}
use Rattle.read_drawdown.proofs.drawdown.Goals as goal

pub returns-then-not-valid : goal.returns-then-not-valid
unfolding drawdown_of given refusal
returns-then-not-valid c = answered _ (hit (ap not (sym c.valid.ensures ∙ c.if-not-valid.true))) refl

pub returns-then-not-is_named : goal.returns-then-not-is_named
unfolding drawdown_of given refusal
returns-then-not-is_named c =
    answered _ (skip (ap not (sym c.valid.ensures ∙ c.if-not-valid.false)) (hit (ap not (sym c.is_named.ensures ∙ c.if-not-is_named.true)))) refl

pub drawdown_at-requires : goal.drawdown_at-requires
drawdown_at-requires c =
    (sym c.valid.ensures ∙ c.if-not-valid.false, named_end _ (sym c.valid.ensures ∙ c.if-not-valid.false) _ (sym c.is_named.ensures ∙ c.if-not-is_named.false))

pub overflow_cast-result : goal.overflow_cast-result
overflow_cast-result c =
    small_fits _ (depth_small _ (sym c.valid.ensures ∙ c.if-not-valid.false) _ (sym c.is_named.ensures ∙ c.if-not-is_named.false) c.drawdown_at.ensures) (omega arith)

pub returns : goal.returns
unfolding drawdown_of given
returns c =
    let ok = sym c.valid.ensures ∙ c.if-not-valid.false in
    let named = sym c.is_named.ensures ∙ c.if-not-is_named.false in
    let small = depth_small _ ok _ named c.drawdown_at.ensures in
    answered _ (skip (ap not ok) (skip (ap not named) none)) (ap Ok (read (omega (arith, small)) ∙ c.drawdown_at.ensures))
