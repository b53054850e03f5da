-- At each return the tests on the way give the definition's answer.
use Rattle.std.proofs.Common.{◌≡◌, refl, sym, ap, ◌∙◌, not, Ok, rules}
use Rattle.std.proofs.lemmas.List.{set-get_or}
use Rattle.refusals.specs.Refusals.{refusal, given}
use Rattle.laws.specs.Refusal.First.{none, hit, skip}
use Rattle.readings.specs.Readings.{same_of}
use Rattle.readings.specs.Laws.{answered}
use Rattle.read_same.proofs.Derived.{derived, record_is}
use Rattle.read_same.proofs.same.Goals as goal

pub returns-then-not-valid : goal.returns-then-not-valid
unfolding same_of given refusal
returns-then-not-valid c = answered _ (hit (ap not (sym c.valid.ensures ∙ c.if-not-valid.true))) refl

pub returns-then-not-valid-2 : goal.returns-then-not-valid-2
unfolding same_of given refusal
returns-then-not-valid-2 c =
    answered _ (skip (ap not (sym c.valid.ensures ∙ c.if-not-valid.false)) (hit (ap not (sym c.valid-2.ensures ∙ c.if-not-valid-2.true)))) refl

pub returns : goal.returns
unfolding same_of given
returns c =
    let compared : c.eq.result ≡ derived c.args.first c.args.second = search (rules, set-get_or) in
    answered _ (skip (ap not (sym c.valid.ensures ∙ c.if-not-valid.false)) (skip (ap not (sym c.valid-2.ensures ∙ c.if-not-valid-2.false)) none))
    (ap Ok (compared ∙ sym (record_is c.args.first c.args.second)))
