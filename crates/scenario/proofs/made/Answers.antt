-- `scenario::made` meets its contract: each return is the first condition that holds.
use Rattle.std.proofs.Common.{◌≡◌, false, sym, ap, ap₂, ◌∙◌, ◌&&◌}
use Rattle.refusals.specs.Refusals.{refusal}
use Rattle.refusals.specs.declared.Refusal.{Refusal}
use Rattle.std.specs.Option.{ok_or}
use Rattle.site.specs.Site.{numbers_hold}
use Rattle.scenario.proofs.Tests.{refused_by, three, four, five, last_is}
use Rattle.scenario.proofs.made.Goals as goal
use Rattle.scenario.proofs.made.Goals.{then-not-numbers_hold-via-then-not-numbers_hold, then-not-numbers_hold-via-else-not-numbers_hold+then-not-repeats}

pub returns-then-not-numbers_hold : goal.returns-then-not-numbers_hold
unfolding refusal
returns-then-not-numbers_hold c =
    let e : (numbers_hold c.args.site && c.args.repeats) ≡ false =
    elim c.then-not-numbers_hold.branch [
      | then-not-numbers_hold-via-then-not-numbers_hold w ↦ ap (λ t. t && c.args.repeats) (sym c.numbers_hold.ensures ∙ w.if-not-numbers_hold.true)
      | then-not-numbers_hold-via-else-not-numbers_hold+then-not-repeats w ↦ ap₂ ◌&&◌ (sym c.numbers_hold.ensures ∙ w.if-not-numbers_hold.false) w.if-not-repeats.true
    ] in
    refused_by _ (three _ _ e)

pub returns-then-not-radii_hold : goal.returns-then-not-radii_hold
unfolding refusal
returns-then-not-radii_hold c =
    refused_by _
    (four _ _ (ap₂ ◌&&◌ (sym c.numbers_hold.ensures ∙ c.if-not-numbers_hold.false) c.if-not-repeats.false)
    (sym c.radii_hold.ensures ∙ c.if-not-radii_hold.true))

pub returns-then-not-screen_holds : goal.returns-then-not-screen_holds
unfolding refusal
returns-then-not-screen_holds c =
    refused_by _
    (five _ _ (ap₂ ◌&&◌ (sym c.numbers_hold.ensures ∙ c.if-not-numbers_hold.false) c.if-not-repeats.false)
    (sym c.radii_hold.ensures ∙ c.if-not-radii_hold.false)
    (sym c.screen_holds.ensures ∙ c.if-not-screen_holds.true))

pub returns : goal.returns
unfolding refusal
returns c =
    c.ok_or.ensures.value
    ∙ ap (λ o. ok_or o Refusal.Coefficients) c.coefficients_of.ensures
    ∙ last_is _ _ (ap₂ ◌&&◌ (sym c.numbers_hold.ensures ∙ c.if-not-numbers_hold.false) c.if-not-repeats.false)
    (sym c.radii_hold.ensures ∙ c.if-not-radii_hold.false)
    (sym c.screen_holds.ensures ∙ c.if-not-screen_holds.false)
