-- At each return what was judged and run gives the definition's answer.
use Rattle.std.proofs.Common.{◌≡◌, sym, ◌∙◌, true, false, arith}
use Rattle.refusals.specs.declared.Refusal.{Refusal}
use Rattle.network.specs.Network.{rate_or_length_out}
use Rattle.validity.specs.Validity.{valid}
use Rattle.step_rules.proofs.Laws.{refused_7, refused_8, well_back, inflow_back, mark_back}
use Rattle.step_rules.specs.Ready.{Ready}
use Rattle.step.specs.Laws.{repeat_14, repeat_none, repeat_refused, ran_ready, repeat_back}
use Rattle.step.proofs.repeat.Goals as goal

pub returns-then-not-valid : goal.returns-then-not-valid
returns-then-not-valid c = c.unmoved.ensures ∙ repeat_14 c.args.rate c.args.dt c.args.«record» c.args.steps (sym c.valid.ensures ∙ c.if-not-valid.true)

pub returns-then-steps-eq0 : goal.returns-then-steps-eq0
returns-then-steps-eq0 c =
    c.unmoved-then-steps-eq0.ensures ∙ repeat_none c.args.rate c.args.dt c.args.«record» c.args.steps c.if-steps-eq0.true (sym c.valid.ensures ∙ c.if-not-valid.false)

pub returns-then-rate_or_length_out : goal.returns-then-rate_or_length_out
returns-then-rate_or_length_out c =
    let passed : valid c.args.«record» ≡ true = sym c.valid.ensures ∙ c.if-not-valid.false in
    c.unmoved-then-rate_or_length_out.ensures
    ∙ repeat_refused c.args.rate c.args.dt c.args.«record» c.args.steps (omega (arith, c.if-steps-eq0.false)) passed Refusal.RateOrLength
    (refused_7 _ _ _ passed (sym c.rate_or_length_out.ensures ∙ c.if-rate_or_length_out.true))

pub returns-then-not-stable : goal.returns-then-not-stable
returns-then-not-stable c =
    let passed : valid c.args.«record» ≡ true = sym c.valid.ensures ∙ c.if-not-valid.false in
    let sized : rate_or_length_out c.args.rate c.args.dt ≡ false = sym c.rate_or_length_out.ensures ∙ c.if-rate_or_length_out.false in
    c.unmoved-then-not-stable.ensures
    ∙ repeat_refused c.args.rate c.args.dt c.args.«record» c.args.steps (omega (arith, c.if-steps-eq0.false)) passed Refusal.Unstable
    (refused_8 _ _ _ passed sized (sym c.stable.ensures ∙ c.if-not-stable.true))

pub returns : goal.returns
returns c =
    let y : Ready c.args.«record» c.args.rate c.args.dt = record {
      passed = sym c.valid.ensures ∙ c.if-not-valid.false;
      sized = sym c.rate_or_length_out.ensures ∙ c.if-rate_or_length_out.false;
      steady = sym c.stable.ensures ∙ c.if-not-stable.false;
    } in
    let last = ran_ready c.args.rate c.args.dt c.args.«record» y c.args.steps c.run-ran.ensures in
    repeat_back c.args.rate c.args.dt c.args.«record» y c.args.steps c.run-ran.ensures (well_back _ _ _ last) (inflow_back _ _ _ last) (mark_back _ _ _ last)
