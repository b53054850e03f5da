-- One step of many equal ones is the step.
use Rattle.std.proofs.Common.{◌≡◌, ℕ, zero, suc, Bool, true, false, cond, refl}
use Rattle.refusals.specs.Refusals.{refusal, given}
use Rattle.record.specs.declared.Record.{Record}
use Rattle.record.specs.Record.{answer_of, repeated_of}
use Rattle.validity.specs.Validity.{valid}
use Rattle.step_rules.specs.Step.{step_refusal, step_of}
use Rattle.step_rules.proofs.Laws.{refused_14}
use Rattle.step_rules.specs.Steps.{onward, steps_of}
use Rattle.step.specs.Repeat.{repeat_of, answered}

by_number : (k : ℕ) (r next : Record) → answered (onward k r 0 (repeated_of 0 (answer_of k r next).«record» 1)) ≡ answer_of k r next
unfolding onward repeated_of answer_of
by_number zero r next = refl
by_number (suc k) r next = refl

module _ (r : Record) (rate dt : ℕ) where
  first_step : answered (steps_of rate dt 0 1 r) ≡ step_of r rate dt
  unfolding steps_of step_of
  first_step = by_number (step_refusal r rate dt) r _

  pub one_step : answered (repeat_of r rate dt 1) ≡ step_of r rate dt
  unfolding repeat_of repeated_of refusal given
  one_step = by_test (valid r) refl
    where
      by_test : (t : Bool) → valid r ≡ t → answered (cond t (steps_of rate dt 0 1 r) (repeated_of 14 r 0)) ≡ step_of r rate dt
      by_test true e = first_step
      by_test false e = refused_14 r rate dt e
