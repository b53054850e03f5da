-- The answer of many equal steps: laws only, nothing to believe.
--     repeat_14, repeat_none, repeat_refused, repeat_back   the answer by what was judged and run, as it is read back
--     ran_ready       where 14, 7 and 8 let the first step pass, they would let one more pass after the last
use Rattle.std.proofs.Common.{◌≡◌, ℕ, zero, suc, ◌<◌, true, false, ℤ, Ok, Err, sym, ap, ◌∙◌, arith}
use Rattle.refusals.specs.declared.Refusal.{Refusal}
use Rattle.refusals.specs.Refusals.{refusal, given, outcome_of}
use Rattle.record.specs.declared.Record.{Record}
use Rattle.record.specs.Record.{repeated_of}
use Rattle.record.specs.Laws.{refusal_of}
use Rattle.validity.specs.Validity.{valid}
use Rattle.step_rules.specs.Step.{step_refusal, step_of}
use Rattle.step_rules.specs.Laws.{step_outcome}
use Rattle.step_rules.specs.Ready.{Ready, with_course}
use Rattle.step_run.specs.declared.Ran.{Ran}
use Rattle.step_rules.specs.Steps.{steps_of}
use Rattle.step_run.specs.Ran.{ran_of}
use Rattle.step_run.specs.Laws.{onward-refused, steps_ready, steps_course}
use Rattle.step.specs.Repeat.{repeat_of}

module _ (rate dt : ℕ) (r : Record) where
  -- ---- the answer of many steps

  pub repeat_14 : (n : ℕ) → valid r ≡ false → record { outcome = Err Refusal.Record; «record» = r; taken = 0 } ≡ repeat_of r rate dt n
  unfolding repeat_of repeated_of refusal given
  repeat_14 n e = rw e

  repeat_valid : (n : ℕ) → valid r ≡ true → steps_of rate dt 0 n r ≡ repeat_of r rate dt n
  unfolding repeat_of
  repeat_valid n e = rw e

  pub repeat_none : (n : ℕ) → n ≡ 0 → valid r ≡ true → record { outcome = Ok tt; «record» = r; taken = 0 } ≡ repeat_of r rate dt n
  unfolding steps_of repeated_of given
  repeat_none n e ok = rw e (repeat_valid 0 ok)

  -- the first step is refused
  pub repeat_refused : (n : ℕ) → 0 < n → valid r ≡ true → (k : Refusal) → record { outcome = Err k; «record» = r } ≡ step_of r rate dt
      → record { outcome = Err k; «record» = r; taken = 0 } ≡ repeat_of r rate dt n
  unfolding steps_of repeated_of
  repeat_refused zero h ok k e = absurd (omega arith)
  repeat_refused (suc n) h ok k e =
      ap (λ o. record { outcome = o; «record» = r; taken = 0 }) (sym number_is)
      ∙ sym (onward-refused 0 r (steps_of rate dt 1 n (step_of r rate dt).«record») (step_refusal r rate dt) (refusal_of _ k number_is).1)
      ∙ repeat_valid (suc n) ok
    where
      number_is : outcome_of (step_refusal r rate dt) ≡ Err k
      number_is = sym (step_outcome r rate dt) ∙ sym (ap (λ x. x.outcome) e)

  module _ (y : Ready r rate dt) (n : ℕ) {v : Ran} (e : v ≡ ran_of (steps_of rate dt 0 n r)) where
    pub ran_ready : Ready (with_course r v.course v.losses) rate dt
    unfolding ran_of
    ran_ready = rw (e, steps_course rate dt r n) (steps_ready rate dt r y n)

    repeat_ran : record { outcome = v.outcome; «record» = with_course r v.course v.losses; taken = v.taken } ≡ repeat_of r rate dt n
    unfolding ran_of
    repeat_ran = rw (e, steps_course rate dt r n) (repeat_valid n y.passed)

    -- with V of the well, the inflow total and the mark as the machine reads them back
    pub repeat_back : {well inflow mark : ℤ} → well ≡ v.course.well_loss → inflow ≡ v.course.inflow → mark ≡ v.course.mark
        → record {
          outcome = v.outcome;
          «record» = with_course r (record { well_loss = well; well_depth = v.course.well_depth; pumped = v.course.pumped; inflow = inflow; time = v.course.time; mark = mark }) v.losses;
          taken = v.taken;
        } ≡ repeat_of r rate dt n
    repeat_back w i m = rw (w, i, m) repeat_ran
