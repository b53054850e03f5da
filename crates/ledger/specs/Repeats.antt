-- A call of `repeat` leaves the record that so many step calls leave, so that what is promised of every list of calls holds of runs made with it.
-- Laws only, nothing to believe.
--     still             a step that leaves the record leaves it however often
--     repeated          the record that `repeat` leaves
use Rattle.std.proofs.Common.{◌≡◌, ℕ, zero, suc, Bool, true, false, cond, replicate, sym, refl, ap, ◌∙◌, arith}
use Rattle.record.specs.declared.Record.{Record}
use Rattle.record.specs.Record.{repeated_of}
use Rattle.validity.specs.Validity.{valid}
use Rattle.step_rules.specs.Step.{step_refusal, step_of}
use Rattle.step_rules.specs.Laws.{step_kept}
use Rattle.step_rules.proofs.Laws.{refused_14}
use Rattle.record.specs.declared.Repeated.{Repeated}
use Rattle.step_rules.specs.Steps.{onward, steps_of}
use Rattle.step.specs.Repeat.{repeat_of}
use Rattle.ledger.specs.Calls.{step, left, left_by_all}

module _ (rate dt : ℕ) where
  still : (n : ℕ) (r : Record) → (step_of r rate dt).«record» ≡ r → left_by_all r (replicate n (step rate dt)) ≡ r
  unfolding left_by_all left
  still zero r e = refl
  still (suc n) r e = ap (λ q. left_by_all q (replicate n (step rate dt))) e ∙ still n r e

  by_steps : (n taken : ℕ) (r : Record) → (steps_of rate dt taken n r).«record» ≡ left_by_all r (replicate n (step rate dt))
  unfolding steps_of left_by_all left onward repeated_of
  by_steps zero taken r = refl
  by_steps (suc n) taken r = by_number (by_steps n (suc taken) (step_of r rate dt).«record») (step_refusal r rate dt) refl
    where
      after : Record
      after = (step_of r rate dt).«record»

      by_number : (steps_of rate dt (suc taken) n after).«record» ≡ left_by_all after (replicate n (step rate dt)) → (k : ℕ) → step_refusal r rate dt ≡ k
          → (onward k r taken (steps_of rate dt (suc taken) n after)).«record» ≡ left_by_all after (replicate n (step rate dt))
      by_number more zero e = more
      by_number more (suc k) e =
          let kept : after ≡ r = step_kept r rate dt (λ z. omega (arith, e, z)) in
          sym (ap (λ q. left_by_all q (replicate n (step rate dt))) kept ∙ still n r kept)

  pub repeated : (n : ℕ) (r : Record) → (repeat_of r rate dt n).«record» ≡ left_by_all r (replicate n (step rate dt))
  unfolding repeat_of repeated_of
  repeated n r = by_test (valid r) refl
    where
      by_test : (t : Bool) → valid r ≡ t
          → (let x : Repeated = cond t (steps_of rate dt 0 n r) (repeated_of 14 r 0) in x.«record» ≡ left_by_all r (replicate n (step rate dt)))
      by_test true e = by_steps n 0 r
      by_test false e = sym (still n r (sym (ap (λ a. a.«record») (refused_14 r rate dt e))))
