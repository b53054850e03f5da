-- The time after a run: laws only, nothing to believe.
--     run_time     each step is at most 10^9 µs
use Rattle.std.specs.Prelude.{◌≡◌, refl, Bool, true, false, not, cond, ltb, eqb, ℕ, zero, suc, ◌+◌, ◌*◌, ◌≤◌}
use Rattle.std.proofs.Common.{arith}
use borrow.Author.Tests.{ltb-false}
use Rattle.laws.specs.Refusal.{passed}
use Rattle.laws.specs.Sums.{or_no}
use Rattle.limits.specs.Limits.{rate_limit, length_limit}
use Rattle.network.specs.Network.{moved, length_out, rate_or_length_out, step_tests}
use Rattle.record.specs.declared.Record.{Record}
use Rattle.record.specs.declared.Repeated.{Repeated}
use Rattle.record.specs.Record.{state_of, answer_of, repeated_of}
use Rattle.validity.specs.Validity.{valid}
use Rattle.step_rules.specs.Step.{with_state, step_refusal, step_of}
use Rattle.step_rules.specs.Steps.{onward, steps_of}
use Rattle.step.specs.Repeat.{repeat_of}
use Rattle.listing_runs.specs.Runs.{run_of}

answer_time : (b m : ℕ) (old new : Record) → old.time ≤ b → (m ≡ 0 → new.time ≤ b) → (answer_of m old new).«record».time ≤ b
unfolding answer_of
answer_time b zero old new o n = n refl
answer_time b (suc m) old new o n = o

onward_time : (b k taken : ℕ) (r : Record) (next : Repeated) → r.time ≤ b → next.«record».time ≤ b → (onward k r taken next).«record».time ≤ b
unfolding onward repeated_of
onward_time b zero taken r next h p = p
onward_time b (suc k) taken r next h p = h

module _ (rate dt : ℕ) where
  step_length : (r : Record) → step_refusal r rate dt ≡ 0 → dt ≤ length_limit
  unfolding step_refusal step_tests rate_or_length_out length_out
  step_length r e =
      let seven = (passed (rate_or_length_out rate dt) 6 _ (passed (not (valid r)) 13 _ e).1).0 in
      ltb-false length_limit dt (or_no (eqb dt 0) (ltb length_limit dt) (or_no (ltb rate_limit rate) (length_out dt) seven).1).1

  step_time : (b : ℕ) (r : Record) → r.time ≤ b → (step_of r rate dt).«record».time ≤ b + length_limit
  unfolding step_of with_state moved state_of
  step_time b r h = answer_time (b + length_limit) (step_refusal r rate dt) r _ (omega arith) (λ e. omega (arith, step_length r e))

  steps_time : (n taken b : ℕ) (r : Record) → r.time ≤ b → (steps_of rate dt taken n r).«record».time ≤ b + n * length_limit
  unfolding steps_of repeated_of
  steps_time zero taken b r h = omega arith
  steps_time (suc n) taken b r h =
      let more = steps_time n (suc taken) (b + length_limit) (step_of r rate dt).«record» (step_time b r h) in
      onward_time (b + suc n * length_limit) (step_refusal r rate dt) taken r (steps_of rate dt (suc taken) n (step_of r rate dt).«record») (omega arith) (omega (arith, more))

  pub run_time : (n b : ℕ) (r : Record) → r.time ≤ b → (run_of r rate dt n).«record».time ≤ b + n * length_limit
  unfolding run_of repeat_of repeated_of
  run_time n b r h = by_test (valid r)
    where
      by_test : (t : Bool) → (cond t (steps_of rate dt 0 n r) (repeated_of 14 r 0)).«record».time ≤ b + n * length_limit
      by_test true = steps_time n 0 b r h
      by_test false = omega arith
