-- Bounds on a run: laws only, nothing to believe.
--     Bounded          a bound on the time of an answer and on the number of its refusal
--     run_bounded      that of a run: each step is at most 10^9 µs, and no number is above 14
use Rattle.std.specs.Prelude.{◌≡◌, refl, Bool, true, false, not, cond, ◌∷◌, ℕ, zero, suc, ◌+◌, ◌*◌, ◌≤◌, Result, Err}
use Rattle.std.proofs.Common.{arith}
use Rattle.laws.specs.Lists.{every}
use Rattle.laws.specs.Refusal.{first_most}
use Rattle.limits.specs.Limits.{length_limit}
use Rattle.refusals.specs.declared.Refusal.{Refusal}
use Rattle.refusals.specs.Refusals.{refusal_number, outcome_of}
use Rattle.refusals.specs.Laws.{number_is, refusal_given}
use Rattle.network.specs.Network.{step_tests}
use Rattle.network.specs.Grid.{network_of}
use Rattle.record.specs.declared.Record.{Record}
use Rattle.record.specs.declared.Answer.{Answer}
use Rattle.record.specs.declared.Repeated.{Repeated}
use Rattle.record.specs.Record.{grid_of, state_of, repeated_of}
use Rattle.validity.specs.Validity.{valid}
use Rattle.step_rules.specs.Step.{step_refusal, step_of}
use Rattle.step_rules.specs.Steps.{onward, steps_of}
use Rattle.step.specs.Repeat.{repeat_of}
use Rattle.listing_runs.specs.Runs.{run_of}
use Rattle.listing_runs.specs.Time.{run_time}

-- the largest number of a refusal in 01
abbrev pub most_refusal : ℕ
most_refusal = 14

-- a refusal, if there is one, has a number of 01
abbrev pub Numbered : Result Unit Refusal → Type 0
Numbered o = (k : Refusal) → o ≡ Err k → refusal_number k ≤ most_refusal

-- a bound on the time and on the number of a refusal
pub record Bounded (b : ℕ) (a : Answer) : Type 0 where
  pub time : a.«record».time ≤ b
  pub number : Numbered a.outcome

pub numbered : (m : ℕ) → m ≤ most_refusal → Numbered (outcome_of m)
numbered zero h k e = absurd ((refusal_given 0 tt e).1 refl)
numbered (suc m) h k e =
    let n = number_is (suc m) (omega arith) h in
    rw (← (refusal_given (suc m) tt e).0) (omega (arith, n, h))

onward_numbered : (m taken : ℕ) (r : Record) (next : Repeated) → m ≤ most_refusal → Numbered next.outcome → Numbered (onward m r taken next).outcome
unfolding onward repeated_of
onward_numbered zero taken r next h p = p
onward_numbered (suc m) taken r next h p = numbered (suc m) h

module _ (rate dt : ℕ) where
  step_number : (r : Record) → step_refusal r rate dt ≤ most_refusal
  unfolding step_refusal step_tests every
  step_number r = first_most most_refusal ((not (valid r), 14) ∷ step_tests (network_of (grid_of r)) (state_of r) rate dt) refl

  steps_numbered : (n taken : ℕ) (r : Record) → Numbered (steps_of rate dt taken n r).outcome
  unfolding steps_of repeated_of
  steps_numbered zero taken r = numbered 0 (omega arith)
  steps_numbered (suc n) taken r =
      onward_numbered (step_refusal r rate dt) taken r (steps_of rate dt (suc taken) n (step_of r rate dt).«record») (step_number r) (steps_numbered n (suc taken) (step_of r rate dt).«record»)

  run_numbered : (n : ℕ) (r : Record) → Numbered (run_of r rate dt n).outcome
  unfolding run_of repeat_of repeated_of
  run_numbered n r = by_test (valid r)
    where
      by_test : (t : Bool) → Numbered (cond t (steps_of rate dt 0 n r) (repeated_of 14 r 0)).outcome
      by_test true = steps_numbered n 0 r
      by_test false = numbered 14 (omega arith)

  pub run_bounded : (n b : ℕ) (r : Record) → r.time ≤ b → Bounded (b + n * length_limit) (run_of r rate dt n)
  run_bounded n b r h = record { time = run_time rate dt n b r h; number = run_numbered n r }
