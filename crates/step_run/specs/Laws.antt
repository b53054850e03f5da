-- Many equal steps, one after the other: laws only, nothing to believe.
--     ready_step      validity, 7 and 8 cannot change along the way: where 14, 7 and 8 let a step pass, so they do the next one
--     steps_keep      what one step keeps, many do; steps_ready: so 14, 7 and 8 let a further step pass
--     steps_course    only the course and the losses of a record change
--     onward-refused  what follows a refusal
--     ran_none, ran_taken, ran_refused   the steps of a run, one after the other
use Rattle.std.proofs.Common.{◌≡◌, List, ℤ, Ok, Err, refl, ap, sym, subst, ◌∙◌, true, ℕ, zero, suc, ◌+◌, ◌-◌, ◌<◌, arith}
use Rattle.refusals.specs.declared.Refusal.{Refusal}
use Rattle.refusals.specs.Refusals.{given, outcome_of}
use Rattle.network.specs.Network.{moved, stable}
use Rattle.network.specs.Grid.{network_of}
use Rattle.record.specs.declared.Record.{Record}
use Rattle.record.specs.declared.Answer.{Answer}
use Rattle.record.specs.Record.{grid_of, state_of, answer_of, repeated_of}
use Rattle.record.specs.Laws.{refusal_of, taken_of}
use Rattle.validity.specs.Validity.{valid}
use Rattle.step_judged.specs.declared.Advanced.{Advanced}
use Rattle.step_rules.specs.Step.{with_state, step_refusal, step_of}
use Rattle.step_rules.specs.Ready.{Ready, course_of, with_course}
use Rattle.step_rules.specs.Laws.{step_outcome, step_kept, same_network, step_valid}
use Rattle.record.specs.declared.Repeated.{Repeated}
use Rattle.step_rules.specs.Steps.{onward, steps_of}
use Rattle.step_run.specs.Ran.{ran_of}

-- ---- one step

module _ (r : Record) (rate dt : ℕ) where
  abbrev next : Record
  next = with_state r (moved (network_of (grid_of r)) (state_of r) rate dt)

  step_course : with_course r (course_of (step_of r rate dt).«record») (step_of r rate dt).«record».losses ≡ (step_of r rate dt).«record»
  unfolding step_of answer_of with_state
  step_course = by_number (step_refusal r rate dt)
    where
      by_number : (n : ℕ) → with_course r (course_of (answer_of n r next).«record») (answer_of n r next).«record».losses ≡ (answer_of n r next).«record»
      by_number zero = refl
      by_number (suc n) = refl

  step_keeps_valid : valid r ≡ true → valid (step_of r rate dt).«record» ≡ true
  unfolding step_of answer_of
  step_keeps_valid ok = by_number (step_refusal r rate dt) refl
    where
      by_number : (n : ℕ) → step_refusal r rate dt ≡ n → valid (answer_of n r next).«record» ≡ true
      by_number zero e = step_valid r rate dt ok e
      by_number (suc n) e = ok

  ready_step : Ready r rate dt → Ready (step_of r rate dt).«record» rate dt
  unfolding step_of answer_of
  ready_step y = record { passed = step_keeps_valid y.passed; sized = y.sized; steady = by_number (step_refusal r rate dt) }
    where
      by_number : (n : ℕ) → stable (network_of (grid_of (answer_of n r next).«record»)) dt ≡ true
      by_number zero = rw (same_network r (moved (network_of (grid_of r)) (state_of r) rate dt)) y.steady
      by_number (suc n) = y.steady

-- ---- many steps

module _ (taken : ℕ) (r : Record) (next : Repeated) where
  onward_keeps : (P : Record → Type 0) (k : ℕ) → P r → P next.«record» → P (onward k r taken next).«record»
  unfolding onward repeated_of
  onward_keeps P zero here there = there
  onward_keeps P (suc k) here there = here

  onward_taken : (k : ℕ) → k ≡ 0 → onward k r taken next ≡ next
  unfolding onward
  onward_taken k e = rw (e, onward)

  pub onward-refused : (k : ℕ) → (k ≡ 0 → ⊥) → onward k r taken next ≡ repeated_of k r taken
  unfolding onward
  onward-refused zero z = absurd (z refl)
  onward-refused (suc k) z = refl

module _ (rate dt : ℕ) where
  steps_keep : (P : Record → Type 0) → ((q : Record) → P q → P (step_of q rate dt).«record») → (taken n : ℕ) (r : Record) → P r → P (steps_of rate dt taken n r).«record»
  unfolding steps_of repeated_of
  steps_keep P keeps taken zero r h = h
  steps_keep P keeps taken (suc n) r h =
      onward_keeps taken r (steps_of rate dt (suc taken) n (step_of r rate dt).«record») P (step_refusal r rate dt) h
      (steps_keep P keeps (suc taken) n (step_of r rate dt).«record» (keeps r h))

  module _ (r : Record) where
    pub steps_ready : Ready r rate dt → (n : ℕ) → Ready (steps_of rate dt 0 n r).«record» rate dt
    steps_ready y n = steps_keep (λ q. Ready q rate dt) (λ q h. ready_step q rate dt h) 0 n r y

    pub steps_course : (n : ℕ) → with_course r (course_of (steps_of rate dt 0 n r).«record») (steps_of rate dt 0 n r).«record».losses ≡ (steps_of rate dt 0 n r).«record»
    steps_course n = steps_keep (λ q. with_course r (course_of q) q.losses ≡ q) (λ q h. ap (λ p. with_course p (course_of (step_of q rate dt).«record») (step_of q rate dt).«record».losses) h ∙ step_course q rate dt) 0 n r refl

    -- ---- the steps of a run, `taken` of them before

    pub ran_none : (taken n : ℕ) → n ≡ 0 → ran_of (steps_of rate dt taken n r) ≡ record { outcome = Ok tt; course = course_of r; losses = r.losses; taken = taken }
    unfolding steps_of ran_of repeated_of given
    ran_none taken n e = rw e

    -- a step of which the outcome, the course and the losses are known
    module _ (v : Advanced) {ls : List ℤ} (e : ◌≡◌ {A = Answer} (record { outcome = v.outcome; «record» = with_course r v.course ls }) (step_of r rate dt)) where
      pub ready_next : Ready r rate dt → Ready (with_course r v.course ls) rate dt
      ready_next y = subst (λ q. Ready q rate dt) (sym (ap (λ x. x.«record») e)) (ready_step r rate dt y)

      number_is : outcome_of (step_refusal r rate dt) ≡ v.outcome
      number_is = sym (step_outcome r rate dt) ∙ sym (ap (λ x. x.outcome) e)

      module _ (taken n : ℕ) (h : 0 < n) where
        pub ran_taken : v.outcome ≡ Ok tt → steps_of rate dt (taken + 1) (n - 1) (with_course r v.course ls) ≡ steps_of rate dt taken n r
        unfolding steps_of
        ran_taken t = by_count n h
          where
            by_count : (n : ℕ) → 0 < n → steps_of rate dt (taken + 1) (n - 1) (with_course r v.course ls) ≡ steps_of rate dt taken n r
            by_count zero h = absurd (omega arith)
            by_count (suc n) h =
                let k : suc n - 1 ≡ n = omega arith in
                let j : taken + 1 ≡ suc taken = omega arith in
                rw (k, j, ap (λ x. x.«record») e) (sym (onward_taken taken r (steps_of rate dt (suc taken) n (step_of r rate dt).«record») (step_refusal r rate dt) (taken_of _ (number_is ∙ t))))

        pub ran_refused : course_of (with_course r v.course ls) ≡ v.course → (k : Refusal) → v.outcome ≡ Err k → record { outcome = Err k; course = v.course; losses = ls; taken = taken } ≡ ran_of (steps_of rate dt taken n r)
        unfolding steps_of ran_of repeated_of
        ran_refused c k t = by_count n h
          where
            some : step_refusal r rate dt ≡ 0 → ⊥
            some = (refusal_of _ k (number_is ∙ t)).1

            same : with_course r v.course ls ≡ r
            same = ap (λ x. x.«record») e ∙ step_kept r rate dt some

            by_count : (n : ℕ) → 0 < n → record { outcome = Err k; course = v.course; losses = ls; taken = taken } ≡ ran_of (steps_of rate dt taken n r)
            by_count zero h = absurd (omega arith)
            by_count (suc n) h =
                ap (λ x. record { outcome = Err k; course = x; losses = ls; taken = taken }) (sym c)
                ∙ ap (λ q. record { outcome = Err k; course = course_of q; losses = q.losses; taken = taken }) same
                ∙ ap (λ o. record { outcome = o; course = course_of r; losses = r.losses; taken = taken }) (sym (number_is ∙ t))
                ∙ ap ran_of (sym (onward-refused taken r (steps_of rate dt (suc taken) n (step_of r rate dt).«record») (step_refusal r rate dt) some))
