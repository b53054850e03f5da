-- Steps in a row: laws only, nothing to believe.
--     repeat_judges       `repeat` with no step is taken exactly where 14 lets the record pass
--     repeat_accepted     `repeat` is taken exactly where each of its steps is, from record to record
--     all_accepted_lem        where all of n steps are accepted, each is; accepted_all: the other way round
--     meets_refused       where not all of them are, one is refused; refused_meets: the other way round
--     as_repeat           all of it in what `repeat` answers
use Rattle.std.proofs.Common.{◌≡◌, Bool, ◌&&◌, Result, Ok, Err, refl, sym, ap, ◌∙◌, true≢false, le_of_suc-le-suc, not-suc-le-zero, arith, true, false, ℕ, zero, suc}
use Rattle.refusals.specs.Refusals.{refusal, given, outcome_of}
use Rattle.laws.specs.All.{and_left, and_right}
use Rattle.laws.specs.Rows.{both_hold}
use Rattle.record.specs.declared.Record.{Record}
use Rattle.refusals.specs.declared.Refusal.{Refusal}
use Rattle.record.specs.declared.Repeated.{Repeated}
use Rattle.record.specs.Record.{repeated_of}
use Rattle.validity.specs.Validity.{valid}
use Rattle.step_rules.specs.Step.{step_refusal, step_of}
use Rattle.step_rules.specs.Steps.{onward, steps_of}
use Rattle.step_rules.specs.Laws.{step_outcome}
use Rattle.step.specs.Repeat.{repeat_of}
use Rattle.step.specs.Laws.{repeat_14, repeat_none}
use Rattle.control_choice.specs.Choice.{is_taken, all_accepted}
use Rattle.control_choice.specs.Chooses.{record_after, AllAccepted, MeetsRefused, AsRepeat}

-- ---- an outcome

taken_is : (o : Result Unit Refusal) → is_taken o ≡ true → o ≡ outcome_of 0
unfolding is_taken given
taken_is (Ok tt) e = refl
taken_is (Err k) e = absurd (true≢false (sym e))

is_taken_lem : {o : Result Unit Refusal} → o ≡ outcome_of 0 → is_taken o ≡ true
unfolding is_taken given
is_taken_lem e = rw e

is_refused : {o : Result Unit Refusal} (k : ℕ) → o ≡ outcome_of (suc k) → is_taken o ≡ false
unfolding is_taken given
is_refused k e = rw e

-- one that a number gives, 0 for taken
refused_is : {o : Result Unit Refusal} (m : ℕ) → o ≡ outcome_of m → is_taken o ≡ false → (k : ℕ) × (o ≡ outcome_of (suc k))
unfolding is_taken given
refused_is zero n e = absurd (true≢false (sym (is_taken_lem n) ∙ e))
refused_is (suc k) n e = (k, n)

-- ---- `repeat`

module _ (rate dt : ℕ) where
  pub repeat_judges : (r : Record) → is_taken (repeat_of r rate dt 0).outcome ≡ valid r
  unfolding refusal given
  repeat_judges r = by_test (valid r) refl
    where
      by_test : (t : Bool) → valid r ≡ t → is_taken (repeat_of r rate dt 0).outcome ≡ t
      by_test true e = is_taken_lem (sym (ap (λ x. x.outcome) (repeat_none rate dt r 0 refl e)))
      by_test false e = is_refused 13 (sym (ap (λ x. x.outcome) (repeat_14 rate dt r 0 e)))

  -- the first of some steps, by the number that forbids it
  by_refusal : (k taken : ℕ) (r : Record) (next : Repeated) (t : Bool) {o : Result Unit Refusal} → o ≡ outcome_of k → is_taken next.outcome ≡ t
      → is_taken (onward k r taken next).outcome ≡ (is_taken o && t)
  unfolding onward repeated_of is_taken given
  by_refusal zero taken r next t e more = rw e more
  by_refusal (suc k) taken r next t e more = rw e

  steps_accepted : (n taken : ℕ) (r : Record) → is_taken (steps_of rate dt taken n r).outcome ≡ all_accepted rate dt n r
  unfolding steps_of all_accepted repeated_of given is_taken
  steps_accepted zero taken r = refl
  steps_accepted (suc n) taken r = by_refusal (step_refusal r rate dt) taken r _ _ (step_outcome r rate dt) (steps_accepted n (suc taken) (step_of r rate dt).«record»)

  pub repeat_accepted : (n : ℕ) (r : Record) → valid r ≡ true → is_taken (repeat_of r rate dt n).outcome ≡ all_accepted rate dt n r
  unfolding repeat_of
  repeat_accepted n r e = rw e (steps_accepted n 0 r)

  -- ---- each of n steps

  pub all_accepted_lem : (n : ℕ) (r : Record) → all_accepted rate dt n r ≡ true → AllAccepted r dt n rate
  unfolding all_accepted record_after
  all_accepted_lem zero r e k h = absurd (not-suc-le-zero h)
  all_accepted_lem (suc n) r e zero h = taken_is _ (and_left _ (all_accepted rate dt n (step_of r rate dt).«record») e)
  all_accepted_lem (suc n) r e (suc k) h = all_accepted_lem n (step_of r rate dt).«record» (and_right (is_taken (step_of r rate dt).outcome) _ e) k (le_of_suc-le-suc h)

  pub accepted_all : (n : ℕ) (r : Record) → AllAccepted r dt n rate → all_accepted rate dt n r ≡ true
  unfolding all_accepted record_after
  accepted_all zero r a = refl
  accepted_all (suc n) r a = both_hold (is_taken_lem (a 0 (omega arith))) (accepted_all n (step_of r rate dt).«record» (λ k h. a (suc k) (omega arith)))

  pub meets_refused : (n : ℕ) (r : Record) → all_accepted rate dt n r ≡ false → MeetsRefused r dt n rate
  unfolding all_accepted record_after
  meets_refused zero r e = absurd (true≢false e)
  meets_refused (suc n) r e = by_first (is_taken (step_of r rate dt).outcome) refl e (meets_refused n (step_of r rate dt).«record»)
    where
      after : Record
      after = (step_of r rate dt).«record»

      by_first : (t : Bool) → is_taken (step_of r rate dt).outcome ≡ t → (t && all_accepted rate dt n after) ≡ false
          → (all_accepted rate dt n after ≡ false → MeetsRefused after dt n rate) → MeetsRefused r dt (suc n) rate
      by_first true f e more = let m = more e in record { steps = suc m.steps; within = omega (arith, m.within); less = m.less; refused = m.refused }
      by_first false f e more =
          let x = refused_is (step_refusal r rate dt) (step_outcome r rate dt) f in
          record { steps = 0; within = omega arith; less = x.0; refused = x.1 }

  pub refused_meets : (n : ℕ) (r : Record) → MeetsRefused r dt n rate → all_accepted rate dt n r ≡ false
  refused_meets n r m = fails (all_accepted rate dt n r) refl
    where
      fails : (t : Bool) → all_accepted rate dt n r ≡ t → t ≡ false
      fails true e = absurd (true≢false (sym (is_taken_lem (all_accepted_lem n r e m.steps m.within)) ∙ is_refused m.less m.refused))
      fails false e = refl

  -- ---- in what `repeat` answers

  -- its outcome is that of a number
  onward_number : (k taken : ℕ) (r : Record) (next : Repeated) → (m : ℕ) × (next.outcome ≡ outcome_of m) → (m : ℕ) × ((onward k r taken next).outcome ≡ outcome_of m)
  unfolding onward repeated_of
  onward_number zero taken r next more = more
  onward_number (suc k) taken r next more = (suc k, refl)

  steps_number : (n taken : ℕ) (r : Record) → (m : ℕ) × ((steps_of rate dt taken n r).outcome ≡ outcome_of m)
  unfolding steps_of repeated_of
  steps_number zero taken r = (0, refl)
  steps_number (suc n) taken r = onward_number (step_refusal r rate dt) taken r _ (steps_number n (suc taken) (step_of r rate dt).«record»)

  repeat_number : (n : ℕ) (r : Record) → valid r ≡ true → (m : ℕ) × ((repeat_of r rate dt n).outcome ≡ outcome_of m)
  unfolding repeat_of
  repeat_number n r e = rw e (steps_number n 0 r)

  pub as_repeat : (n : ℕ) (r : Record) → valid r ≡ true → AsRepeat r dt n rate
  as_repeat n r ok = record {
    taken = λ a. taken_is _ (repeat_accepted n r ok ∙ accepted_all n r a);
    accepted = λ e. all_accepted_lem n r (sym (repeat_accepted n r ok) ∙ is_taken_lem e);
    ended = λ m. refused_is (repeat_number n r ok).0 (repeat_number n r ok).1 (repeat_accepted n r ok ∙ refused_meets n r m);
    refused = λ k e. meets_refused n r (sym (repeat_accepted n r ok) ∙ is_refused k e);
  }
