-- The answer by the number that `step` gives.
--     refused_number      the number that `step` has given; taken_number: where it takes the step; other_number: one that it has not given
--     answer_14, answer_8, answer_10, answer_11, answer_nothing
use Rattle.std.proofs.Common.{◌≡◌, refl, sym, ap, ◌∙◌, ℕ, ◌<◌, ◌≤◌, arith, Result, Ok, Err, ne_eqb}
use Rattle.refusals.specs.Refusals.{refusal, outcome_of}
use Rattle.refusals.specs.Laws.{same_number}
use Rattle.network.specs.Network.{losses_after}
use Rattle.network.specs.Grid.{network_of}
use Rattle.record.specs.declared.Record.{Record}
use Rattle.record.specs.declared.Answer.{Answer}
use Rattle.refusals.specs.declared.Refusal.{Refusal}
use Rattle.record.specs.Record.{grid_of, state_of}
use Rattle.record.specs.Laws.{refusal_of, refused_of, taken_of}
use Rattle.step_rules.specs.Step.{step_refusal, step_of}
use Rattle.step_rules.specs.Laws.{step_outcome}
use Rattle.readings.specs.declared.Place.TheVariants.{Well}
use Rattle.read_limiting.specs.declared.Limiting.{Limiting}
use Rattle.read_limiting.specs.Limiting.{too_long_in, past_bottom_in, limiting_in, limiting_of}

-- the number that an answer is made by, from the refusal that it is
pub number_from : (m n : ℕ) → 0 < n → n ≤ 14 → outcome_of m ≡ outcome_of n → m ≡ n
number_from m n h g e =
    let q = refusal_of m (refusal n) (e ∙ sym (refused_of n h)) in
    same_number m n (omega (arith, q.1)) h g q.0

module _ (r : Record) (rate dt : ℕ) where
  module _ {x : Answer} (e : x ≡ step_of r rate dt) where
    outcome_is : outcome_of (step_refusal r rate dt) ≡ x.outcome
    outcome_is = sym (step_outcome r rate dt) ∙ sym (ap (λ y. y.outcome) e)

    pub refused_number : (n : ℕ) → 0 < n → n ≤ 14 → x.outcome ≡ outcome_of n → step_refusal r rate dt ≡ n
    refused_number n h g o = number_from (step_refusal r rate dt) n h g (outcome_is ∙ o)

    pub other_number : (n : ℕ) {k l : Refusal} → x.outcome ≡ Err k → outcome_of n ≡ Err l → (k ≡ l → ⊥) → step_refusal r rate dt ≡ n → ⊥
    other_number n {k} {l} o q f e = f (same (sym o ∙ sym outcome_is ∙ ap outcome_of e ∙ q))
      where
        same : ◌≡◌ {A = Result Unit Refusal} (Err k) (Err l) → k ≡ l
        same p = cc

    pub taken_number : x.outcome ≡ Ok tt → step_refusal r rate dt ≡ 0
    taken_number o = taken_of (step_refusal r rate dt) (outcome_is ∙ o)

  by_number : {n : ℕ} → step_refusal r rate dt ≡ n → limiting_in (grid_of r) (state_of r).losses rate dt n ≡ limiting_of r rate dt
  unfolding limiting_of
  by_number e = ap (limiting_in (grid_of r) (state_of r).losses rate dt) (sym e)

  pub answer_14 : step_refusal r rate dt ≡ 14 → Err Refusal.Record ≡ limiting_of r rate dt
  unfolding limiting_in
  answer_14 e = by_number e

  pub answer_8 : step_refusal r rate dt ≡ 8 → Ok (too_long_in (grid_of r)) ≡ limiting_of r rate dt
  unfolding limiting_in
  answer_8 e = by_number e

  pub answer_10 : step_refusal r rate dt ≡ 10 → Ok (Limiting.PastIntake Well) ≡ limiting_of r rate dt
  unfolding limiting_in
  answer_10 e = by_number e

  pub answer_11 : step_refusal r rate dt ≡ 11 → Ok (past_bottom_in (grid_of r) (losses_after (network_of (grid_of r)) (state_of r).losses rate dt)) ≡ limiting_of r rate dt
  unfolding limiting_in
  answer_11 e = by_number e

  pub answer_nothing : {n : ℕ} → step_refusal r rate dt ≡ n → (n ≡ 14 → ⊥) → (n ≡ 8 → ⊥) → (n ≡ 10 → ⊥) → (n ≡ 11 → ⊥) → Ok Limiting.Nothing ≡ limiting_of r rate dt
  unfolding limiting_in
  answer_nothing {n} e i j k l = sym none ∙ by_number e
    where
      none : limiting_in (grid_of r) (state_of r).losses rate dt n ≡ Ok Limiting.Nothing
      none = rw (ne_eqb n 14 i, ne_eqb n 8 j, ne_eqb n 10 k, ne_eqb n 11 l) refl
