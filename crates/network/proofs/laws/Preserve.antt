-- An accepted step on a proper network leads from a kept state to a kept one; the state at rest is kept.
use Rattle.std.specs.Prelude.{◌≡◌, Bool, true, false, ℕ, zero, suc, ◌+◌, ◌*◌, ◌≤◌, ltb, pos, ◌+ℤ◌, ◌≤ℤ◌}
use Rattle.std.proofs.Common.{ap, ◌∙◌, zero-le, arith, ltb-false, le-ltb}
use Rattle.std.proofs.Math.Nat.{zero-div}
use Rattle.std.proofs.lemmas.List.{length-map, length-replicate}
use Rattle.std.proofs.lemmas.Bool.{not-false}
use Rattle.laws.specs.Fill.{get_or_same}
use Rattle.laws.specs.Refusal.{passed}
use Rattle.laws.specs.Integer.{pos_≤ℤ, ≤ℤ_up, +ℤ_natural, not_past}
use Rattle.laws.specs.Lists.{ifℕ, range}
use Rattle.laws.specs.Sums.{ifℕ_zero, ifℤ_pos, sumℕ_zero, sumℤ_ext, sumℤ_pos, length-range, or_no, none}
use Rattle.limits.specs.Limits.{total_limit, drawdown_limit}
use Rattle.network.specs.Network.{Network, State, at_rest, is_place, loss_at, drawdown, loss_in, loss_after, losses_after, moved, rate_or_length_out, stable, unstable, totals_pass, well_too_deep, table_too_deep, step_tests, refusal}
use Rattle.network.specs.Kept.{Proper, Kept}
use Rattle.network.proofs.laws.Conserve.{balanced}
use Rattle.network.proofs.laws.Bounds.{inflow_rises, losses_after_lem, depths_after}

-- none of the conditions forbids the step
pub record Permitted (N : Network) (s : State) (rate dt : ℕ) : Type 0 where
  pub rate_and_length : rate_or_length_out rate dt ≡ false
  pub steady : unstable N dt ≡ false
  pub totals : totals_pass s rate dt ≡ false
  pub well : well_too_deep N (losses_after N s.losses rate dt) ≡ false
  pub table : table_too_deep N (losses_after N s.losses rate dt) ≡ false

pub accepted : (N : Network) (s : State) (rate dt : ℕ) → refusal N s rate dt ≡ 0 → Permitted N s rate dt
unfolding refusal step_tests
accepted N s rate dt e =
    let after7 = passed (rate_or_length_out rate dt) 6 _ e in
    let after8 = passed (unstable N dt) 7 _ after7.1 in
    let after9 = passed (totals_pass s rate dt) 8 _ after8.1 in
    let after10 = passed (well_too_deep N (losses_after N s.losses rate dt)) 9 _ after9.1 in
    let after11 = passed (table_too_deep N (losses_after N s.losses rate dt)) 10 _ after10.1 in
    record { rate_and_length = after7.0; steady = after8.0; totals = after9.0; well = after10.0; table = after11.0 }

pub kept_moved : (N : Network) → Proper N → (s : State) → Kept N s → (rate dt : ℕ) → refusal N s rate dt ≡ 0 → Kept N (moved N s rate dt)
unfolding moved losses_after unstable totals_pass well_too_deep
kept_moved N proper s kept rate dt e = record {
  listed = length-map (range 0 N.places) (loss_after N s.losses rate dt) ∙ length-range 0 N.places;
  losses = losses_after_lem N proper s kept dt steady rate;
  inflow = +ℤ_natural kept.inflow (inflow_rises N proper s kept dt);
  budget = balanced N proper.well s kept.budget rate dt;
  pumped = ltb-false total_limit (s.pumped + rate * dt) totals.0;
  time = ltb-false total_limit (s.time + dt) totals.1;
  well = a.well;
  table = a.table;
  depths = elim [
    | zero ↦ λ h. ≤ℤ_up (drawdown N (losses_after N s.losses rate dt) 0) (not_past a.well) proper.intake
    | suc p ↦ λ h. depths_after N proper s kept dt steady rate drawdown_limit kept.depths (suc p) h (λ q. absurd (omega arith))
  ];
}
  where
    a : Permitted N s rate dt
    a = accepted N s rate dt e

    steady : stable N dt ≡ true
    steady = not-false (stable N dt) a.steady

    totals : (ltb total_limit (s.pumped + rate * dt) ≡ false) × (ltb total_limit (s.time + dt) ≡ false)
    totals = or_no (ltb total_limit (s.pumped + rate * dt)) (ltb total_limit (s.time + dt)) a.totals

-- ---- at rest

pub loss-at_rest : (N : Network) (p : ℕ) → loss_at (at_rest N).losses p ≡ pos 0
unfolding at_rest loss_at
loss-at_rest N p = get_or_same N.places p (pos 0)

pub depth-at_rest : (N : Network) (p : ℕ) → drawdown N (at_rest N).losses p ≡ pos 0
unfolding drawdown
depth-at_rest N p = rw (loss-at_rest N p, zero-div)

pub loss_in-at_rest : (N : Network) (s : ℕ → Bool) → loss_in N s (at_rest N).losses ≡ pos 0
unfolding loss_in
loss_in-at_rest N s =
    sumℤ_ext (range 0 N.places) (λ p m. rw (loss-at_rest N p) (ifℤ_pos (s p) 0))
    ∙ sumℤ_pos (range 0 N.places) (λ p. ifℕ (s p) 0)
    ∙ ap pos (sumℕ_zero (range 0 N.places) (λ p m. ifℕ_zero (s p)))

pub kept_at_rest : (N : Network) → Kept N (at_rest N)
unfolding at_rest well_too_deep table_too_deep
kept_at_rest N = record {
  listed = length-replicate N.places (pos 0);
  losses = λ p h. rw (loss-at_rest N p) (pos_≤ℤ zero-le);
  inflow = pos_≤ℤ zero-le;
  budget = rw (loss_in-at_rest N (is_place N));
  pumped = zero-le;
  time = zero-le;
  well = rw (depth-at_rest N 0) (le-ltb (1000 * N.intake) 0 zero-le);
  table = none _ N.table (λ p m. rw (depth-at_rest N p) (le-ltb (1000 * N.thickness) 0 zero-le));
  depths = λ p h. rw (depth-at_rest N p) (pos_≤ℤ zero-le);
}
