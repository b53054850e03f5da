-- What a step gives, and that one taken on a valid record leaves a valid one: laws only, nothing to believe.
--     step_outcome     what became of a step, by its number; step_kept: a refused one gives the record handed in
--     same_grid        a record with another state has the same grid, and so the same network (same_network)
--     same_state       and that state, where the state has one loss for each place
--     taken            a step that 14 and 7 to 11 let pass is one that the network's conditions do; state_is: the state that it gives
--     step_valid       so 14 does not refuse the record that a step taken gives
use Rattle.std.proofs.Common.{◌≡◌, ℕ, zero, suc, ◌+◌, ◌-◌, ◌*◌, ◌/◌, ◌%◌, ◌<◌, Bool, true, false, cond, not, ◌||◌, length, get_or, ℤ, pos, nat_abs, ◌≤ℤ◌, sym, refl, ap, ◌∙◌, subst, ap₂, zero-add, arith, lt-ltb}
use Rattle.refusals.specs.Refusals.{outcome_of}
use borrow.Author.Tests.{not-false}
use Rattle.laws.specs.Integer.{natural, ≤ℤ_trans, not_past, larger_bounds}
use Rattle.laws.specs.Lists.{larger}
use Rattle.laws.specs.Refusal.{passed}
use Rattle.laws.specs.Rows.{all_from}
use Rattle.laws.specs.Sums.{get_or-map-range}
use Rattle.network.specs.Network.{Network, State, loss_at, drawdown, moved, stable, unstable, well_too_deep, step_tests, refusal}
use Rattle.network.specs.Grid.{place, place_count, network_of, one_per_place}
use Rattle.network.specs.Kept.{Kept}
use Rattle.network.proofs.laws.Bounds.{depths_after}
use Rattle.network.proofs.laws.Places.{one_per_place_lem}
use Rattle.network.proofs.laws.Preserve.{accepted, kept_moved}
use Rattle.site.specs.Laws.{counts_hold_lem}
use Rattle.site.specs.Limited.{Counts}
use Rattle.record.specs.declared.Record.{Record}
use Rattle.record.specs.Record.{slot, slots, is_cell, grid_of, state_of}
use Rattle.record.specs.Laws.{outcome_of_lem, kept_of_lem}
use Rattle.coefficient_slots.specs.Slots.{used_slot, coefficients_unused}
use Rattle.validity.specs.Validity.{is_zero_ℤ, losses_unused, valid}
use Rattle.validity.specs.Laws.{Marked, Valid, valid_record, record_valid, valid_proper, mark_natural}
use Rattle.step_rules.specs.Step.{with_state, step_refusal, step_of}

module _ (r : Record) (rate dt : ℕ) where
  pub step_outcome : (step_of r rate dt).outcome ≡ outcome_of (step_refusal r rate dt)
  unfolding step_of
  step_outcome = outcome_of_lem (step_refusal r rate dt) r _

  pub step_kept : (step_refusal r rate dt ≡ 0 → ⊥) → (step_of r rate dt).«record» ≡ r
  unfolding step_of
  step_kept z = kept_of_lem (step_refusal r rate dt) r _ z

module _ (r : Record) (s : State) where
  pub same_grid : grid_of (with_state r s) ≡ grid_of r
  unfolding grid_of with_state
  same_grid = refl

  pub same_network : network_of (grid_of (with_state r s)) ≡ network_of (grid_of r)
  same_network = ap network_of same_grid

  -- V of a layer and column, 0 where there is no cell
  abbrev loss : ℕ → ℕ → ℤ
  loss i j = cond (is_cell r.site i j) (loss_at s.losses (place (grid_of r) i j)) (pos 0)

  in_slot : (k : ℕ) → k < 1000 → get_or (slots loss) k (pos 0) ≡ loss (k / 50) (k % 50 + 1)
  unfolding slots
  in_slot k h = get_or-map-range (λ k. loss (k / 50) (k % 50 + 1)) (pos 0) 0 1000 k h ∙ ap (λ n. loss (n / 50) (n % 50 + 1)) (zero-add k)

  module _ (counts : Counts r.site) where
    of_cell : (i j : ℕ) → i < r.site.layers → suc j < r.site.columns → get_or (slots loss) (slot i (suc j)) (pos 0) ≡ loss_at s.losses (place (grid_of r) i (suc j))
    unfolding is_cell slot
    of_cell i j hi hj =
        in_slot (50 * i + (suc j - 1)) (omega (arith, counts.layers_most, counts.columns_most))
        ∙ ap₂ loss layer column ∙ rw (lt-ltb i r.site.layers hi, lt-ltb (suc j) r.site.columns hj)
      where
        layer : (50 * i + (suc j - 1)) / 50 ≡ i
        layer = omega (arith, counts.columns_most)

        column : (50 * i + (suc j - 1)) % 50 + 1 ≡ suc j
        column = omega (arith, counts.columns_most)

    pub same_state : length s.losses ≡ place_count (grid_of r) → state_of (with_state r s) ≡ s
    unfolding state_of with_state grid_of loss_at
    same_state listed = rw (← losses)
      where
        losses : s.losses ≡ one_per_place (grid_of (with_state r s)) (loss_at s.losses 0) (λ i j. get_or (slots loss) (slot i j) (pos 0))
        losses = rw same_grid (one_per_place_lem (grid_of r) (loss_at s.losses 0) (λ i j. get_or (slots loss) (slot i j) (pos 0)) (pos 0) s.losses listed refl (λ i j hi hj. sym (of_cell i j hi hj)))

  none_unused : losses_unused (with_state r s) ≡ true
  unfolding losses_unused with_state
  none_unused = all_from (λ k. used_slot (is_cell r.site) k || is_zero_ℤ (get_or (slots loss) k (pos 0))) 1000 (λ k h. rw (in_slot k h) (either (is_cell r.site (k / 50) (k % 50 + 1)) (loss_at s.losses (place (grid_of r) (k / 50) (k % 50 + 1)))))
    where
      either : (t : Bool) (z : ℤ) → (t || is_zero_ℤ (cond t z (pos 0))) ≡ true
      either true z = refl
      either false z = refl

-- ---- a step that 14 and 7 to 11 let pass
module _ (r : Record) (rate dt : ℕ) (ok : valid r ≡ true) (e : step_refusal r rate dt ≡ 0) where
  abbrev N : Network
  N = network_of (grid_of r)

  abbrev next : State
  next = moved N (state_of r) rate dt

  v : Valid r
  v = valid_record r ok

  pub taken : refusal N (state_of r) rate dt ≡ 0
  unfolding step_refusal refusal
  taken = (passed (not (valid r)) 13 (step_tests N (state_of r) rate dt) e).1

  kept : Kept N next
  kept = kept_moved N (valid_proper r v) (state_of r) v.kept rate dt taken

  pub state_is : state_of (with_state r next) ≡ next
  unfolding network_of
  state_is = same_state r next (counts_hold_lem r.site v.counts) kept.listed

  -- the mark after the step
  abbrev raised : ℤ
  raised = larger r.mark (drawdown N next.losses 0)

  -- the maximum principle at the mark before it
  under_mark : (p : ℕ) → p < N.places → drawdown N next.losses p ≤ℤ raised
  unfolding moved unstable
  under_mark zero h = (larger_bounds r.mark _).1
  under_mark (suc p) h =
      ≤ℤ_trans _ r.mark _
      (subst (λ m. drawdown N next.losses (suc p) ≤ℤ m) (sym before)
      (depths_after N (valid_proper r v) (state_of r) v.kept dt (not-false (stable N dt) (accepted N (state_of r) rate dt taken).steady) rate (nat_abs r.mark)
      (λ q k. subst (λ m. drawdown N (state_of r).losses q ≤ℤ m) before (v.marked.depths q k)) (suc p) h (λ z. absurd (omega arith))))
      (larger_bounds r.mark _).0
    where
      before : r.mark ≡ pos (nat_abs r.mark)
      before = natural (mark_natural r v)

  marked : Marked N next.losses raised
  unfolding well_too_deep
  marked = record { depths = under_mark; intake = (larger_bounds r.mark _).2 _ v.marked.intake (not_past kept.well) }

  pub step_valid : valid (with_state r next) ≡ true
  unfolding with_state coefficients_unused
  step_valid = record_valid (with_state r next) (record {
    counts = v.counts;
    numbers = v.numbers;
    radii = v.radii;
    screen = v.screen;
    site_unused = v.site_unused;
    coefficients_unused = v.coefficients_unused;
    losses_unused = none_unused r next;
    coefficients = rw (same_grid r next) v.coefficients;
    well_storage = v.well_storage;
    table = λ j one k. rw (same_grid r next) (v.table j one k);
    kept = rw (same_grid r next, state_is) kept;
    marked = rw (same_grid r next, state_is) marked;
  })
