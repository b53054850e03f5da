-- A record's losses and D by slot are those of its network by place.
use Rattle.std.proofs.Common.{◌≡◌, refl, sym, ap, ◌∙◌, Bool, true, false, ◌||◌, map, ℕ, suc, ◌+◌, ◌*◌, ◌-◌, ◌/◌, ◌%◌, ◌≤◌, ◌<◌, arith, lt-ltb, le-ltb, eqb-true, ltb, ℤ, pos, negsuc, nat_abs, get_or, ◌≤ℤ◌}
use Rattle.std.proofs.Math.Bool.{and-false}
use Rattle.std.proofs.lemmas.Bool.{false≢true}
use Rattle.std.specs.Int.Signed.{lt_z}
use Rattle.laws.specs.All.{all_at}
use Rattle.laws.specs.Integer.{natural}
use Rattle.laws.specs.Lists.{ifℤ, sumℕ, range}
use Rattle.laws.specs.RowSums.{sum_shift, sum_cut, sum_rows, sum_places}
use Rattle.laws.specs.Sums.{sumℕ_ext, sumℕ_zero, sumℕ-map, sumℕ-flat_map, sumℤ_ext, sumℤ_pos, range_mem}
use Rattle.network.specs.Network.{is_place, loss_at, storage_at, drawdown, loss_in}
use Rattle.network.specs.Grid.{stored_columns, layers_of, place, one_per_place, network_of}
use Rattle.network.proofs.laws.Places.{get_or_one, length_one}
use Rattle.record.specs.declared.Record.{Record}
use Rattle.record.specs.Record.{slot, is_cell, grid_of, state_of}
use Rattle.coefficient_slots.specs.Slots.{used_slot}
use Rattle.coefficient_slots.specs.Held.{inside}
use Rattle.validity_totals.specs.Totals.{loss_sum}
use Rattle.validity_drawdowns.specs.Drawdowns.{deeper}
use Rattle.validity.specs.Validity.{losses_unused, is_zero_ℤ}

-- ---- a sum over the slots, where those that no cell uses count 0, is one over the cells
module _ (g : ℕ → ℕ) (n m : ℕ) (few : n ≤ 20) (one : 1 ≤ m) (narrow : m ≤ 50) (zeros : (k : ℕ) → k < 1000 → used_slot (inside n m) k ≡ false → g k ≡ 0) where
  below-layers : (i j : ℕ) → n ≤ i → i < 20 → j < 50 → g (i * 50 + j) ≡ 0
  below-layers i j h few k =
      let e : (i * 50 + j) / 50 ≡ i = omega arith in
      zeros (i * 50 + j) (omega arith) (rw (e, le-ltb i n h))

  past_columns : (i j : ℕ) → i < 20 → m - 1 ≤ j → j < 50 → g (i * 50 + j) ≡ 0
  past_columns i j h k l =
      let e : (i * 50 + j) % 50 + 1 ≡ j + 1 = omega arith in
      zeros (i * 50 + j) (omega arith) (rw (e, le-ltb (j + 1) m (omega arith)) (and-false (ltb ((i * 50 + j) / 50) n)))

  row : (i : ℕ) → i < 20 → sumℕ (range 0 50) (λ j. g (i * 50 + j)) ≡ sumℕ (range 1 (m - 1)) (λ j. g (slot i j))
  unfolding slot
  row i h =
      sum_cut (λ j. g (i * 50 + j)) (m - 1) 50 (omega arith) (λ j a b. past_columns i j h a b)
      ∙ sumℕ_ext (range 0 (m - 1)) (λ j k. ap g (place_in_row j))
      ∙ sym (sum_shift (λ j. g (50 * i + (j - 1))) 1 0 (m - 1))
    where
      place_in_row : (j : ℕ) → i * 50 + j ≡ 50 * i + (1 + j - 1)
      place_in_row j = omega arith

  pub cell_sum_lem : sumℕ (range 0 1000) g ≡ sumℕ (range 0 n) (λ i. sumℕ (range 1 (m - 1)) (λ j. g (slot i j)))
  cell_sum_lem =
      sum_rows g 50 20
      ∙ sum_cut (λ i. sumℕ (range 0 50) (λ j. g (i * 50 + j))) n 20 few
      (λ i a b. sumℕ_zero (range 0 50) (λ j k. below-layers i j a b (omega (arith, range_mem 0 50 k))))
      ∙ sumℕ_ext (range 0 n) (λ i k. row i (omega (arith, range_mem 0 n k)))

-- ---- signs and zeros
second : (u z : Bool) → (u || z) ≡ true → u ≡ false → z ≡ true
second true z e q = absurd (false≢true (sym q))
second false z e q = e

zero_size : (v : ℤ) → is_zero_ℤ v ≡ true → nat_abs v ≡ 0
zero_size (pos n) e = eqb-true n 0 e
zero_size (negsuc n) e = absurd (false≢true e)

-- ---- a record's losses and storages, by place
module _ (r : Record) where
  pub loss_well : loss_at (state_of r).losses 0 ≡ r.well_loss
  unfolding loss_at state_of one_per_place
  loss_well = refl

  pub loss_cell : (i j : ℕ) → i < r.site.layers → suc j < r.site.columns → loss_at (state_of r).losses (place (grid_of r) i (suc j)) ≡ get_or r.losses (slot i (suc j)) (pos 0)
  unfolding loss_at state_of grid_of
  loss_cell i j h k = get_or_one (grid_of r) r.well_loss (λ i j. get_or r.losses (slot i j) (pos 0)) (pos 0) i j h k

  storage_cell : (i j : ℕ) → i < r.site.layers → suc j < r.site.columns → storage_at (network_of (grid_of r)) (place (grid_of r) i (suc j)) ≡ get_or r.storages (slot i (suc j)) 0
  unfolding storage_at network_of grid_of
  storage_cell i j h k = get_or_one (grid_of r) r.well_storage (λ i j. get_or r.storages (slot i j) 0) 0 i j h k

  -- D past a limit, by slot and by place
  pub well_depth_lem : (limit : ℕ) → deeper limit r.well_storage r.well_loss ≡ lt_z (pos limit) (drawdown (network_of (grid_of r)) (state_of r).losses 0)
  unfolding deeper drawdown loss_at storage_at state_of network_of grid_of one_per_place
  well_depth_lem limit = refl

  pub cell_depth : (limit i j : ℕ) → i < r.site.layers → suc j < r.site.columns
      → deeper limit (get_or r.storages (slot i (suc j)) 0) (get_or r.losses (slot i (suc j)) (pos 0)) ≡ lt_z (pos limit) (drawdown (network_of (grid_of r)) (state_of r).losses (place (grid_of r) i (suc j)))
  unfolding deeper drawdown
  cell_depth limit i j h k = rw (loss_cell i j h k, storage_cell i j h k)

  -- the losses of all places, from the slots
  module _ (few : r.site.layers ≤ 20) (one : 1 ≤ r.site.columns) (narrow : r.site.columns ≤ 50) (unused : losses_unused r ≡ true)
      (naturals : (p : ℕ) → p < (network_of (grid_of r)).places → pos 0 ≤ℤ loss_at (state_of r).losses p) where
    size : ℕ → ℕ
    size k = nat_abs (get_or r.losses k (pos 0))

    zeros : (k : ℕ) → k < 1000 → used_slot (inside r.site.layers r.site.columns) k ≡ false → size k ≡ 0
    unfolding losses_unused is_cell size
    zeros k h e = zero_size (get_or r.losses k (pos 0)) (second _ (is_zero_ℤ (get_or r.losses k (pos 0))) (all_at _ 1000 k unused h) e)

    by_list : sumℕ (range 0 (network_of (grid_of r)).places) (λ p. nat_abs (loss_at (state_of r).losses p)) ≡ sumℕ (state_of r).losses nat_abs
    unfolding loss_at state_of network_of
    by_list =
        ap (λ n. sumℕ (range 0 n) (λ p. nat_abs (get_or (state_of r).losses p (pos 0)))) (sym (length_one (grid_of r) _ _))
        ∙ sum_places nat_abs (pos 0) (state_of r).losses

    by_cell : sumℕ (state_of r).losses nat_abs ≡ nat_abs r.well_loss + sumℕ (range 0 r.site.layers) (λ i. sumℕ (range 1 (r.site.columns - 1)) (λ j. size (slot i j)))
    unfolding state_of one_per_place grid_of stored_columns layers_of sumℕ size
    by_cell =
        ap (λ n. nat_abs r.well_loss + n)
        (sumℕ-flat_map (λ i. map (λ j. get_or r.losses (slot i j) (pos 0)) (range 1 (r.site.columns - 1))) (range 0 r.site.layers) nat_abs
        ∙ sumℕ_ext (range 0 r.site.layers) (λ i m. sumℕ-map (λ j. get_or r.losses (slot i j) (pos 0)) (range 1 (r.site.columns - 1)) nat_abs))

    pub loss_in_lem : loss_in (network_of (grid_of r)) (is_place (network_of (grid_of r))) (state_of r).losses ≡ pos (nat_abs r.well_loss + loss_sum 1000 r.losses)
    unfolding loss_in loss_sum is_place ifℤ size
    loss_in_lem =
        sumℤ_ext (range 0 (network_of (grid_of r)).places) (λ p m. let h = range_mem 0 (network_of (grid_of r)).places m in rw (lt-ltb p (network_of (grid_of r)).places (omega arith)) (natural (naturals p (omega arith))))
        ∙ sumℤ_pos (range 0 (network_of (grid_of r)).places) (λ p. nat_abs (loss_at (state_of r).losses p))
        ∙ ap pos (by_list ∙ by_cell ∙ ap (λ n. nat_abs r.well_loss + n) (sym (cell_sum_lem size r.site.layers r.site.columns few one narrow zeros)))
