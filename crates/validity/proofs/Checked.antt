-- The tests that `valid` makes, in its order, and why they are those of 14.
use Rattle.std.proofs.Common.{◌≡◌, refl, sym, ap, ap₂, subst, ◌∙◌, Bool, true, false, not, ◌&&◌, ◌||◌, ℕ, zero, suc, ◌+◌, ◌*◌, ◌-◌, ◌≤◌, ◌<◌, arith, leb-true, le-leb, le-ltb, eqb-true, eq-eqb, leb, eqb, ℤ, pos, negsuc, nat_abs, ◌+ℤ◌, get_or, ◌≤ℤ◌}
use Rattle.std.proofs.Math.Bool.{or-true}
use Rattle.std.proofs.lemmas.Bool.{false≢true, lt-leb, not-true}
use Rattle.std.specs.Int.Signed.{non_neg, lt_z}
use mathlib.Core.List.Memᴰ
use Rattle.laws.specs.All.{all_at, and_left, and_right}
use Rattle.laws.specs.Integer.{natural, ≤ℤ_pos, pos_≤ℤ, ≤ℤ_up, not_past}
use Rattle.laws.specs.Rows.{both_hold, same_test, three_hold, four_hold, all_from}
use Rattle.laws.specs.Sums.{mem_range, range_mem, none, none_at}
use Rattle.limits.specs.Limits.{conductance_limit, storage_limit, drawdown_limit}
use Rattle.network.specs.Network.{is_place, loss_at, drawdown, loss_in, well_too_deep, table_too_deep}
use Rattle.network.specs.Grid.{stored_columns, place_count, place, network_of}
use Rattle.network.specs.Kept.{Kept}
use Rattle.network.proofs.laws.Places.{by_place, place-below, length_one}
use Rattle.geometry.specs.Geometry.{well_storage}
use Rattle.site.specs.Site.{counts_hold, numbers_hold, radii_hold, screen_holds}
use Rattle.site.specs.Laws.{counts_hold_lem, numbers_hold_lem}
use Rattle.record.specs.declared.Record.{Record}
use Rattle.record.specs.Record.{slot, is_cell, grid_of, state_of}
use Rattle.coefficient_slots.specs.Slots.{coefficients_hold, coefficients_unused, used_slot}
use Rattle.coefficient_slots.specs.Held.{inside, slot_holds, array_holds, screen_array_holds, slots_hold}
use Rattle.coefficient_slots.specs.Laws.{coefficients_hold_lem, hold_coefficients, slot-below, slots-coefficients, used_held, held_from, used_slot_lem, by_slot}
use Rattle.coefficient_cells.specs.Laws.{judged_site}
use Rattle.coefficient_cells.specs.Worked.{InLimits}
use Rattle.validity_numbers.specs.Numbers.{site_holds, site_unused}
use Rattle.validity_table.specs.Table.{table_kept}
use Rattle.validity_totals.specs.Totals.{loss_slot_holds, loss_slots_hold, loss_sum, totals_agree}
use Rattle.validity_totals.specs.Laws.{Totals, slot_natural, totals_agree_lem}
use Rattle.validity_drawdowns.specs.Drawdowns.{deeper, Stored, depth_slot_holds, depth_slots_hold, depths_hold}
use Rattle.validity.specs.Laws.{TableKept, Marked, Valid, valid_record, record_valid, mark_natural, at_least_0, not-below_0}
use Rattle.validity.specs.Validity.{losses_unused, is_zero_ℤ, valid}
use Rattle.validity.proofs.Losses.{loss_well, loss_cell, well_depth_lem, cell_depth, loss_in_lem}

-- a loss that passes its slot's test is 0 where the slot is not used
unused_zero : (u : Bool) (v : ℤ) → (non_neg v && (u || eqb (nat_abs v) 0)) ≡ true → (u || is_zero_ℤ v) ≡ true
unused_zero u (pos n) e = e
unused_zero u (negsuc n) e = absurd (false≢true e)

slot_passes : (u : Bool) (v : ℤ) → (u ≡ true → non_neg v ≡ true) → (u || is_zero_ℤ v) ≡ true → (non_neg v && (u || eqb (nat_abs v) 0)) ≡ true
slot_passes u (pos n) f e = e
slot_passes true (negsuc n) f e = absurd (false≢true (f refl))
slot_passes false (negsuc n) f e = absurd (false≢true e)

-- ---- the tests and 14
abbrev pub depths_pass : Record → Bool
depths_pass r = depths_hold r.site.layers r.site.columns (1000 * get_or r.site.thickness 0 0) (1000 * r.site.intake) r.mark r.storages r.losses r.well_storage r.well_loss

within : (n : ℕ) (z : ℤ) → z ≤ℤ pos n → lt_z (pos n) z ≡ false
within n (pos m) h = le-ltb n m (≤ℤ_pos h)
within n (negsuc m) h = refl

module _ (r : Record) (counts : counts_hold r.site ≡ true) (numbers : numbers_hold r.site ≡ true) where
  few : r.site.layers ≤ 20
  few = (counts_hold_lem r.site counts).layers_most

  layer_1 : 1 ≤ r.site.layers
  layer_1 = omega (arith, (counts_hold_lem r.site counts).layers_least)

  one : 1 ≤ r.site.columns
  one = omega (arith, (counts_hold_lem r.site counts).columns_least)

  narrow : r.site.columns ≤ 50
  narrow = (counts_hold_lem r.site counts).columns_most

  -- by which the slots of layer 1 are held too
  abbrev table : ℕ
  table = 1000 * get_or r.site.thickness 0 0

  table_limit : table ≤ drawdown_limit
  table_limit = omega (arith, ((numbers_hold_lem r.site numbers).layer 0 layer_1).thickness_most)

  first-slots : (j : ℕ) → suc j < r.site.columns → leb 50 (slot 0 (suc j)) ≡ false
  unfolding slot
  first-slots j k = lt-leb 50 (50 * 0 + (suc j - 1)) (omega (arith, narrow))

  later_slots : (i j : ℕ) → leb 50 (slot (suc i) j) ≡ true
  unfolding slot
  later_slots i j = le-leb 50 (50 * suc i + (j - 1)) (omega arith)

  intake_limit : 1000 * r.site.intake ≤ drawdown_limit
  intake_limit = omega (arith, (numbers_hold_lem r.site numbers).well.intake_most)

  -- the mark, where it is not below 0
  abbrev top : ℕ
  top = nat_abs r.mark

  -- whether D of slot k is past a limit
  abbrev deeper_at : ℕ → ℕ → Bool
  deeper_at limit k = deeper limit (get_or r.storages k 0) (get_or r.losses k (pos 0))

  -- where the tests hold
  module _ (slots : loss_slots_hold r.site.layers r.site.columns r.losses ≡ true)
      (totals : totals_agree r.losses r.well_loss r.inflow r.pumped r.time ≡ true)
      (depths : depths_pass r ≡ true) where
    unused : losses_unused r ≡ true
    unfolding losses_unused is_cell loss_slots_hold loss_slot_holds
    unused = all_from _ 1000 (λ k h. unused_zero (used_slot (is_cell r.site) k) (get_or r.losses k (pos 0)) (all_at _ 1000 k slots h))

    cell_natural : (i j : ℕ) → i < r.site.layers → suc j < r.site.columns → non_neg (get_or r.losses (slot i (suc j)) (pos 0)) ≡ true
    cell_natural i j h k = slot_natural r.site.layers r.site.columns r.losses slots (slot i (suc j)) (slot-below i (suc j) (omega (arith, few)) (omega (arith, narrow)))

    agreed : Totals r.losses r.well_loss r.inflow r.pumped r.time
    agreed = totals_agree_lem r.losses r.well_loss r.inflow r.pumped r.time totals

    inflow_natural : pos 0 ≤ℤ r.inflow
    inflow_natural = at_least_0 r.inflow agreed.inflow

    naturals : (p : ℕ) → p < (network_of (grid_of r)).places → pos 0 ≤ℤ loss_at (state_of r).losses p
    unfolding network_of grid_of
    naturals =
        by_place (grid_of r) (λ p. pos 0 ≤ℤ loss_at (state_of r).losses p) (rw (loss_well r) (at_least_0 r.well_loss agreed.well))
        (λ i j h k. rw (loss_cell r i j h k) (at_least_0 _ (cell_natural i j h k)))

    budget : loss_in (network_of (grid_of r)) (is_place (network_of (grid_of r))) (state_of r).losses +ℤ r.inflow ≡ pos r.pumped
    budget =
        ap₂ ◌+ℤ◌ (loss_in_lem r few one narrow unused naturals) (natural inflow_natural)
        ∙ ap pos (regroup (nat_abs r.well_loss) (loss_sum 1000 r.losses) (nat_abs r.inflow) agreed.sum)
      where
        regroup : (a b c : ℕ) {d : ℕ} → b + (a + c) ≡ d → a + b + c ≡ d
        regroup a b c e = omega arith

    -- the tests of the mark
    tested : (non_neg r.mark ≡ true) × (leb top (1000 * r.site.intake) ≡ true) × (not (deeper top r.well_storage r.well_loss) ≡ true)
        × (depth_slots_hold r.site.layers r.site.columns table top r.storages r.losses ≡ true)
    unfolding depths_hold
    tested = four_hold (non_neg r.mark) (leb top (1000 * r.site.intake)) (not (deeper top r.well_storage r.well_loss)) (depth_slots_hold r.site.layers r.site.columns table top r.storages r.losses) depths

    mark_is : r.mark ≡ pos top
    mark_is = natural (at_least_0 r.mark tested.0)

    top_most : top ≤ 1000 * r.site.intake
    top_most = leb-true _ _ tested.1

    slot-depth : (i j : ℕ) → i < r.site.layers → suc j < r.site.columns
        → (not (deeper_at top (slot i (suc j))) && (leb 50 (slot i (suc j)) || not (deeper_at table (slot i (suc j))))) ≡ true
    unfolding depth_slots_hold depth_slot_holds
    slot-depth i j h k =
        used_held (used_slot (inside r.site.layers r.site.columns) (slot i (suc j))) _ true
        (all_at _ 1000 (slot i (suc j)) tested.3 (slot-below i (suc j) (omega (arith, few)) (omega (arith, narrow))))
        (used_slot_lem r.site.layers r.site.columns i (suc j) h (omega arith) k narrow)

    table-depth : (j : ℕ) → 1 ≤ j → j < r.site.columns → lt_z (pos table) (drawdown (network_of (grid_of r)) (state_of r).losses (place (grid_of r) 0 j)) ≡ false
    table-depth zero a k = absurd (omega arith)
    table-depth (suc j) a k =
        let held = rw (first-slots j k) at (and_right (not (deeper_at top (slot 0 (suc j)))) (leb 50 (slot 0 (suc j)) || not (deeper_at table (slot 0 (suc j)))) (slot-depth 0 j layer_1 k)) in
        sym (cell_depth r table 0 j layer_1 k) ∙ not-true _ held

    -- no D is over the mark
    under_mark : (p : ℕ) → p < (network_of (grid_of r)).places → drawdown (network_of (grid_of r)) (state_of r).losses p ≤ℤ pos top
    unfolding network_of grid_of
    under_mark =
        by_place (grid_of r) (λ p. drawdown (network_of (grid_of r)) (state_of r).losses p ≤ℤ pos top)
        (not_past (sym (well_depth_lem r top) ∙ not-true _ tested.2))
        (λ i j h k. not_past (sym (cell_depth r top i j h k) ∙ not-true _ (and_left (not (deeper_at top (slot i (suc j)))) (leb 50 (slot i (suc j)) || not (deeper_at table (slot i (suc j)))) (slot-depth i j h k))))

    marked : Marked (network_of (grid_of r)) (state_of r).losses r.mark
    unfolding network_of grid_of
    marked = subst (Marked (network_of (grid_of r)) (state_of r).losses) (sym mark_is) (record { depths = under_mark; intake = pos_≤ℤ top_most })

    well_within : well_too_deep (network_of (grid_of r)) (state_of r).losses ≡ false
    unfolding well_too_deep network_of grid_of place_count
    well_within = within (1000 * r.site.intake) _ (≤ℤ_up _ (under_mark 0 (omega arith)) top_most)

    kept : Kept (network_of (grid_of r)) (state_of r)
    unfolding state_of network_of grid_of table_too_deep stored_columns
    kept = record {
      listed = length_one (grid_of r) _ _;
      losses = naturals;
      inflow = inflow_natural;
      budget = budget;
      pumped = agreed.pumped;
      time = agreed.time;
      well = well_within;
      table = none _ (network_of (grid_of r)).table (λ p m.
          let cell = Memᴰ.of_map (place (grid_of r) 0) (stored_columns (grid_of r)) m in
          let column = range_mem 1 (r.site.columns - 1) cell.1 in
          subst (λ p. lt_z (pos table) (drawdown (network_of (grid_of r)) (state_of r).losses p) ≡ false) cell.2 (table-depth cell.0 (omega arith) (omega (arith, one))));
      depths = λ p h. ≤ℤ_up _ (under_mark p h) (omega (arith, top_most, intake_limit));
    }

  -- where 14 lets the record pass
  module _ (kept : Kept (network_of (grid_of r)) (state_of r)) (unused : losses_unused r ≡ true) where
    kept_natural : (i j : ℕ) → i < r.site.layers → suc j < r.site.columns → non_neg (get_or r.losses (slot i (suc j)) (pos 0)) ≡ true
    unfolding network_of grid_of
    kept_natural i j h k = not-below_0 _ (rw (loss_cell r i j h k) at (kept.losses (place (grid_of r) i (suc j)) (place-below (grid_of r) i j h k)))

    kept_well : non_neg r.well_loss ≡ true
    unfolding network_of place_count
    kept_well = not-below_0 _ (rw (loss_well r) at (kept.losses 0 (omega arith)))

    loss-slots : loss_slots_hold r.site.layers r.site.columns r.losses ≡ true
    unfolding losses_unused is_cell loss_slots_hold loss_slot_holds
    loss-slots =
        all_from _ 1000 (λ k h. slot_passes (used_slot (is_cell r.site) k) (get_or r.losses k (pos 0))
        (by_slot r.site.layers r.site.columns (λ k. non_neg (get_or r.losses k (pos 0)) ≡ true) at_cell k)
        (all_at _ 1000 k unused h))
      where
        at_cell : (i j : ℕ) → i < r.site.layers → 1 ≤ j → j < r.site.columns → non_neg (get_or r.losses (slot i j) (pos 0)) ≡ true
        at_cell i zero h a k = absurd (omega arith)
        at_cell i (suc j) h a k = kept_natural i j h k

    total_agrees : totals_agree r.losses r.well_loss r.inflow r.pumped r.time ≡ true
    unfolding totals_agree state_of
    total_agrees =
        let sum : pos (nat_abs r.well_loss + loss_sum 1000 r.losses + nat_abs r.inflow) ≡ pos r.pumped =
        ap₂ ◌+ℤ◌ (sym (loss_in_lem r few one narrow unused kept.losses)) (sym (natural kept.inflow)) ∙ kept.budget in
        both_hold (both_hold (both_hold (both_hold kept_well (not-below_0 r.inflow kept.inflow)) (le-leb _ _ kept.pumped)) (le-leb _ _ kept.time))
        (eq-eqb (loss_sum 1000 r.losses + (nat_abs r.well_loss + nat_abs r.inflow)) r.pumped (omega (arith, ap nat_abs sum)))

    module _ (marked : Marked (network_of (grid_of r)) (state_of r).losses r.mark) (natural-mark : pos 0 ≤ℤ r.mark) where
      mark_same : r.mark ≡ pos top
      mark_same = natural natural-mark

      mark_passes : leb top (1000 * r.site.intake) ≡ true
      unfolding network_of grid_of
      mark_passes = le-leb _ _ (≤ℤ_pos (subst (λ m. m ≤ℤ pos (1000 * r.site.intake)) mark_same marked.intake))

      under : (p : ℕ) → p < (network_of (grid_of r)).places → lt_z (pos top) (drawdown (network_of (grid_of r)) (state_of r).losses p) ≡ false
      under p h = within top _ (subst (λ m. drawdown (network_of (grid_of r)) (state_of r).losses p ≤ℤ m) mark_same (marked.depths p h))

      well_passes : not (deeper top r.well_storage r.well_loss) ≡ true
      unfolding network_of place_count
      well_passes = ap not (well_depth_lem r top ∙ under 0 (omega arith))

      cell_passes : (i j : ℕ) → i < r.site.layers → suc j < r.site.columns
          → (not (deeper_at top (slot i (suc j))) && (leb 50 (slot i (suc j)) || not (deeper_at table (slot i (suc j))))) ≡ true
      unfolding table_too_deep network_of grid_of stored_columns
      cell_passes i j h k = both_hold (ap not (cell_depth r top i j h k ∙ under (place (grid_of r) i (suc j)) (place-below (grid_of r) i j h k))) (in_table i h)
        where
          in_table : (i : ℕ) → i < r.site.layers → (leb 50 (slot i (suc j)) || not (deeper_at table (slot i (suc j)))) ≡ true
          in_table zero h =
              let on_table = none_at _ kept.table (Memᴰ.map (place (grid_of r) 0) (mem_range {p = suc j} (r.site.columns - 1) (omega arith) (omega arith))) in
              rw (first-slots j k) (ap not (cell_depth r table 0 j h k ∙ on_table))
          in_table (suc i) h = rw (later_slots i (suc j))

      depth-slots : depth_slots_hold r.site.layers r.site.columns table top r.storages r.losses ≡ true
      unfolding depth_slots_hold depth_slot_holds
      depth-slots =
          all_from _ 1000 (λ k h. held_from (used_slot (inside r.site.layers r.site.columns) k) _ true
          (by_slot r.site.layers r.site.columns (λ k. (not (deeper_at top k) && (leb 50 k || not (deeper_at table k))) ≡ true) at_cell k)
          (or-true (used_slot (inside r.site.layers r.site.columns) k)))
        where
          at_cell : (i j : ℕ) → i < r.site.layers → 1 ≤ j → j < r.site.columns → (not (deeper_at top (slot i j)) && (leb 50 (slot i j) || not (deeper_at table (slot i j)))) ≡ true
          at_cell i zero h a k = absurd (omega arith)
          at_cell i (suc j) h a k = cell_passes i j h k

      depths_pass_lem : depths_pass r ≡ true
      unfolding depths_hold
      depths_pass_lem = both_hold (both_hold (both_hold (not-below_0 r.mark natural-mark) mark_passes) well_passes) depth-slots

module _ (r : Record) where
  abbrev pub numbers_pass : Bool
  numbers_pass = site_holds r.site && site_unused r.site

  abbrev pub arrays_pass : Bool
  arrays_pass = slots_hold r

  abbrev pub storage_passes : Bool
  storage_passes = eqb r.well_storage (well_storage r.site.water_area)

  abbrev pub table_passes : Bool
  table_passes = table_kept r.site r.vertical

  abbrev pub losses_pass : Bool
  losses_pass = loss_slots_hold r.site.layers r.site.columns r.losses

  abbrev pub totals_pass : Bool
  totals_pass = totals_agree r.losses r.well_loss r.inflow r.pumped r.time

  unfoldable pub checked : Bool
  checked = numbers_pass && arrays_pass && storage_passes && table_passes && (losses_pass && totals_pass) && depths_pass r

  -- what the tests before them give the later ones
  pub site_passed : numbers_pass ≡ true → (counts_hold r.site ≡ true) × (numbers_hold r.site ≡ true) × (radii_hold r.site ≡ true) × (screen_holds r.site ≡ true)
  unfolding site_holds
  site_passed e = four_hold (counts_hold r.site) (numbers_hold r.site) (radii_hold r.site) (screen_holds r.site) (and_left (site_holds r.site) (site_unused r.site) e)

  module _ (numbers : numbers_pass ≡ true) where
    pub some_layer : 1 ≤ r.site.layers
    some_layer = layer_1 r (site_passed numbers).0 (site_passed numbers).1

    pub limits_pass : InLimits r.site
    limits_pass = let site = site_passed numbers in judged_site r.site site.0 site.1 site.2

    pub area_most : r.site.water_area ≤ 1000000000
    area_most = (numbers_hold_lem r.site (site_passed numbers).1).well.area_most

    pub table_most : 1000 * get_or r.site.thickness 0 0 ≤ drawdown_limit
    table_most = table_limit r (site_passed numbers).0 (site_passed numbers).1

    pub intake_most : 1000 * r.site.intake ≤ drawdown_limit
    intake_most = intake_limit r (site_passed numbers).0 (site_passed numbers).1

    pub well_stores : storage_passes ≡ true → 0 < r.well_storage
    unfolding well_storage
    well_stores e = omega (arith, eqb-true r.well_storage _ e, (numbers_hold_lem r.site (site_passed numbers).1).well.area_least)

  pub cells_store : arrays_pass ≡ true → losses_pass ≡ true → Stored r.site.layers r.site.columns r.storages r.losses
  unfolding slots_hold array_holds slot_holds
  cells_store e f =
      let arrays = four_hold (screen_array_holds r.site.layers r.site.screened r.screen) (array_holds r.site.layers r.site.columns 0 conductance_limit r.horizontal)
      (array_holds (r.site.layers - 1) r.site.columns 0 conductance_limit r.vertical) (array_holds r.site.layers r.site.columns 1 storage_limit r.storages) e in
      record {
        storage = λ k h u. leb-true 1 _ (and_left (leb 1 (get_or r.storages k 0)) _ (used_held (used_slot (inside r.site.layers r.site.columns) k) _ _ (all_at _ 1000 k arrays.3 h) u));
        loss = λ k h u. at_least_0 _ (slot_natural r.site.layers r.site.columns r.losses f k h);
      }

  pub well_natural : totals_pass ≡ true → pos 0 ≤ℤ r.well_loss
  well_natural e = at_least_0 _ (totals_agree_lem r.losses r.well_loss r.inflow r.pumped r.time e).well

  -- C between layers 1 and 2, by slot and by column
  slot_of-column : (k : ℕ) → slot 0 (suc k) ≡ k
  unfolding slot
  slot_of-column k = omega arith

  table_forth : table_passes ≡ true → TableKept r
  unfolding table_kept grid_of
  table_forth e zero one k = absurd (omega arith)
  table_forth e (suc n) one k = rw (slot_of-column n) (eqb-true _ _ (all_at _ (r.site.columns - 1) n e (omega arith)))

  table_back : TableKept r → table_passes ≡ true
  unfolding table_kept grid_of
  table_back h = all_from _ (r.site.columns - 1) (λ n k. eq-eqb _ _ (rw (slot_of-column n) at (h (suc n) (omega arith) (omega arith))))

  forth : checked ≡ true → Valid r
  unfolding checked
  forth e =
      let all = four_hold (numbers_pass && arrays_pass && storage_passes) table_passes (losses_pass && totals_pass) (depths_pass r) e in
      let held = three_hold numbers_pass arrays_pass storage_passes all.0 in
      let numbers = held.0 in
      let site = site_passed numbers in
      let coefficients : (coefficients_hold (grid_of r) && coefficients_unused r) ≡ true = sym (slots-coefficients r site.0) ∙ held.1 in
      let losses = and_left losses_pass totals_pass all.2 in
      let totals = and_right losses_pass totals_pass all.2 in
      record {
        counts = site.0;
        numbers = site.1;
        radii = site.2;
        screen = site.3;
        site_unused = and_right (site_holds r.site) (site_unused r.site) numbers;
        coefficients_unused = and_right (coefficients_hold (grid_of r)) (coefficients_unused r) coefficients;
        losses_unused = unused r site.0 site.1 losses totals all.3;
        coefficients = coefficients_hold_lem (grid_of r) (and_left (coefficients_hold (grid_of r)) (coefficients_unused r) coefficients);
        well_storage = eqb-true _ _ held.2;
        table = table_forth all.1;
        kept = kept r site.0 site.1 losses totals all.3;
        marked = marked r site.0 site.1 losses totals all.3;
      }

  back : Valid r → checked ≡ true
  unfolding checked site_holds
  back v =
      both_hold (both_hold (both_hold (both_hold (both_hold
      (both_hold (both_hold (both_hold (both_hold v.counts v.numbers) v.radii) v.screen) v.site_unused)
      (slots-coefficients r v.counts ∙ both_hold (hold_coefficients (grid_of r) v.coefficients) v.coefficients_unused))
      (eq-eqb _ _ v.well_storage))
      (table_back v.table))
      (both_hold (loss-slots r v.counts v.numbers v.kept v.losses_unused) (total_agrees r v.counts v.numbers v.kept v.losses_unused)))
      (depths_pass_lem r v.counts v.numbers v.kept v.losses_unused v.marked (mark_natural r v))

  pub checked-valid : checked ≡ valid r
  checked-valid = same_test checked (valid r) (λ e. record_valid r (forth e)) (λ e. back (valid_record r e))

pub ruleset tests = (some_layer, limits_pass, area_most, table_most, intake_most, well_stores, cells_store, well_natural)
