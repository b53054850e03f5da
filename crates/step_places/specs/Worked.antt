-- A step worked by slots on a valid record is the step of the record's network: laws only, nothing to believe.
--     workable          nothing that `work_step` asks is wanting where 14, 7 and 8 do not refuse
--     worked_losses, worked_well, worked_inflow     what it gives is the network's state after the step; worked_cell: the loss in one slot
use Rattle.std.specs.Prelude.{◌≡◌, refl, Bool, true, false, cond, List, [], ◌∷◌, map, eqb, ltb, ℤ, ◌-ℤ◌, get_or, replicate}
use Rattle.std.proofs.Math.Path.{sym, ap, ap₂, subst}
use Rattle.std.proofs.Common.{◌∙◌, zero-add, lt-ltb, le-ltb, ltb-true, ne_eqb}
use Rattle.std.proofs.Math.Bool.{and-false}
use Rattle.std.proofs.Math.Logic.{⊎_elim}
use Prim.Native.Nat.{ℕ, suc, ◌+◌, ◌*◌, ◌-◌, ◌/◌, ◌%◌, ◌≤◌, ◌<◌, zero-le}
use Rattle.std.proofs.Math.Nat.{le_trans}
use native.Mathlib.Omega.{arith}
use Rattle.std.proofs.Math.IntN.{pos, neg_ℤ, nat_abs, ◌+ℤ◌, +ℤ_idr}
use Rattle.std.proofs.Math.ListN.{length}
use Rattle.std.proofs.lemmas.List.{length-replicate, length-map}
use Rattle.std.proofs.Math.Seq.{ext_get_or}
use Rattle.laws.specs.Fill.{fill, length-fill, get_or-fill, get_or-fill_rest, get_or_same}
use Rattle.laws.specs.Integer.{regroup}
use Rattle.laws.specs.Number.{below_or_not}
use Rattle.laws.specs.Signed.{room_up}
use Rattle.laws.specs.Lists.{ifℤ, range}
use Rattle.laws.specs.Sums.{map_ext, sumℤ_ext, Room, range-below, length-range, get_or-map-range}
use Rattle.limits.specs.Limits.{rate_limit, length_limit, total_limit}
use Rattle.network.specs.Network.{Network, State, loss_at, flow, outflow, loss_after, losses_after, from_last_column, stable}
use Rattle.network.specs.Grid.{place, layers_of, one_per_place, across_face, down_face, network_of}
use Rattle.network.proofs.laws.Bounds.{face_fits}
use Rattle.network.proofs.laws.Cells.{joined, outflow_cell, outflow_well, inward-last}
use Rattle.network.proofs.laws.Conserve.{loss-after}
use Rattle.network.proofs.laws.Places.{place-below, place_cell}
use Rattle.network.proofs.laws.Proper.{across_mem, down_mem}
use Rattle.network.proofs.laws.Room.{cell_room_lem, well_room_lem, last_room_lem}
use Rattle.geometry.specs.Geometry.{well_storage}
use Rattle.site.specs.Laws.{numbers_hold_lem}
use Rattle.site.specs.Limited.{LayerNumbers}
use Rattle.site.specs.Site.{is_screened}
use Rattle.record.specs.declared.Record.{Record}
use Rattle.record.specs.Record.{slots, is_cell, grid_of, state_of}
use Rattle.coefficient_cells.specs.Cells.{down_of}
use Rattle.coefficient_cells.specs.Laws.{areas_of_lem}
use Rattle.validity.specs.Laws.{Valid, valid_proper, valid_limits, table_fits}
use Rattle.step_losses.specs.Losses.{left, upper, changed}
use Rattle.step_sweep.specs.Worked.{Lent, depth, well_depth, right, lower, well_flow, water_of, to_last, slot_after, well_after, inflow_after, losses_of, Workable}
use Rattle.slot_places.specs.Screen.{screen_small_lem}
use Rattle.slot_places.specs.Slots.{counted, by_slot, none_lost, depth_past, loss_cell, loss_natural, storage_small, well_storage_small, depth_small, table_shallow}
use Rattle.slot_places.specs.Drawdowns.{well_ask}
use Rattle.step_places.specs.Terms.{lent_of}
use Rattle.step_places.specs.Flows.{right_past, lower_past, right_cell, lower_cell, from_well_lem, left_cell, upper_cell, to_last_lem}

small_if : (t : Bool) (z : ℤ) {n : ℕ} → (t ≡ true → nat_abs z ≤ n) → nat_abs (ifℤ t z) ≤ n
unfolding ifℤ
small_if true z h = h refl
small_if false z h = zero-le

module _ (r : Record) (v : Valid r) (rate dt : ℕ) where
  abbrev N : Network
  N = network_of (grid_of r)

  abbrev s : State
  s = state_of r

  abbrev a : Lent
  a = lent_of r rate dt

  abbrev layers : ℕ
  layers = r.site.layers

  abbrev columns : ℕ
  columns = r.site.columns

  -- ---- what is asked

  module _ (st : stable N dt ≡ true) where
    across_small : (i j : ℕ) → i < layers → j < columns → joined (grid_of r) i j ≡ true → nat_abs (flow N s.losses dt (across_face (grid_of r) i j)) ≤ total_limit
    unfolding network_of grid_of
    across_small i j hi hj e = le_trans (face_fits N (valid_proper r v) s v.kept dt st (across_face (grid_of r) i j) (across_mem (grid_of r) i j hi hj e)) v.kept.pumped

    down_small : (i j : ℕ) → suc i < layers → suc j < columns → nat_abs (flow N s.losses dt (down_face (grid_of r) i (suc j))) ≤ total_limit
    unfolding network_of grid_of
    down_small i j hi hj = le_trans (face_fits N (valid_proper r v) s v.kept dt st (down_face (grid_of r) i (suc j)) (down_mem (grid_of r) i (suc j) hi (omega arith) hj)) v.kept.pumped

    right_small : (k : ℕ) → k < 50 * layers → nat_abs (right a k) ≤ total_limit
    unfolding joined
    right_small = by_slot r v (λ k. nat_abs (right a k) ≤ total_limit)
        (λ i j hi hj. rw (right_cell r v rate dt i j hi hj) (across_small i (suc j) hi hj refl))
        (λ k h past. rw (right_past r v rate dt k h past) zero-le)

    lower_small : (k : ℕ) → nat_abs (lower a k) ≤ total_limit
    unfolding lower ifℤ
    lower_small k = ⊎_elim
        (by_slot r v (λ k. nat_abs (lower a k) ≤ total_limit)
        (λ i j hi hj. rw (lower_cell r v rate dt i j hi hj) (small_if (ltb (suc i) layers) _ (λ e. down_small i j (ltb-true _ _ e) hj)))
        (λ k h past. rw (lower_past r v rate dt k h past) zero-le) k)
        (λ le. rw (le-ltb (k + 50) (50 * layers) (omega arith)) zero-le)
        (below_or_not k (50 * layers))

    cell_space : (i j : ℕ) → i < layers → suc j < columns → Room total_limit (get_or r.losses (50 * i + j) (pos 0)) (right a (50 * i + j) ∷ lower a (50 * i + j) ∷ neg_ℤ (left (water_of a) (50 * i + j)) ∷ neg_ℤ (upper (water_of a) (50 * i + j)) ∷ [])
    unfolding grid_of
    cell_space i j hi hj =
        rw (← loss_cell r v i j hi hj, right_cell r v rate dt i j hi hj, lower_cell r v rate dt i j hi hj, left_cell r v rate dt i j hi hj, upper_cell r v rate dt i j hi hj)
        (room_up (cell_room_lem (grid_of r) (valid_proper r v) s v.kept dt st i j hi hj) v.kept.pumped)

    well_space : Room total_limit r.well_loss (map (well_flow a) (range 0 layers))
    unfolding grid_of loss_at state_of layers_of one_per_place
    well_space = rw (map_ext (range 0 layers) {f = well_flow a} {g = λ i. ifℤ (is_screened r.site.screened i) (flow N s.losses dt (across_face (grid_of r) i 0))} (λ i m. from_well_lem r v rate dt i (range-below layers m)))
        (room_up (well_room_lem (grid_of r) (valid_proper r v) s v.kept dt st) v.kept.pumped)

    last-space : Room total_limit r.inflow (map (λ i. neg_ℤ (to_last a i)) (range 0 layers))
    unfolding grid_of state_of layers_of
    last-space = rw (map_ext (range 0 layers) {f = λ i. neg_ℤ (to_last a i)} {g = λ i. neg_ℤ (flow N s.losses dt (across_face (grid_of r) i (columns - 1)))} (λ i m. ap neg_ℤ (to_last_lem r v rate dt i (range-below layers m))))
        (room_up (last_room_lem (grid_of r) (valid_proper r v) s v.kept dt st (omega (arith, (counted r v).columns_least))) v.kept.pumped)

    pub workable : rate ≤ rate_limit → dt ≤ length_limit → Workable a
    unfolding depth well_depth well_flow down_of
    workable small short = record {
      layers = ((counted r v).layers_least, (counted r v).layers_most);
      columns = ((counted r v).columns_least, (counted r v).columns_most);
      thickness = (omega (arith, top_layer.thickness_least), omega (arith, top_layer.thickness_most));
      tabled = record {
        thickness_most = top_layer.thickness_most;
        kv₁_most = top_layer.kv_most;
        b₂_least = next_layer.thickness_least;
        b₂_most = next_layer.thickness_most;
        kv₂_most = next_layer.kv_most;
        areas_most = λ k h. (areas_of_lem r.site (valid_limits r v)).most (k + 1) (omega arith);
        fits = λ k h. let column : k + 1 < columns = omega arith in rw ((areas_of_lem r.site (valid_limits r v)).at (k + 1) column) (table_fits r v (k + 1) (omega arith) column);
      };
      rate = small;
      dt = short;
      storages = storage_small r v;
      well_storage = well_storage_small r v;
      losses = loss_natural r v;
      depths = depth_small r v;
      table = table_shallow r v;
      well = well_ask r v;
      rights = λ k h. right_small k (omega arith);
      lowers = lower_small;
      screens = screen_small_lem r v dt st;
      cell_room = λ k h lt. subst (λ n. Room total_limit (get_or r.losses n (pos 0)) (right a n ∷ lower a n ∷ neg_ℤ (left (water_of a) n) ∷ neg_ℤ (upper (water_of a) n) ∷ [])) (whole k) (cell_space (k / 50) (k % 50) (omega arith) (omega arith));
      well_room = well_space;
      last_room = last-space;
      idle = λ k h past. let few : k < 1000 = omega (arith, (counted r v).layers_most) in (depth_past r v k few past, lower_past r v rate dt k few past);
      unused = none_lost r v;
    }
      where
        whole : (k : ℕ) → 50 * (k / 50) + k % 50 ≡ k
        whole k = omega arith

        top_layer : LayerNumbers r.site 0
        top_layer = (numbers_hold_lem r.site v.numbers).layer 0 (omega (arith, (counted r v).layers_least))

        next_layer : LayerNumbers r.site 1
        next_layer = (numbers_hold_lem r.site v.numbers).layer 1 (counted r v).layers_least

  -- ---- what it gives

  cell_after : (i j : ℕ) → i < layers → suc j < columns → slot_after a (50 * i + j) ≡ loss_at (losses_after N s.losses rate dt) (place (grid_of r) i (suc j))
  unfolding slot_after changed loss_after ifℤ network_of grid_of
  cell_after i j hi hj =
      ap (λ t. ifℤ t (get_or r.losses k (pos 0) +ℤ right a k +ℤ lower a k -ℤ left (water_of a) k -ℤ upper (water_of a) k)) (lt-ltb (k % 50 + 1) columns (omega (arith, (counted r v).columns_most)))
      ∙ turn (get_or r.losses k (pos 0)) (right a k) (left (water_of a) k) (lower a k) (upper (water_of a) k)
      ∙ ap₂ ◌+ℤ◌ (ap₂ ◌+ℤ◌ (sym (loss_cell r v i j hi hj)) leaves) (sym not-pumped)
      ∙ sym (loss-after N s.losses rate dt (place (grid_of r) i (suc j)) (place-below (grid_of r) i j hi hj))
    where
      k : ℕ
      k = 50 * i + j

      turn : (x r l d u : ℤ) → x +ℤ r +ℤ d -ℤ l -ℤ u ≡ x +ℤ (r -ℤ l +ℤ d -ℤ u) +ℤ pos 0
      turn x r l d u = rw (+ℤ_idr (x +ℤ (r -ℤ l +ℤ d -ℤ u))) (simp regroup)

      leaves : right a (50 * i + j) -ℤ left (water_of a) (50 * i + j) +ℤ lower a (50 * i + j) -ℤ upper (water_of a) (50 * i + j) ≡ outflow N (flow N s.losses dt) (place (grid_of r) i (suc j))
      leaves = rw (right_cell r v rate dt i j hi hj, left_cell r v rate dt i j hi hj, lower_cell r v rate dt i j hi hj, upper_cell r v rate dt i j hi hj)
          (sym (outflow_cell (grid_of r) (flow N s.losses dt) i j hi hj))

      not-pumped : ifℤ (eqb 0 (place (grid_of r) i (suc j))) (pos (rate * dt)) ≡ pos 0
      not-pumped = rw (ne_eqb 0 (place (grid_of r) i (suc j)) (λ e. absurd (omega (arith, e ∙ place_cell (grid_of r) i j hj))))

  pub worked_well : well_after a ≡ loss_at (losses_after N s.losses rate dt) 0
  unfolding well_after loss_after ifℤ grid_of layers_of loss_at state_of one_per_place
  worked_well =
      ap (λ z. r.well_loss +ℤ z +ℤ pos (rate * dt)) (sumℤ_ext (range 0 layers) (λ i m. from_well_lem r v rate dt i (range-below layers m)) ∙ sym (outflow_well (grid_of r) (flow N s.losses dt)))
      ∙ sym (loss-after N s.losses rate dt 0 (valid_proper r v).well)

  pub worked_inflow : inflow_after a ≡ r.inflow +ℤ from_last_column N s.losses dt
  unfolding inflow_after from_last_column grid_of layers_of
  worked_inflow = ap (λ z. r.inflow +ℤ z) (sumℤ_ext (range 0 layers) (λ i m. ap neg_ℤ (to_last_lem r v rate dt i (range-below layers m)))
      ∙ sym (inward-last (grid_of r) (flow N s.losses dt) (omega (arith, (counted r v).columns_least))))

  -- V of a layer and column, 0 where there is no cell
  abbrev after : ℕ → ℕ → ℤ
  after i j = cond (is_cell r.site i j) (loss_at (losses_after N s.losses rate dt) (place (grid_of r) i j)) (pos 0)

  -- in each slot, filled or left as it was
  slot-after : (z : List ℤ) → length z ≡ 1000 → ((k : ℕ) → get_or z k (pos 0) ≡ pos 0) → (k : ℕ) → k < 1000 → get_or (fill (50 * layers) (slot_after a) z) k (pos 0) ≡ after (k / 50) (k % 50 + 1)
  unfolding slot_after ifℤ is_cell
  slot-after z long none k h = ⊎_elim
      (λ lt. get_or-fill (slot_after a) z (50 * layers) k (pos 0) lt (omega arith) ∙ ⊎_elim (used lt)
      (λ past. rw (le-ltb (k % 50 + 1) columns past, and-false (ltb (k / 50) layers)))
      (below_or_not (k % 50 + 1) columns))
      (λ le. get_or-fill_rest (slot_after a) z (50 * layers) k (pos 0) le ∙ none k ∙ sym (rw (le-ltb (k / 50) layers (omega arith))))
      (below_or_not k (50 * layers))
    where
      whole : 50 * (k / 50) + k % 50 ≡ k
      whole = omega arith

      next : k % 50 + 1 ≡ suc (k % 50)
      next = omega arith

      used : k < 50 * layers → k % 50 + 1 < columns → slot_after a k ≡ after (k / 50) (k % 50 + 1)
      used lt col = ap (slot_after a) (sym whole) ∙ cell_after (k / 50) (k % 50) (omega arith) (omega arith)
          ∙ sym (rw (lt-ltb (k / 50) layers (omega arith), lt-ltb (k % 50 + 1) columns col, next))

  filled_cell : (z : List ℤ) → length z ≡ 1000 → (i j : ℕ) → i < layers → suc j < columns
      → get_or (fill (50 * layers) (slot_after a) z) (50 * i + j) (pos 0) ≡ loss_at (losses_after N s.losses rate dt) (place (grid_of r) i (suc j))
  filled_cell z long i j hi hj =
      get_or-fill (slot_after a) z (50 * layers) (50 * i + j) (pos 0) (omega (arith, (counted r v).columns_most)) (omega (arith, (counted r v).columns_most, (counted r v).layers_most))
      ∙ cell_after i j hi hj

  slots-after : (z : List ℤ) → length z ≡ 1000 → ((k : ℕ) → get_or z k (pos 0) ≡ pos 0) → fill (50 * layers) (slot_after a) z ≡ slots after
  unfolding slots
  slots-after z long none = ext_get_or (pos 0) (fill (50 * layers) (slot_after a) z) (slots after)
      (filled ∙ sym (length-map (range 0 1000) (λ k. after (k / 50) (k % 50 + 1)) ∙ length-range 0 1000))
      (λ k h. slot-after z long none k (omega (arith, h, filled)) ∙ sym (get_or-map-range (λ k. after (k / 50) (k % 50 + 1)) (pos 0) 0 1000 k (omega (arith, h, filled)) ∙ ap (λ n. after (n / 50) (n % 50 + 1)) (zero-add k)))
    where
      filled : length (fill (50 * layers) (slot_after a) z) ≡ 1000
      filled = length-fill (slot_after a) z (50 * layers) ∙ long

  pub worked_losses : losses_of a ≡ slots after
  unfolding losses_of
  worked_losses = slots-after (replicate 1000 (pos 0)) (length-replicate 1000 (pos 0)) (λ k. get_or_same 1000 k (pos 0))

  pub worked_cell : (i j : ℕ) → i < layers → suc j < columns → get_or (losses_of a) (50 * i + j) (pos 0) ≡ loss_at (losses_after N s.losses rate dt) (place (grid_of r) i (suc j))
  unfolding losses_of
  worked_cell = filled_cell (replicate 1000 (pos 0)) (length-replicate 1000 (pos 0))
