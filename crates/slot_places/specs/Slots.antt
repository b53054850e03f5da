-- V, S and D of a valid record, by slot and by place, are the same: laws only, nothing to believe.
--     none_lost, loss_past, across_past, down_past, storage_past, depth_past     a slot that no cell uses holds 0
--     loss_cell         V of slot 50×i + j is V of the place of layer i and column j+1
--     depth-column      so for D, in the last column too; depth_well: of the well
--     loss_natural, storage_small, depth_small, table_shallow                    each is within its limits
use Rattle.std.specs.Prelude.{◌≡◌, Bool, true, false, not, ◌||◌, ◌⊎◌, List, ℕ, suc, ◌+◌, ◌*◌, ◌-◌, ◌/◌, ◌%◌, ◌^◌, ◌≤◌, ◌<◌, eqb, ltb, ℤ, negsuc, ◌*ℤ◌, ◌≤ℤ◌}
use Rattle.std.proofs.Math.Path.{refl, sym, ap}
use Rattle.std.proofs.Common.{ap₂, subst, ◌∙◌, true≢false, inr, zero-le}
use Rattle.std.proofs.Math.Bool.{and-false}
use Rattle.std.proofs.lemmas.Bool.{false≢true}
use Rattle.std.proofs.Math.Logic.{⊎_elim}
use mathlib.Core.List.Memᴰ
use Rattle.std.proofs.Math.Nat.{zero-mul, zero-div}
use native.Mathlib.Omega.{arith}
use Rattle.std.proofs.Math.IntN.{pos}
use Rattle.std.proofs.Math.ListN.{get_or, get_or-eq_default}
use Rattle.std.specs.Int.Signed.{shr_z}
use borrow.Author.Tests.{eqb-true, le-ltb, not-true}
use Rattle.laws.specs.All.{all_at}
use Rattle.laws.specs.Integer.{pos_≤ℤ, not_past}
use Rattle.laws.specs.Number.{below_or_not}
use Rattle.laws.specs.Rows.{three_hold}
use Rattle.laws.specs.Sums.{mem_range, none_at}
use Rattle.limits.specs.Limits.{storage_limit, drawdown_limit}
use Rattle.network.specs.Network.{Network, loss_at, storage_at, drawdown, table_too_deep}
use Rattle.network.specs.Grid.{place, place_count, stored_columns, one_per_place, network_of}
use Rattle.network.proofs.laws.Places.{place-last, place-below, get_or_one}
use Rattle.geometry.specs.Geometry.{well_storage}
use Rattle.site.specs.Laws.{counts_hold_lem, numbers_hold_lem}
use Rattle.site.specs.Limited.{Counts}
use Rattle.site.specs.Site.{is_screened, screen_layer, screen_top, screen_holds}
use Rattle.record.specs.declared.Record.{Record}
use Rattle.record.specs.Record.{slot, is_cell, has_below, grid_of, state_of}
use Rattle.coefficient_slots.specs.Slots.{used_slot}
use Rattle.coefficient_slots.specs.Laws.{UnusedSlots, unused_slots}
use Rattle.validity.specs.Validity.{is_zero_ℤ, losses_unused}
use Rattle.validity.specs.Laws.{Valid}
use Rattle.step_drawdowns.specs.Drawdowns.{depth_of, depth_at}

-- ---- a slot that is not used

pub unused_zero : (used : Bool) (x : ℕ) → (used || eqb x 0) ≡ true → used ≡ false → x ≡ 0
unused_zero true x e u = absurd (true≢false u)
unused_zero false x e u = eqb-true x 0 e

unused_none : (used : Bool) (z : ℤ) → (used || is_zero_ℤ z) ≡ true → used ≡ false → z ≡ pos 0
unused_none true z e u = absurd (true≢false u)
unused_none false (pos n) e u = ap pos (eqb-true n 0 e)
unused_none false (negsuc n) e u = absurd (false≢true e)

-- the slot of a layer and a column
pub slot_at : (i j : ℕ) → slot i (suc j) ≡ 50 * i + j
unfolding slot
slot_at i j = omega arith

module _ (r : Record) (v : Valid r) where
  abbrev N : Network
  N = network_of (grid_of r)

  abbrev vs : List ℤ
  vs = (state_of r).losses

  abbrev depth : ℕ → ℤ
  depth = depth_at r.losses r.storages

  pub counted : Counts r.site
  counted = counts_hold_lem r.site v.counts

  -- layer 1 has no screen
  pub dry : is_screened r.site.screened 0 ≡ false
  unfolding screen_holds
  dry = not-true _ (three_hold (ltb (screen_layer r.site) r.site.layers) (not (is_screened r.site.screened 0)) (ltb r.site.intake (screen_top r.site)) v.screen).1

  pub unused_each : UnusedSlots r
  unused_each = unused_slots r v.coefficients_unused

  -- nothing is lost where there is no cell
  no_cell : (k : ℕ) → ((50 * r.site.layers ≤ k) ⊎ (r.site.columns ≤ k % 50 + 1)) → used_slot (is_cell r.site) k ≡ false
  unfolding is_cell
  no_cell k u = ⊎_elim
      (λ below. rw (le-ltb (k / 50) r.site.layers (omega arith)))
      (λ past. rw (le-ltb (k % 50 + 1) r.site.columns past) (and-false (ltb (k / 50) r.site.layers)))
      u

  pub none_lost : (k : ℕ) → k < 1000 → ((50 * r.site.layers ≤ k) ⊎ (r.site.columns ≤ k % 50 + 1)) → get_or r.losses k (pos 0) ≡ pos 0
  unfolding losses_unused
  none_lost k h u = unused_none (used_slot (is_cell r.site) k) (get_or r.losses k (pos 0)) (all_at (λ k. used_slot (is_cell r.site) k || is_zero_ℤ (get_or r.losses k (pos 0))) 1000 k v.losses_unused h) (no_cell k u)

  module _ (k : ℕ) (h : k < 1000) (past : r.site.columns ≤ k % 50 + 1) where
    pub loss_past : get_or r.losses k (pos 0) ≡ pos 0
    loss_past = none_lost k h (inr past)

    pub across_past : get_or r.horizontal k 0 ≡ 0
    unfolding is_cell
    across_past = unused_zero (used_slot (is_cell r.site) k) (get_or r.horizontal k 0) (unused_each.across k h)
        (rw (le-ltb (k % 50 + 1) r.site.columns past) (and-false (ltb (k / 50) r.site.layers)))

    pub down_past : get_or r.vertical k 0 ≡ 0
    unfolding has_below
    down_past = unused_zero (used_slot (has_below r.site) k) (get_or r.vertical k 0) (unused_each.down k h)
        (rw (le-ltb (k % 50 + 1) r.site.columns past) (and-false (ltb (suc (k / 50)) r.site.layers)))

    pub storage_past : get_or r.storages k 0 ≡ 0
    unfolding is_cell
    storage_past = unused_zero (used_slot (is_cell r.site) k) (get_or r.storages k 0) (unused_each.storage k h)
        (rw (le-ltb (k % 50 + 1) r.site.columns past) (and-false (ltb (k / 50) r.site.layers)))

    pub depth_past : depth k ≡ pos 0
    unfolding depth_at depth_of
    depth_past = rw (loss_past, zero-mul, zero-div)

  -- ---- D

  module _ (i j : ℕ) (hi : i < r.site.layers) (hj : suc j < r.site.columns) where
    pub loss_cell : loss_at vs (place (grid_of r) i (suc j)) ≡ get_or r.losses (50 * i + j) (pos 0)
    unfolding loss_at state_of grid_of
    loss_cell = get_or_one (grid_of r) r.well_loss (λ i j. get_or r.losses (slot i j) (pos 0)) (pos 0) i j hi hj ∙ ap (λ n. get_or r.losses n (pos 0)) (slot_at i j)

    storage_cell : storage_at N (place (grid_of r) i (suc j)) ≡ get_or r.storages (50 * i + j) 0
    unfolding storage_at network_of grid_of
    storage_cell = get_or_one (grid_of r) r.well_storage (grid_of r).storage 0 i j hi hj ∙ ap (λ n. get_or r.storages n 0) (slot_at i j)

    depth_cell : depth (50 * i + j) ≡ drawdown N vs (place (grid_of r) i (suc j))
    unfolding depth_at depth_of drawdown
    depth_cell = sym (ap₂ (λ x s. shr_z (x *ℤ pos (10 ^ 6)) s) loss_cell storage_cell)

  -- nothing is stored outside
  depth-last : (i j : ℕ) → r.site.columns ≤ suc j → drawdown N vs (place (grid_of r) i (suc j)) ≡ pos 0
  unfolding drawdown loss_at network_of grid_of
  depth-last i j h = rw (place-last (grid_of r) i j h, get_or-eq_default vs (pos 0) {n = place_count (grid_of r)} (omega (arith, v.kept.listed)), zero-mul, zero-div)

  -- the last column too
  pub depth-column : (i j : ℕ) → i < r.site.layers → j < r.site.columns → depth (50 * i + j) ≡ drawdown N vs (place (grid_of r) i (suc j))
  depth-column i j hi hj = ⊎_elim (depth_cell i j hi)
      (λ le. depth_past (50 * i + j) (omega (arith, counted.layers_most, counted.columns_most)) (omega (arith, counted.columns_most)) ∙ sym (depth-last i j le))
      (below_or_not (suc j) r.site.columns)

  pub depth_well : depth_of r.well_loss r.well_storage ≡ drawdown N vs 0
  unfolding depth_of drawdown loss_at storage_at network_of state_of grid_of one_per_place
  depth_well = refl

  -- a slot of the layers has the number 50×i + j, with j below 50
  pub by_slot : (P : ℕ → Type 0) → ((i j : ℕ) → i < r.site.layers → suc j < r.site.columns → P (50 * i + j))
      → ((k : ℕ) → k < 1000 → r.site.columns ≤ k % 50 + 1 → P k) → (k : ℕ) → k < 50 * r.site.layers → P k
  by_slot P cell past k h = ⊎_elim
      (λ lt. subst P whole (cell (k / 50) (k % 50) (omega arith) (omega arith)))
      (λ le. past k (omega (arith, counted.layers_most)) le)
      (below_or_not (k % 50 + 1) r.site.columns)
    where
      whole : 50 * (k / 50) + k % 50 ≡ k
      whole = omega arith

  -- ---- limits

  pub loss_natural : (k : ℕ) → k < 50 * r.site.layers → pos 0 ≤ℤ get_or r.losses k (pos 0)
  unfolding network_of grid_of
  loss_natural = by_slot (λ k. pos 0 ≤ℤ get_or r.losses k (pos 0))
      (λ i j hi hj. rw (loss_cell i j hi hj) at (v.kept.losses (place (grid_of r) i (suc j)) (place-below (grid_of r) i j hi hj)))
      (λ k h past. rw (loss_past k h past) (pos_≤ℤ zero-le))

  pub storage_small : (k : ℕ) → k < 50 * r.site.layers → get_or r.storages k 0 < 2 ^ 63
  unfolding grid_of
  storage_small = by_slot (λ k. get_or r.storages k 0 < 2 ^ 63)
      (λ i j hi hj.
      let most : get_or r.storages (slot i (suc j)) 0 ≤ storage_limit = (v.coefficients.storage i (suc j) hi (omega arith) hj).most in
      omega (arith, rw (slot_at i j) at most))
      (λ k h past. rw (storage_past k h past) (omega arith))

  pub well_storage_small : r.well_storage < 2 ^ 63
  unfolding well_storage
  well_storage_small = omega (arith, v.well_storage, (numbers_hold_lem r.site v.numbers).well.area_most)

  pub depth_small : (k : ℕ) → k < 50 * r.site.layers → depth k ≤ℤ pos drawdown_limit
  unfolding network_of grid_of
  depth_small = by_slot (λ k. depth k ≤ℤ pos drawdown_limit)
      (λ i j hi hj. rw (depth-column i j hi (omega arith)) (v.kept.depths (place (grid_of r) i (suc j)) (place-below (grid_of r) i j hi hj)))
      (λ k h past. rw (depth_past k h past) (pos_≤ℤ zero-le))

  pub table_shallow : (k : ℕ) → k < r.site.columns → depth k ≤ℤ pos (1000 * get_or r.site.thickness 0 0)
  unfolding table_too_deep network_of grid_of stored_columns
  table_shallow k h = ⊎_elim
      (λ lt. rw (ap depth top ∙ depth-column 0 k (omega (arith, counted.layers_least)) h) (not_past (none_at _ v.kept.table (Memᴰ.map (place (grid_of r) 0) (mem_range (r.site.columns - 1) (omega arith) (omega arith))))))
      (λ le. rw (depth_past k (omega (arith, counted.columns_most)) (omega (arith, counted.columns_most))) (pos_≤ℤ zero-le))
      (below_or_not (suc k) r.site.columns)
    where
      top : k ≡ 50 * 0 + k
      top = omega arith
