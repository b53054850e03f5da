-- 8 by slot is the network's by place: laws only, nothing to believe.
--     steady_asks        no slot of a valid record's C is over the limit
--     steady_valid       8 of a valid record
--     cell_c, well_c     the sums of C by slot are those of the places; cell_s: so is S
use Rattle.std.proofs.Common.{◌≡◌, true, false, ◌||◌, eqb, ltb, refl, sym, ap, ap₂, subst, ◌∙◌, Bool, ⊎_elim, ℕ, zero, suc, ◌+◌, ◌*◌, ◌-◌, ◌/◌, ◌%◌, ◌^◌, ◌≤◌, ◌<◌, arith, leb, get_or, eqb-true, ltb-true, lt-ltb, le-ltb, le-leb, ne_eqb, eq-eqb}
use borrow.Author.Tests.{lt-leb}
use Rattle.laws.specs.Lists.{all_below, ifℕ, range}
use Rattle.laws.specs.All.{all_at, and_left, and_right}
use Rattle.laws.specs.Number.{below_or_not}
use Rattle.laws.specs.Rows.{same_test, all_from}
use Rattle.laws.specs.Sums.{sumℕ_ext, range-below}
use Rattle.limits.specs.Limits.{conductance_limit}
use Rattle.network.specs.Network.{storage_at, conductance_sum, stable}
use Rattle.network.specs.Grid.{place, place_count, layers_of, one_per_place, network_of}
use Rattle.network.proofs.laws.Cells.{joined, conductance_cell, conductance_well}
use Rattle.network.proofs.laws.Places.{by_place, place-below, get_or_one}
use Rattle.site.specs.Site.{is_screened, counts_hold}
use Rattle.site.specs.Laws.{counts_hold_lem}
use Rattle.site.specs.Limited.{Counts}
use Rattle.record.specs.declared.Record.{Record}
use Rattle.record.specs.Record.{slot, is_cell, has_below, has_screen, across_in, grid_of}
use Rattle.coefficient_slots.specs.Slots.{used_slot, coefficients_unused}
use Rattle.coefficient_slots.specs.Laws.{Coefficients, UnusedSlots, unused_slots}
use Rattle.validity.specs.Validity.{valid}
use Rattle.validity.specs.Laws.{Valid, valid_record}
use Rattle.step_stability.specs.Stability.{Limited, inward_c, upper_c, cell_sum, well_sum, cell_steady, slots_steady}

-- what stands in a slot that may be unused, taken only where it is used
if_used : (used t : Bool) (x : ℕ) → (used || eqb x 0) ≡ true → (used ≡ true → t ≡ true) → ifℕ t x ≡ x
unfolding ifℕ
if_used true t x e h = rw (h refl)
if_used false true x e h = refl
if_used false false x e h = sym (eqb-true x 0 e)

at_most : (used : Bool) (x n : ℕ) → (used || eqb x 0) ≡ true → (used ≡ true → x ≤ n) → x ≤ n
at_most true x n e h = h refl
at_most false x n e h = omega (arith, eqb-true x 0 e)

slot_of : (k : ℕ) → slot (k / 50) (suc (k % 50)) ≡ k
unfolding slot
slot_of k = omega arith

module _ (r : Record) (counts : counts_hold r.site ≡ true) (unused : coefficients_unused r ≡ true) where
  limits : Counts r.site
  limits = counts_hold_lem r.site counts

  unused_each : UnusedSlots r
  unused_each = unused_slots r unused

  limited : Coefficients (grid_of r) → Limited r.screen r.horizontal r.vertical
  unfolding has_screen is_cell has_below grid_of across_in
  limited c = record {
    well = λ i h. at_most (has_screen r.site i) (get_or r.screen i 0) conductance_limit (unused_each.screen i h) (λ u.
        c.screen i (ltb-true _ _ (and_left (ltb i r.site.layers) (is_screened r.site.screened i) u)) (and_right (ltb i r.site.layers) (is_screened r.site.screened i) u));
    across = λ k h. at_most (used_slot (is_cell r.site) k) (get_or r.horizontal k 0) conductance_limit (unused_each.across k h) (λ u.
        let i : k / 50 < r.site.layers = ltb-true _ _ (and_left (ltb (k / 50) r.site.layers) (ltb (k % 50 + 1) r.site.columns) u) in
        let j : k % 50 + 1 < r.site.columns = ltb-true _ _ (and_right (ltb (k / 50) r.site.layers) (ltb (k % 50 + 1) r.site.columns) u) in
        subst (λ n. get_or r.horizontal n 0 ≤ conductance_limit) (slot_of k) (c.across (k / 50) (suc (k % 50)) i (omega arith) (omega arith)));
    down = λ k h. at_most (used_slot (has_below r.site) k) (get_or r.vertical k 0) conductance_limit (unused_each.down k h) (λ u.
        let i : suc (k / 50) < r.site.layers = ltb-true _ _ (and_left (ltb (suc (k / 50)) r.site.layers) (ltb (k % 50 + 1) r.site.columns) u) in
        let j : k % 50 + 1 < r.site.columns = ltb-true _ _ (and_right (ltb (suc (k / 50)) r.site.layers) (ltb (k % 50 + 1) r.site.columns) u) in
        subst (λ n. get_or r.vertical n 0 ≤ conductance_limit) (slot_of k) (c.down (k / 50) (suc (k % 50)) i (omega arith) (omega arith)));
  }

  -- the well's face, with a layer that may be without screen
  screened_c : (i : ℕ) → i < r.site.layers → ifℕ (is_screened r.site.screened i) (get_or r.screen i 0) ≡ get_or r.screen i 0
  unfolding has_screen
  screened_c i h = if_used (has_screen r.site i) (is_screened r.site.screened i) (get_or r.screen i 0) (unused_each.screen i (omega (arith, limits.layers_most)))
      (and_right (ltb i r.site.layers) (is_screened r.site.screened i))

  module _ (i j : ℕ) (hi : i < r.site.layers) (hj : suc j < r.site.columns) where
    abbrev k : ℕ
    k = slot i (suc j)

    at : k ≡ 50 * i + j
    unfolding slot
    at = omega arith

    short : k < 1000
    short = omega (arith, at, limits.layers_most, limits.columns_most)

    layer : k / 50 ≡ i
    layer = omega (arith, at, limits.columns_most)

    column : k % 50 ≡ j
    column = omega (arith, at, limits.columns_most)

    lower_c : ifℕ (ltb (suc i) r.site.layers) (get_or r.vertical k 0) ≡ get_or r.vertical k 0
    unfolding has_below
    lower_c = if_used (used_slot (has_below r.site) k) (ltb (suc i) r.site.layers) (get_or r.vertical k 0) (unused_each.down k short)
        (λ e. and_left (ltb (suc i) r.site.layers) (ltb (k % 50 + 1) r.site.columns) (rw layer at e))

    upper_c_lem : ifℕ (ltb 0 i) (get_or r.vertical (slot (i - 1) (suc j)) 0) ≡ upper_c r.vertical k
    unfolding upper_c ifℕ slot
    upper_c_lem = go i at
      where
        go : (i : ℕ) → k ≡ 50 * i + j → ifℕ (ltb 0 i) (get_or r.vertical (slot (i - 1) (suc j)) 0) ≡ upper_c r.vertical k
        go zero e = rw (lt-ltb k 50 (omega (arith, limits.columns_most)))
        go (suc a) e = rw (lt-ltb 0 (suc a) (omega arith), le-ltb k 50 (omega arith)) (ap (λ n. get_or r.vertical n 0) (omega arith))

    inward_c_lem : ifℕ (joined (grid_of r) i j) (across_in r.screen r.horizontal i j) ≡ inward_c r.screen r.horizontal k
    unfolding inward_c ifℕ joined across_in grid_of slot
    inward_c_lem = go j at column
      where
        go : (j : ℕ) → k ≡ 50 * i + j → k % 50 ≡ j → ifℕ (joined (grid_of r) i j) (across_in r.screen r.horizontal i j) ≡ inward_c r.screen r.horizontal k
        go zero e q = rw (eq-eqb (k % 50) 0 q, layer) (screened_c i hi)
        go (suc b) e q = rw (ne_eqb (k % 50) 0 (omega arith)) (ap (λ n. get_or r.horizontal n 0) (omega arith))

    pub cell_c : conductance_sum (network_of (grid_of r)) (place (grid_of r) i (suc j)) ≡ cell_sum r.screen r.horizontal r.vertical k
    unfolding cell_sum grid_of across_in
    cell_c = conductance_cell (grid_of r) i j hi hj ∙ ap₂ ◌+◌ (ap₂ ◌+◌ (ap₂ ◌+◌ refl inward_c_lem) lower_c) upper_c_lem

    pub cell_s : storage_at (network_of (grid_of r)) (place (grid_of r) i (suc j)) ≡ get_or r.storages k 0
    unfolding storage_at network_of grid_of
    cell_s = get_or_one (grid_of r) r.well_storage (grid_of r).storage 0 i j hi hj

  pub well_c : conductance_sum (network_of (grid_of r)) 0 ≡ well_sum r.site.layers r.screen
  unfolding well_sum grid_of layers_of across_in
  well_c = conductance_well (grid_of r) ∙ sumℕ_ext (range 0 r.site.layers) (λ i m. screened_c i (range-below r.site.layers m))

  module _ (dt : ℕ) where
    -- 8 at one place
    holds : ℕ → Bool
    holds p = leb (dt * conductance_sum (network_of (grid_of r)) p) (10 ^ 6 * storage_at (network_of (grid_of r)) p)

    cells : ℕ → Bool
    cells = cell_steady r.site.columns r.screen r.horizontal r.vertical r.storages dt

    same_cell : (i j : ℕ) → i < r.site.layers → suc j < r.site.columns → holds (place (grid_of r) i (suc j)) ≡ cells (50 * i + j)
    unfolding holds cells cell_steady
    same_cell i j hi hj =
        ap₂ (λ c s. leb (dt * c) (10 ^ 6 * s)) (cell_c i j hi hj ∙ ap (cell_sum r.screen r.horizontal r.vertical) (at i j hi hj)) (cell_s i j hi hj ∙ ap (λ n. get_or r.storages n 0) (at i j hi hj))
        ∙ rw (column', lt-leb r.site.columns (j + 1) (omega arith))
      where
        column' : (50 * i + j) % 50 ≡ j
        column' = omega (arith, limits.columns_most)

    same_well : holds 0 ≡ leb (dt * well_sum r.site.layers r.screen) (10 ^ 6 * r.well_storage)
    unfolding holds storage_at network_of grid_of one_per_place
    same_well = ap (λ c. leb (dt * c) (10 ^ 6 * r.well_storage)) well_c

    in_slot : all_below (place_count (grid_of r)) holds ≡ true → (k : ℕ) → k < r.site.layers * 50 → cells k ≡ true
    unfolding cells cell_steady grid_of
    in_slot e k h = ⊎_elim
        (λ lt. ap cells whole ∙ sym (same_cell (k / 50) (k % 50) (omega arith) (omega arith))
        ∙ all_at holds (place_count (grid_of r)) (place (grid_of r) (k / 50) (suc (k % 50))) e (place-below (grid_of r) (k / 50) (k % 50) (omega arith) (omega arith)))
        (λ le. rw (le-leb r.site.columns (k % 50 + 1) le))
        (below_or_not (k % 50 + 1) r.site.columns)
      where
        whole : k ≡ 50 * (k / 50) + k % 50
        whole = omega arith

    steady_network : slots_steady r.site.layers r.site.columns r.screen r.horizontal r.vertical r.storages r.well_storage dt ≡ stable (network_of (grid_of r)) dt
    unfolding slots_steady stable holds cells network_of grid_of place_count
    steady_network = same_test _ _
        (λ e. all_from holds (place_count (grid_of r))
        (by_place (grid_of r) (λ p. holds p ≡ true) (same_well ∙ and_left well_holds_lem (all_below (r.site.layers * 50) cells) e)
        (λ i j hi hj. same_cell i j hi hj ∙ all_at cells (r.site.layers * 50) (50 * i + j) (and_right well_holds_lem (all_below (r.site.layers * 50) cells) e) (omega (arith, limits.columns_most)))))
        (λ e. rw (sym same_well ∙ all_at holds (place_count (grid_of r)) 0 e (omega arith), all_from cells (r.site.layers * 50) (in_slot e)))
      where
        well_holds_lem : Bool
        well_holds_lem = leb (dt * well_sum r.site.layers r.screen) (10 ^ 6 * r.well_storage)

-- ---- a valid record
module _ (r : Record) (ok : valid r ≡ true) where
  known : Valid r
  known = valid_record r ok

  pub steady_asks : (r.site.layers ≤ 20) × Limited r.screen r.horizontal r.vertical
  steady_asks = ((counts_hold_lem r.site known.counts).layers_most, limited r known.counts known.coefficients_unused known.coefficients)

  pub steady_valid : (dt : ℕ) → slots_steady r.site.layers r.site.columns r.screen r.horizontal r.vertical r.storages r.well_storage dt ≡ stable (network_of (grid_of r)) dt
  steady_valid = steady_network r known.counts known.coefficients_unused
