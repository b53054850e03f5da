-- What the test of the slots says, whose numbers are capped: it is that of 6, and where it holds no number was capped.
use Rattle.std.proofs.Common.{◌≡◌, refl, sym, ap, ◌∙◌, Bool, true, false, cond, ◌&&◌, List, ⊎_elim, ℕ, suc, ◌+◌, ◌-◌, ◌/◌, ◌%◌, ◌^◌, ◌≤◌, ◌<◌, arith, ltb-true, leb, ltb, pos, replicate, Some, None}
use Rattle.std.proofs.Math.Bool.{and-true, and-false}
use Rattle.std.proofs.lemmas.Bool.{lt-leb}
use Rattle.laws.specs.All.{and_left, and_right}
use Rattle.laws.specs.Number.{below_or_not}
use Rattle.laws.specs.Ranges.{map-range_ext}
use Rattle.words.specs.Laws.{fitted-word, fitted_over}
use Rattle.limits.specs.Limits.{conductance_limit, storage_limit, between}
use Rattle.geometry.specs.Geometry.{well_storage}
use Rattle.site.specs.declared.Site.{Site}
use Rattle.site.specs.Laws.{counts_hold_lem}
use Rattle.site.specs.Site.{is_screened, counts_hold}
use Rattle.record.specs.declared.Record.{Record}
use Rattle.record.specs.Record.{slots, layer_slots, is_cell, has_below, has_screen, grid_of}
use Rattle.coefficient_slots.specs.Held.{slots_hold}
use Rattle.coefficient_slots.specs.Laws.{Alike, coefficients_hold_lem, coefficients_ext, slots-coefficients}
use Rattle.coefficient_slots.specs.Slots.{coefficients_hold, coefficients_unused}
use Rattle.coefficient_cells.specs.Cells.{across_of, down_of, storage_of}
use Rattle.coefficients.specs.Coefficients.{scenario_grid, start_record, coefficients_of}
use Rattle.coefficients.specs.Laws.{slotted, slotted_unused, screen_at_lem, across_at, down_at, storage_at_lem}
use Rattle.coefficient_cells.specs.Worked.{word_of, capped, slot_of}

-- ---- a capped number is within a limit where the number is, and then it is the number
capped_fits : {n : ℕ} → n < 2 ^ 64 → capped n ≡ n
unfolding capped
capped_fits h = ap word_of (fitted-word h)

capped_over : {n : ℕ} → 2 ^ 64 ≤ n → capped n ≡ 2 ^ 64 - 1
unfolding capped
capped_over h = ap word_of (fitted_over h)

past : (lo : ℕ) {hi n : ℕ} → hi < n → between lo hi n ≡ false
past lo {hi} {n} h = rw (lt-leb n hi h) (and-false (leb lo n))

within_capped : (lo hi n : ℕ) → hi < 2 ^ 64 - 1 → between lo hi (capped n) ≡ between lo hi n
within_capped lo hi n h =
    ⊎_elim (λ fits. ap (between lo hi) (capped_fits fits))
    (λ over. ap (between lo hi) (capped_over over) ∙ past lo h ∙ sym (past lo (omega arith)))
    (below_or_not n (2 ^ 64))

most_capped : (hi n : ℕ) → hi < 2 ^ 64 - 1 → leb (capped n) hi ≡ leb n hi
most_capped hi n h =
    ⊎_elim (λ fits. ap (λ (x : ℕ). leb x hi) (capped_fits fits))
    (λ over. ap (λ (x : ℕ). leb x hi) (capped_over over) ∙ lt-leb (2 ^ 64 - 1) hi h ∙ sym (lt-leb n hi (omega arith)))
    (below_or_not n (2 ^ 64))

-- ---- a slot
slot_held : (b : Bool) {n hi : ℕ} → hi < 2 ^ 64 → (b ≡ true → n ≤ hi) → slot_of b n ≡ cond b n 0
unfolding slot_of
slot_held true h f = let most = f refl in capped_fits (omega arith)
slot_held false h f = refl

slots-held : (used : ℕ → ℕ → Bool) (value : ℕ → ℕ → ℕ) (hi : ℕ) → hi < 2 ^ 64
    → ((i j : ℕ) → used i j ≡ true → 1 ≤ j → value i j ≤ hi)
    → slots (λ i j. slot_of (used i j) (value i j)) ≡ slots (λ i j. cond (used i j) (value i j) 0)
unfolding slots
slots-held used value hi small most =
    map-range_ext _ _ 0 1000 (λ k low h. slot_held (used (k / 50) (k % 50 + 1)) small (λ e. most (k / 50) (k % 50 + 1) e (omega arith)))

cell_inside : (s : Site) (i j : ℕ) → is_cell s i j ≡ true → (i < s.layers) × (j < s.columns)
unfolding is_cell
cell_inside s i j e =
    (ltb-true _ _ (and_left (ltb i s.layers) (ltb j s.columns) e), ltb-true _ _ (and_right (ltb i s.layers) (ltb j s.columns) e))

below-inside : (s : Site) (i j : ℕ) → has_below s i j ≡ true → (suc i < s.layers) × (j < s.columns)
unfolding has_below
below-inside s i j e =
    (ltb-true _ _ (and_left (ltb (suc i) s.layers) (ltb j s.columns) e), ltb-true _ _ (and_right (ltb (suc i) s.layers) (ltb j s.columns) e))

screen_inside : (s : Site) (i : ℕ) → has_screen s i ≡ true → (i < s.layers) × (is_screened s.screened i ≡ true)
unfolding has_screen
screen_inside s i e =
    (ltb-true _ _ (and_left (ltb i s.layers) (is_screened s.screened i) e), and_right (ltb i s.layers) (is_screened s.screened i) e)

module _ (s : Site) (counts : counts_hold s ≡ true) where
  -- ---- the test of the slots
  alike : Alike (grid_of (slotted slot_of s)) (scenario_grid s)
  unfolding grid_of slotted scenario_grid slot_of
  alike =
      let known = counts_hold_lem s counts in
      record {
        layers = refl;
        columns = refl;
        screened = λ i h. refl;
        screen = λ i h e. ap (λ (x : ℕ). leb x conductance_limit) (screen_at_lem slot_of s known i h e) ∙ most_capped conductance_limit (across_of s i 0) (omega arith);
        across = λ i j h one k. ap (λ (x : ℕ). leb x conductance_limit) (across_at slot_of s known i j h one k) ∙ most_capped conductance_limit (across_of s i j) (omega arith);
        down = λ i j h one k. ap (λ (x : ℕ). leb x conductance_limit) (down_at slot_of s known i j h one k) ∙ most_capped conductance_limit (down_of s i j) (omega arith);
        storage = λ i j h one k. ap (between 1 storage_limit) (storage_at_lem slot_of s known i j h one k) ∙ within_capped 1 storage_limit (storage_of s i j) (omega arith);
      }

  none_left : coefficients_unused (slotted slot_of s) ≡ true
  unfolding slot_of
  none_left = slotted_unused slot_of s (λ n. refl)

  module _ {screen horizontal vertical storages : List ℕ}
      (screens : screen ≡ layer_slots (λ i. slot_of (has_screen s i) (across_of s i 0)))
      (horizontals : horizontal ≡ slots (λ i j. slot_of (is_cell s i j) (across_of s i j)))
      (verticals : vertical ≡ slots (λ i j. slot_of (has_below s i j) (down_of s i j)))
      (stored : storages ≡ slots (λ i j. slot_of (is_cell s i j) (storage_of s i j)))
    where
      abbrev start : ℕ → Record
      start well = record {
        site = s;
        screen = screen;
        horizontal = horizontal;
        vertical = vertical;
        storages = storages;
        losses = replicate 1000 (pos 0);
        well_storage = well;
        well_loss = pos 0;
        pumped = 0;
        inflow = pos 0;
        time = 0;
        mark = pos 0;
      }

      judged : (well : ℕ) → well ≡ well_storage s.water_area → slots_hold (start well) ≡ coefficients_hold (scenario_grid s)
      unfolding slotted
      judged well w =
          rw (screens, horizontals, verticals, stored, w)
          (slots-coefficients (slotted slot_of s) counts
          ∙ ap (coefficients_hold (grid_of (slotted slot_of s)) &&◌) none_left
          ∙ and-true (coefficients_hold (grid_of (slotted slot_of s)))
          ∙ coefficients_ext (grid_of (slotted slot_of s)) (scenario_grid s) alike)

      -- ---- the answer
      pub taken : {well : ℕ} → well ≡ well_storage s.water_area → slots_hold (start well) ≡ true → Some (start well) ≡ coefficients_of s
      unfolding coefficients_of start_record scenario_grid layer_slots
      taken {well} w held =
          let e = sym (judged well w) ∙ held in
          let limits = coefficients_hold_lem (scenario_grid s) e in
          let screens' : screen ≡ layer_slots (λ i. cond (has_screen s i) (across_of s i 0) 0) =
          screens ∙ map-range_ext _ _ 0 20 (λ i low h. slot_held (has_screen s i) {hi = conductance_limit} (omega arith)
          (λ u. let at = screen_inside s i u in limits.screen i at.0 at.1)) in
          let horizontals' = horizontals ∙ slots-held (is_cell s) (across_of s) conductance_limit (omega arith)
          (λ i j u one. let at = cell_inside s i j u in limits.across i j at.0 one at.1) in
          let verticals' = verticals ∙ slots-held (has_below s) (down_of s) conductance_limit (omega arith)
          (λ i j u one. let at = below-inside s i j u in limits.down i j at.0 one at.1) in
          let stored' = stored ∙ slots-held (is_cell s) (storage_of s) storage_limit (omega arith)
          (λ i j u one. let at = cell_inside s i j u in (limits.storage i j at.0 one at.1).most) in
          rw (e, w, screens', horizontals', verticals', stored')

      pub refused : {well : ℕ} → well ≡ well_storage s.water_area → slots_hold (start well) ≡ false → None ≡ coefficients_of s
      unfolding coefficients_of
      refused {well} w held = rw (sym (judged well w) ∙ held)
