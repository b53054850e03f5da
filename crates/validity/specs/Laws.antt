-- What `valid` says of a record, for the proofs of this and other crates: laws only, nothing to believe.
--     kept_from                  the tests of a state's totals and drawdowns give network's Kept; kept_totals, kept_drawdowns: back
--     Marked                     what the mark's clauses say
--     Valid                      what a record that 14 lets pass is
--     valid_record               from the test; record_valid: back to it
--     valid_proper               the network of such a record is one on which steps can be taken
--     mark_natural, mark_most    its mark is not below 0, and at most 10^9; mark_back: so the machine reads it back as it is
--     valid_limits, table_fits   its numbers are in their limits, and C between layers 1 and 2 at s = 0 fits a word
--     zero_refused               14 refuses the all-zero record
--     equal, itself              the test of two integers holds of equal ones alone, and of each and itself
use Rattle.std.specs.Prelude.{◌≡◌, refl, Bool, true, false, ◌&&◌, List, ℕ, ◌*◌, ◌^◌, ◌≤◌, ◌<◌, T, leb, ltb, ℤ, pos, negsuc, ◌+ℤ◌, length, ◌≤ℤ◌}
use Rattle.std.proofs.Common.{ap, zero-le, le_refl, arith, to_z-of_z, to_z, of_z, not, leb-true, le-leb, eqb-true, eq-eqb, eqb}
use Rattle.std.proofs.lemmas.Bool.{false≢true, not-true}
use Rattle.std.specs.Int.Signed.{le_z, non_neg, le_z_yes}
use Rattle.std.specs.Int.{w64}
use Rattle.laws.specs.Lists.{all_below, every}
use Rattle.laws.specs.All.{all_at, and_left, and_right}
use Rattle.laws.specs.Every.{every_at}
use Rattle.laws.specs.Integer.{pos_≤ℤ, ≤ℤ_up, ≤ℤ_trans, ≤ℤ_antisym, abs_up_to}
use Rattle.laws.specs.Pointwise.{every_from}
use Rattle.laws.specs.Rows.{both_hold, three_hold, four_hold, all_from}
use Rattle.laws.specs.Signed.{small_fits}
use Rattle.limits.specs.Limits.{total_limit, drawdown_limit}
use Rattle.network.specs.Network.{Network, State, is_place, loss_at, drawdown, loss_in, well_too_deep, table_too_deep}
use Rattle.network.specs.Grid.{network_of}
use Rattle.network.specs.Kept.{Proper, Kept}
use Rattle.network.proofs.laws.Bounds.{depth_natural}
use Rattle.network.proofs.laws.Places.{length_one}
use Rattle.network.proofs.laws.Proper.{proper_grid}
use Rattle.geometry.specs.Geometry.{well_storage}
use Rattle.site.specs.Site.{is_screened, counts_hold, numbers_hold, radii_hold, screen_layer, screen_top, screen_holds}
use Rattle.site.specs.Laws.{counts_hold_lem, numbers_hold_lem}
use Rattle.record.specs.declared.Record.{Record}
use Rattle.record.specs.Record.{zero_site, zero_record, grid_of, state_of}
use Rattle.coefficient_slots.specs.Slots.{coefficients_hold, coefficients_unused}
use Rattle.coefficient_slots.specs.Laws.{Coefficients, coefficients_hold_lem, hold_coefficients, columns_at, columns_from}
use Rattle.coefficient_cells.specs.Cells.{down_of}
use Rattle.coefficient_cells.specs.Laws.{judged_site}
use Rattle.coefficient_cells.specs.Worked.{InLimits}
use Rattle.validity_numbers.specs.Numbers.{site_holds, site_unused}
use Rattle.validity.specs.Validity.{losses_unused, table_holds, equalℤ, totals_hold, drawdowns_hold, mark_holds, valid}

-- ---- tests of integers
so : {b : Bool} → b ≡ true → T b
so e = rw e tt

holds : (b : Bool) → T b → b ≡ true
holds true t = refl
holds false t = absurd t

pub at_least_0 : (v : ℤ) → non_neg v ≡ true → pos 0 ≤ℤ v
at_least_0 (pos n) e = pos_≤ℤ zero-le
at_least_0 (negsuc n) e = absurd (false≢true e)

pub not-below_0 : (v : ℤ) → pos 0 ≤ℤ v → non_neg v ≡ true
not-below_0 (pos n) h = refl
not-below_0 (negsuc n) h = absurd h.le

pub equal : (a b : ℤ) → equalℤ a b ≡ true → a ≡ b
equal a b e = ≤ℤ_antisym a b (le_z_yes (so (and_left (le_z a b) (le_z b a) e))) (le_z_yes (so (and_right (le_z a b) (le_z b a) e)))

pub itself : (a : ℤ) → equalℤ a a ≡ true
itself (pos n) = rw (le-leb n n (le_refl n))
itself (negsuc n) = rw (le-leb n n (le_refl n))

-- ---- a state's totals and drawdowns
module _ (N : Network) (s : State) (listed : length s.losses ≡ N.places) where
  kept_from : totals_hold N s ≡ true → drawdowns_hold N s.losses ≡ true → Kept N s
  unfolding totals_hold drawdowns_hold loss_at
  kept_from t d =
      let balance = equalℤ (loss_in N (is_place N) s.losses +ℤ s.inflow) (pos s.pumped) in
      let totals = four_hold (every non_neg s.losses && non_neg s.inflow) balance (leb s.pumped total_limit) (leb s.time total_limit) t in
      let depths = three_hold (not (well_too_deep N s.losses)) (not (table_too_deep N s.losses)) (all_below N.places (λ p. le_z (drawdown N s.losses p) (pos drawdown_limit))) d in
      record {
        listed = listed;
        losses = λ p h. at_least_0 _ (every_at non_neg s.losses p (pos 0) (and_left (every non_neg s.losses) (non_neg s.inflow) totals.0) (omega (arith, listed)));
        inflow = at_least_0 _ (and_right (every non_neg s.losses) (non_neg s.inflow) totals.0);
        budget = equal _ _ totals.1;
        pumped = leb-true _ _ totals.2;
        time = leb-true _ _ totals.3;
        well = not-true _ depths.0;
        table = not-true _ depths.1;
        depths = λ p h. le_z_yes (so (all_at _ N.places p depths.2 h));
      }

module _ (N : Network) (s : State) (kept : Kept N s) where
  kept_totals : totals_hold N s ≡ true
  unfolding totals_hold loss_at
  kept_totals =
      both_hold (both_hold (both_hold (both_hold
      (every_from non_neg s.losses (pos 0) (λ p h. not-below_0 _ (kept.losses p (omega (arith, kept.listed)))))
      (not-below_0 _ kept.inflow))
      (rw kept.budget (itself (pos s.pumped))))
      (le-leb _ _ kept.pumped))
      (le-leb _ _ kept.time)

  kept_drawdowns : drawdowns_hold N s.losses ≡ true
  unfolding drawdowns_hold
  kept_drawdowns =
      both_hold (both_hold (ap not kept.well) (ap not kept.table))
      (all_from _ N.places (λ p h. holds _ (kept.depths p h).le))

-- ---- the mark: no D over it, and itself not over 1000×p
pub record Marked (N : Network) (vs : List ℤ) (mark : ℤ) : Type 0 where
  pub depths : (p : ℕ) → p < N.places → drawdown N vs p ≤ℤ mark
  pub intake : mark ≤ℤ pos (1000 * N.intake)

module _ (N : Network) (vs : List ℤ) (mark : ℤ) where
  marked_from : mark_holds N vs mark ≡ true → Marked N vs mark
  unfolding mark_holds
  marked_from e =
      let deep = all_below N.places (λ p. le_z (drawdown N vs p) mark) in
      let high = le_z mark (pos (1000 * N.intake)) in
      record {
        depths = λ p h. le_z_yes (so (all_at _ N.places p (and_left deep high e) h));
        intake = le_z_yes (so (and_right deep high e));
      }

  from_marked : Marked N vs mark → mark_holds N vs mark ≡ true
  unfolding mark_holds
  from_marked m = both_hold (all_from _ N.places (λ p h. holds _ (m.depths p h).le)) (holds _ m.intake.le)

-- ---- a record that 14 lets pass
-- its C between layers 1 and 2, column by column
abbrev pub TableKept : Record → Type 0
TableKept r = (j : ℕ) → 1 ≤ j → j < r.site.columns → (grid_of r).down 0 j ≡ down_of r.site 0 j

pub record Valid (r : Record) : Type 0 where
  pub counts : counts_hold r.site ≡ true
  pub numbers : numbers_hold r.site ≡ true
  pub radii : radii_hold r.site ≡ true
  pub screen : screen_holds r.site ≡ true
  pub site_unused : site_unused r.site ≡ true
  pub coefficients_unused : coefficients_unused r ≡ true
  pub losses_unused : losses_unused r ≡ true
  pub coefficients : Coefficients (grid_of r)
  pub well_storage : r.well_storage ≡ well_storage r.site.water_area
  pub table : TableKept r
  pub kept : Kept (network_of (grid_of r)) (state_of r)
  pub marked : Marked (network_of (grid_of r)) (state_of r).losses r.mark

module _ (r : Record) where
  losses_listed : length (state_of r).losses ≡ (network_of (grid_of r)).places
  unfolding state_of network_of
  losses_listed = length_one (grid_of r) _ _

  table-columns : table_holds r ≡ true → TableKept r
  unfolding table_holds grid_of
  table-columns e j one k = eqb-true _ _ (columns_at (grid_of r) _ j e one k)

  columns-table : TableKept r → table_holds r ≡ true
  unfolding table_holds grid_of
  columns-table h = columns_from (grid_of r) _ (λ j one k. eq-eqb _ _ (h j one k))

  pub valid_record : valid r ≡ true → Valid r
  unfolding valid site_holds
  valid_record e =
      let well = eqb r.well_storage (well_storage r.site.water_area) in
      let totals = totals_hold (network_of (grid_of r)) (state_of r) in
      let depths = drawdowns_hold (network_of (grid_of r)) (state_of r).losses in
      let slots = site_holds r.site && site_unused r.site && coefficients_unused r && losses_unused r in
      let mark = mark_holds (network_of (grid_of r)) (state_of r).losses r.mark in
      let last = four_hold (slots && coefficients_hold (grid_of r) && well && table_holds r) totals depths mark e in
      let stored = four_hold slots (coefficients_hold (grid_of r)) well (table_holds r) last.0 in
      let zeros = four_hold (site_holds r.site) (site_unused r.site) (coefficients_unused r) (losses_unused r) stored.0 in
      let site = four_hold (counts_hold r.site) (numbers_hold r.site) (radii_hold r.site) (screen_holds r.site) zeros.0 in
      record {
        counts = site.0;
        numbers = site.1;
        radii = site.2;
        screen = site.3;
        site_unused = zeros.1;
        coefficients_unused = zeros.2;
        losses_unused = zeros.3;
        coefficients = coefficients_hold_lem (grid_of r) stored.1;
        well_storage = eqb-true _ _ stored.2;
        table = table-columns stored.3;
        kept = kept_from (network_of (grid_of r)) (state_of r) losses_listed last.1 last.2;
        marked = marked_from (network_of (grid_of r)) (state_of r).losses r.mark last.3;
      }

  pub record_valid : Valid r → valid r ≡ true
  unfolding valid site_holds
  record_valid v =
      both_hold (both_hold (both_hold (both_hold (both_hold (both_hold (both_hold (both_hold (both_hold
      (both_hold (both_hold (both_hold v.counts v.numbers) v.radii) v.screen)
      v.site_unused) v.coefficients_unused) v.losses_unused)
      (hold_coefficients (grid_of r) v.coefficients))
      (eq-eqb _ _ v.well_storage))
      (columns-table v.table))
      (kept_totals (network_of (grid_of r)) (state_of r) v.kept))
      (kept_drawdowns (network_of (grid_of r)) (state_of r) v.kept))
      (from_marked (network_of (grid_of r)) (state_of r).losses r.mark v.marked)

  pub valid_proper : Valid r → Proper (network_of (grid_of r))
  unfolding grid_of screen_holds well_storage down_of
  valid_proper v =
      let well = (numbers_hold_lem r.site v.numbers).well in
      let unscreened = (three_hold (ltb (screen_layer r.site) r.site.layers) (not (is_screened r.site.screened 0)) (ltb r.site.intake (screen_top r.site)) v.screen).1 in
      proper_grid (grid_of r) (not-true _ unscreened) (omega (arith, v.well_storage)) (λ i j h one k. omega (arith, (v.coefficients.storage i j h one k).least)) (omega (arith, well.intake_most))
      ((numbers_hold_lem r.site v.numbers).layer 1 (omega (arith, (counts_hold_lem r.site v.counts).layers_least))).thickness_least v.table

  pub mark_natural : Valid r → pos 0 ≤ℤ r.mark
  mark_natural v = ≤ℤ_trans _ _ _ (depth_natural (network_of (grid_of r)) (valid_proper v) (state_of r) v.kept 0) (v.marked.depths 0 (valid_proper v).well)

  pub mark_most : Valid r → r.mark ≤ℤ pos drawdown_limit
  mark_most v = ≤ℤ_up r.mark v.marked.intake (valid_proper v).intake

  pub mark_back : Valid r → to_z w64 (of_z w64 r.mark) ≡ r.mark
  mark_back v = to_z-of_z (small_fits r.mark (abs_up_to (mark_natural v, mark_most v)) (omega arith))

  pub valid_limits : Valid r → InLimits r.site
  valid_limits v = judged_site r.site v.counts v.numbers v.radii

  pub table_fits : Valid r → (j : ℕ) → 1 ≤ j → j < r.site.columns → down_of r.site 0 j < 2 ^ 64
  unfolding grid_of
  table_fits v j one k =
      let small = v.coefficients.down 0 j (omega (arith, (counts_hold_lem r.site v.counts).layers_least)) one k in
      omega (arith, small, v.table j one k)

-- ---- what start gives for a refused text has no layers

pub zero_refused : valid zero_record ≡ false
unfolding valid site_holds counts_hold zero_record zero_site
zero_refused = refl
