-- The deepest cell of layer 1 after a step worked, by slots and by places.
--     fewer               what is asked of some slots holds of fewer
--     after_shallow       nothing that `step_drawdowns::drawdown` asks is wanting
--     bottom_answer       the deepest of the slots of layer 1 is the deepest cell
--     work_asked, depth_asked, work_given     what `step_sweep::work_step` asks and gives
use Rattle.std.proofs.Common.{◌≡◌, refl, sym, ap, ap₂, ◌∙◌, true, false, List, ℕ, zero, suc, ◌+◌, ◌*◌, ◌-◌, ◌≤◌, ◌<◌, arith, ℤ, pos, get_or}
use lib.Signed.{lt_z}
use Rattle.limits.specs.Limits.{drawdown_limit}
use Rattle.network.specs.Network.{Network, storage_at, drawdown, losses_after}
use Rattle.network.specs.Grid.{Grid, place, network_of}
use Rattle.network.proofs.laws.Bounds.{losses_after_lem, depths_after}
use Rattle.network.proofs.laws.Places.{place-below, place_cell}
use Rattle.site.specs.Laws.{counts_hold_lem}
use Rattle.site.specs.Limited.{Counts}
use Rattle.record.specs.declared.Record.{Record}
use Rattle.record.specs.Record.{grid_of, state_of}
use Rattle.validity.specs.Laws.{Valid, valid_record, valid_proper}
use Rattle.step_drawdowns.specs.Drawdowns.{depth_of, depth_at}
use Rattle.step_stability.specs.Laws.{cell_s}
use Rattle.coefficient_cells.specs.Worked.{areas_of}
use Rattle.step_losses.specs.declared.Swept.{Swept}
use Rattle.slot_places.specs.Slots.{slot_at}
use Rattle.step_sweep.specs.declared.Terms.{Terms}
use Rattle.step_sweep.specs.Worked.{Lent, lent, losses_of, Workable, Worked}
use Rattle.step_places.specs.Terms.{terms_of, lent_of}
use Rattle.step_rules.specs.Ready.{Ready}
use Rattle.step_rules.proofs.Laws.{cell_is, asks_terms}
use Rattle.readings.specs.declared.Place.{Place}
use Rattle.readings.specs.declared.Place.TheVariants.{Cell}
use Rattle.read_limiting.specs.declared.Limiting.{Limiting}
use Rattle.read_limiting.specs.Limiting.{foremost, deeper_at, deepest_column, past_bottom_in}
use Rattle.read_limiting.specs.Slots.{slot_place, deeper_slot, Shallow}
use Rattle.read_limiting.proofs.Foremost.{Foremost, one_foremost, foremost_is}
use Rattle.read_limiting.proofs.Orders.{slot_order, column_order}

pub fewer : {vs : List ℤ} {ss : List ℕ} {n m : ℕ} → Shallow vs ss n → m ≤ n → Shallow vs ss m
fewer h le = record { loss = λ k lt. h.loss k (omega arith); depth = λ k lt. h.depth k (omega arith) }

module _ (r : Record) (rate dt : ℕ) (y : Ready r rate dt) where
  abbrev G : Grid
  G = grid_of r

  abbrev N : Network
  N = network_of G

  abbrev after : List ℤ
  after = losses_after N (state_of r).losses rate dt

  abbrev vs : List ℤ
  vs = losses_of (lent_of r rate dt)

  v : Valid r
  v = valid_record r y.passed

  counts : Counts r.site
  counts = counts_hold_lem r.site v.counts

  top : 0 < r.site.layers
  top = omega (arith, counts.layers_least)

  storage_is : (j : ℕ) → suc j < r.site.columns → get_or r.storages j 0 ≡ storage_at N (place G 0 (suc j))
  storage_is j h = let e : j ≡ 50 * 0 + j = omega arith in
      sym (cell_s r v.counts v.coefficients_unused 0 j top h ∙ ap (λ n. get_or r.storages n 0) (slot_at 0 j ∙ sym e))

  depth_is : (j : ℕ) → suc j < r.site.columns → depth_at vs r.storages j ≡ drawdown N after (place G 0 (suc j))
  unfolding depth_at depth_of drawdown
  depth_is j h = rw (cell_is r rate dt y j h, storage_is j h)

  pub after_shallow : Shallow vs r.storages (r.site.columns - 1)
  unfolding network_of grid_of
  after_shallow = record {
    loss = λ j h. rw (cell_is r rate dt y j (omega arith)) (losses_after_lem N (valid_proper r v) (state_of r) v.kept dt y.steady rate (place G 0 (suc j)) (place-below G 0 j top (omega arith)));
    depth = λ j h. rw (depth_is j (omega arith)) (depths_after N (valid_proper r v) (state_of r) v.kept dt y.steady rate drawdown_limit v.kept.depths (place G 0 (suc j)) (place-below G 0 j top (omega arith))
        (λ z. absurd (omega (arith, z, place_cell G 0 j (omega arith)))));
  }

  abbrev last : ℕ
  last = r.site.columns - 1 - 1

  abbrev best : ℕ
  best = foremost (deeper_slot vs r.storages) 0 last

  found : Foremost (deeper_slot vs r.storages) 0 last best
  found = foremost_is (slot_order vs r.storages) 0 last

  same_test : (j k : ℕ) → suc j < r.site.columns → suc k < r.site.columns → deeper_at G after (suc j) (suc k) ≡ deeper_slot vs r.storages j k
  unfolding deeper_at deeper_slot
  same_test j k hj hk = ap₂ lt_z (sym (depth_is k hk)) (sym (depth_is j hj))

  in_columns : suc best < r.site.columns
  in_columns = omega (arith, found.most, counts.columns_least)

  column_is : suc best ≡ deepest_column G after
  unfolding deepest_column grid_of
  column_is = one_foremost (record {
    least = omega arith;
    most = omega (arith, in_columns);
    none = none;
    first = first;
  }) (foremost_is (column_order G after) 1 (r.site.columns - 2))
    where
      none : (q : ℕ) → 1 ≤ q → q ≤ 1 + (r.site.columns - 2) → deeper_at G after q (suc best) ≡ false
      none zero l m = absurd (omega arith)
      none (suc j) l m = same_test j best (omega (arith, m, counts.columns_least)) in_columns ∙ found.none j (omega arith) (omega (arith, m, counts.columns_least))

      first : (q : ℕ) → 1 ≤ q → q < suc best → deeper_at G after (suc best) q ≡ true
      first zero l m = absurd (omega arith)
      first (suc j) l m = same_test best j in_columns (omega (arith, m, in_columns)) ∙ found.first j (omega arith) (omega arith)

  bottom_is : Limiting.PastBottom (slot_place best) ≡ past_bottom_in G after
  unfolding past_bottom_in slot_place
  bottom_is = ap Limiting.PastBottom (ap₂ Cell (omega (arith, in_columns, counts.columns_most)) (omega (arith, in_columns, counts.columns_most) ∙ column_is))

  pub bottom_answer : {ls : List ℤ} {slot : ℕ} {p : Place} → ls ≡ vs → slot ≡ foremost (deeper_slot ls r.storages) 0 last → p ≡ slot_place slot → Limiting.PastBottom p ≡ past_bottom_in G after
  bottom_answer e s p = ap Limiting.PastBottom (p ∙ ap slot_place (s ∙ ap (λ l. foremost (deeper_slot l r.storages) 0 last) e)) ∙ bottom_is

  -- what `work_step` asks and gives, from the terms, the areas and the signed numbers as the machine reads them back
  module _ {terms : Terms} {multiplier : ℕ} {areas : List ℕ} {well inflow : ℤ} (e : terms ≡ terms_of r multiplier rate dt) (w : areas ≡ areas_of r.site) (b : well ≡ r.well_loss) (i : inflow ≡ r.inflow) where
    abbrev held : Lent
    held = lent terms well inflow areas r.screen r.horizontal r.vertical r.storages r.losses

    pub work_asked : Workable held
    work_asked = rw (b, i) (asks_terms r rate dt y e w refl).workable

    pub depth_asked : {d : ℕ} → pos d ≡ depth_of well r.well_storage → pos d ≡ depth_of well terms.well_storage
    depth_asked q = q ∙ ap (depth_of well) (sym (ap (λ t. t.well_storage) e))

    pub work_given : {x : Swept} {ls : List ℤ} {ds cs : List ℕ} {ws us : List ℤ} → Worked held x ls ds cs ws us → ls ≡ vs
    work_given h = (rw (b, i, e, w) at h).losses
