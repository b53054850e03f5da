-- 10 and 11 by slot are the network's by place: laws only, nothing to believe.
--     well_network       10, and (table_network) 11, for losses by slot that are the losses by place
use Rattle.std.proofs.Common.{◌≡◌, Bool, List, map, ℤ, pos, refl, sym, ap, ◌∙◌, true, false, not, ℕ, zero, suc, ◌+◌, ◌*◌, ◌-◌, ◌≤◌, ◌<◌, arith, get_or}
use mathlib.Core.List.Memᴰ
use Rattle.std.specs.Int.Signed.{lt_z}
use borrow.Author.Tests.{not-true}
use Rattle.laws.specs.Lists.{all_below, range}
use Rattle.laws.specs.All.{all_at}
use Rattle.laws.specs.Rows.{same_test, all_from}
use Rattle.laws.specs.Sums.{mem_range, range_mem, none, none_at}
use Rattle.network.specs.Network.{loss_at, storage_at, drawdown, well_too_deep, table_too_deep}
use Rattle.network.specs.Grid.{place, stored_columns, one_per_place, network_of}
use Rattle.network.proofs.laws.Places.{get_or_one}
use Rattle.site.specs.Site.{counts_hold}
use Rattle.site.specs.Laws.{counts_hold_lem}
use Rattle.record.specs.declared.Record.{Record}
use Rattle.record.specs.Record.{slot, grid_of}
use Rattle.validity_drawdowns.specs.Drawdowns.{deeper}
use Rattle.step_conditions.specs.Conditions.{table_within}

turned : (a b : Bool) → a ≡ not b → not a ≡ b
turned a true e = rw e
turned a false e = rw e

module _ (r : Record) (vs : List ℤ) where
  pub well_network : deeper (1000 * r.site.intake) r.well_storage (loss_at vs 0) ≡ well_too_deep (network_of (grid_of r)) vs
  unfolding deeper well_too_deep drawdown storage_at network_of grid_of one_per_place
  well_network = refl

  module _ (counts : counts_hold r.site ≡ true) (l : List ℤ) (same : (j : ℕ) → suc j < r.site.columns → get_or l j (pos 0) ≡ loss_at vs (place (grid_of r) 0 (suc j))) where
    past : ℕ → Bool
    past p = lt_z (pos (1000 * get_or r.site.thickness 0 0)) (drawdown (network_of (grid_of r)) vs p)

    past_slot : (j : ℕ) → suc j < r.site.columns → deeper (1000 * get_or r.site.thickness 0 0) (get_or r.storages j 0) (get_or l j (pos 0)) ≡ past (place (grid_of r) 0 (suc j))
    unfolding deeper past drawdown storage_at network_of grid_of slot
    past_slot j h = rw (same j h) (ap (λ s. deeper (1000 * get_or r.site.thickness 0 0) s (loss_at vs (place (grid_of r) 0 (suc j))))
        (ap (λ n. get_or r.storages n 0) at_top ∙ sym (get_or_one (grid_of r) r.well_storage (grid_of r).storage 0 0 j (omega (arith, (counts_hold_lem r.site counts).layers_least)) h)))
      where
        at_top : j ≡ 50 * 0 + (suc j - 1)
        at_top = omega arith

    pub table_network : not (table_within r.site.columns (get_or r.site.thickness 0 0) r.storages l) ≡ table_too_deep (network_of (grid_of r)) vs
    unfolding table_within table_too_deep network_of grid_of stored_columns past
    table_network = turned _ _ (same_test _ _
        (λ e. ap not (none past (map (place (grid_of r) 0) (range 1 (r.site.columns - 1))) (λ p m.
        let q = Memᴰ.of_map (place (grid_of r) 0) (range 1 (r.site.columns - 1)) m in
        ap past (sym q.2) ∙ within e q.0 (range_mem 1 (r.site.columns - 1) q.1))))
        (λ e. all_from _ (r.site.columns - 1) (λ j h.
        ap not (past_slot j (omega arith) ∙ none_at past (not-true _ e) (Memᴰ.map (place (grid_of r) 0) (mem_range (r.site.columns - 1) (omega arith) (omega arith)))))))
      where
        within : all_below (r.site.columns - 1) (λ k. not (deeper (1000 * get_or r.site.thickness 0 0) (get_or r.storages k 0) (get_or l k (pos 0)))) ≡ true → (j : ℕ) → (1 ≤ j) × (j < 1 + (r.site.columns - 1)) → past (place (grid_of r) 0 j) ≡ false
        within e zero b = absurd (omega arith)
        within e (suc j) b = sym (past_slot j (omega arith)) ∙ not-true _ (all_at (λ k. not (deeper (1000 * get_or r.site.thickness 0 0) (get_or r.storages k 0) (get_or l k (pos 0)))) (r.site.columns - 1) j e (omega arith))
