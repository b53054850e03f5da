-- D of a valid record's cells, as `step_drawdowns::plain_drawdowns` gives them, by place: laws only, nothing to believe.
--     depths_ask, well_ask       nothing that `plain_drawdowns` and `drawdown` ask is wanting
--     depths_given               what `plain_drawdowns` gives holds D in the slots of the layers
--     depth-place                D of slot 50×i + j is D of the place of layer i and column j+1
--     depth_unused               D of a slot that no cell uses is 0
use Rattle.std.specs.Prelude.{◌≡◌, List, map, ℕ, suc, ◌+◌, ◌*◌, ◌-◌, ◌%◌, ◌^◌, ◌≤◌, ◌<◌, pos, nat_abs, get_or, replicate, ◌≤ℤ◌}
use Rattle.std.proofs.Common.{sym, ap, ◌∙◌, arith}
use Rattle.std.proofs.lemmas.List.{length-replicate}
use Rattle.std.proofs.Math.ListN.{get_or-map}
use Rattle.limits.specs.Limits.{drawdown_limit}
use Rattle.laws.specs.Fill.{get_or-fill, get_or_same}
use Rattle.laws.specs.Span.{spans, spans-fill}
use Rattle.network.specs.Network.{loss_at, drawdown}
use Rattle.network.specs.Grid.{place, one_per_place, network_of}
use Rattle.record.specs.declared.Record.{Record}
use Rattle.record.specs.Record.{grid_of, state_of}
use Rattle.validity.specs.Laws.{Valid, valid_proper}
use Rattle.step_drawdowns.specs.Drawdowns.{depth_of, depth_at}
use Rattle.slot_places.specs.Depths.{Depths}
use Rattle.slot_places.specs.Slots.{counted, depth_past, depth-column, depth_well, loss_natural, storage_small, depth_small}

module _ (r : Record) (v : Valid r) where
  few : 50 * r.site.layers ≤ 1000
  few = omega (arith, (counted r v).layers_most)

  pub depths_ask : ((r.site.layers ≤ 20) × (r.site.columns - 1 ≤ 50)) × ((k : ℕ) → k < 50 * r.site.layers
      → (pos 0 ≤ℤ get_or r.losses k (pos 0)) × (depth_at r.losses r.storages k ≤ℤ pos drawdown_limit) × (get_or r.storages k 0 < 2 ^ 63))
  depths_ask = (((counted r v).layers_most, omega (arith, (counted r v).columns_most)), λ k h. (loss_natural r v k h, depth_small r v k h, storage_small r v k h))

  -- what it fills of a layer's slots is all that is not 0
  pub depths_given : (ds : List ℕ) → map pos ds ≡ spans (r.site.columns - 1) r.site.layers (depth_at r.losses r.storages) (replicate 1000 (pos 0)) → Depths r ds
  depths_given ds e = e ∙ spans-fill (depth_at r.losses r.storages) (pos 0) (replicate 1000 (pos 0)) (r.site.columns - 1) r.site.layers
      (omega (arith, (counted r v).columns_most)) (omega (arith, few, length-replicate 1000 (pos 0)))
      (λ k h past. depth_past r v k (omega (arith, few)) (omega (arith, (counted r v).columns_least)) ∙ sym (get_or_same 1000 k (pos 0)))

  pub well_ask : (pos 0 ≤ℤ r.well_loss) × (depth_of r.well_loss r.well_storage ≤ℤ pos drawdown_limit)
  unfolding network_of grid_of state_of loss_at one_per_place
  well_ask = (v.kept.losses 0 (valid_proper r v).well, rw (depth_well r v) (v.kept.depths 0 (valid_proper r v).well))

  module _ (ds : List ℕ) (e : Depths r ds) where
    depth-slot : (k : ℕ) → k < 50 * r.site.layers → pos (get_or ds k 0) ≡ depth_at r.losses r.storages k
    depth-slot k h =
        sym (get_or-map pos ds k 0) ∙ ap (λ l. get_or l k (pos 0)) e
        ∙ get_or-fill (depth_at r.losses r.storages) (replicate 1000 (pos 0)) (50 * r.site.layers) k (pos 0) h (omega (arith, few, length-replicate 1000 (pos 0)))

    pub depth-place : (i j : ℕ) → i < r.site.layers → suc j < r.site.columns
        → pos (get_or ds (50 * i + j) 0) ≡ drawdown (network_of (grid_of r)) (state_of r).losses (place (grid_of r) i (suc j))
    depth-place i j hi hj = depth-slot (50 * i + j) (omega (arith, (counted r v).columns_most)) ∙ depth-column r v i j hi (omega arith)

    pub depth_unused : (k : ℕ) → k < 50 * r.site.layers → r.site.columns ≤ k % 50 + 1 → get_or ds k 0 ≡ 0
    depth_unused k h past = ap nat_abs (depth-slot k h ∙ depth_past r v k (omega (arith, few)) past)
