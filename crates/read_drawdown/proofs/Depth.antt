-- The drawdown of an end of a face in a valid record, by its slots and by its place: laws only, nothing to believe.
--     well_asks, cell_asks     what `step_drawdowns::drawdown` requires of its loss and storage; slot_asks: and `slot_of` of a cell
--     cell_depth               what it then gives is the network's drawdown
--     named_end                a named place is such an end; depth_small: its drawdown is within the limit
use Rattle.std.specs.Prelude.{◌≡◌, true, ℕ, zero, suc, ◌*◌, ◌-◌, ◌≤◌, ◌<◌, ℤ, pos, ◌≤ℤ◌, get_or}
use Rattle.std.proofs.Common.{◌∙◌, arith}
use Rattle.laws.specs.Integer.{≤ℤ_pos}
use Rattle.limits.specs.Limits.{drawdown_limit}
use Rattle.network.specs.Network.{drawdown, loss_at}
use Rattle.network.specs.Grid.{Grid, network_of, one_per_place}
use Rattle.record.specs.declared.Record.{Record}
use Rattle.record.specs.Record.{slot, grid_of, state_of}
use Rattle.validity.specs.Laws.{Valid, valid_record, valid_proper}
use Rattle.validity.specs.Validity.{valid}
use Rattle.step_drawdowns.specs.Drawdowns.{depth_of, depth_at}
use Rattle.slot_places.specs.Slots.{counted, slot_at, depth-column, depth_well}
use Rattle.slot_places.specs.Slots as slots
use Rattle.readings.specs.declared.Place.{Place}
use Rattle.readings.specs.declared.Place.TheVariants.{Well, Cell}
use Rattle.readings.specs.Readings.{is_named, number_of}
use Rattle.readings.specs.Laws.{cell_bounds, named-place}
use Rattle.read_drawdown.specs.Ends.{End}
use Rattle.read_drawdown.specs.Ends.End.{well, cell}

abbrev pub D : Record → Place → ℤ
D r p = drawdown (network_of (grid_of r)) (state_of r).losses (number_of (grid_of r) p)

abbrev pub Shallow : ℤ → ℕ → Type 0
Shallow x s = (pos 0 ≤ℤ x) × (depth_of x s ≤ℤ pos drawdown_limit)

bounds : {G : Grid} {i j : ℕ} → End G (Cell i j) → (1 ≤ i) × (i ≤ G.layers) × (1 ≤ j) × (j ≤ G.columns)
bounds (cell i j a b c d) = (a, b, c, d)

module _ (r : Record) (ok : valid r ≡ true) where
  v : Valid r
  v = valid_record r ok

  pub well_asks : Shallow r.well_loss r.well_storage
  unfolding loss_at state_of one_per_place
  well_asks = (v.kept.losses 0 (valid_proper r v).well, rw (depth_well r v) (v.kept.depths 0 (valid_proper r v).well))

  pub well_depth : depth_of r.well_loss r.well_storage ≡ D r Well
  unfolding number_of
  well_depth = depth_well r v

  module _ {i j : ℕ} (e : End (grid_of r) (Cell i j)) where
    pub slot_asks : (1 ≤ i) × (i ≤ 20) × (1 ≤ j) × (j ≤ 50)
    unfolding grid_of
    slot_asks = omega (arith, bounds e, (counted r v).layers_most, (counted r v).columns_most)

    module _ (k : ℕ) (at : k ≡ slot (i - 1) j) where
      within : k < 50 * r.site.layers
      unfolding slot grid_of
      within = omega (arith, bounds e, at, (counted r v).columns_most)

      pub cell_asks : Shallow (get_or r.losses k (pos 0)) (get_or r.storages k 0)
      unfolding depth_at
      cell_asks = (slots.loss_natural r v k within, slots.depth_small r v k within)

      pub cell_depth : depth_of (get_or r.losses k (pos 0)) (get_or r.storages k 0) ≡ D r (Cell i j)
      unfolding depth_at number_of grid_of
      cell_depth = by_column j (bounds e).2 (bounds e).3 at
        where
          by_column : (j : ℕ) → 1 ≤ j → j ≤ r.site.columns → k ≡ slot (i - 1) j → depth_of (get_or r.losses k (pos 0)) (get_or r.storages k 0) ≡ D r (Cell i j)
          by_column zero one most at = absurd (omega arith)
          by_column (suc j) one most at = rw (at ∙ slot_at (i - 1) j) (depth-column r v (i - 1) j (omega (arith, bounds e)) most)

  pub named_end : (p : Place) → is_named (grid_of r) p ≡ true → End (grid_of r) p
  named_end Well h = well
  named_end (Cell i j) h = let b = cell_bounds (grid_of r) i j h in cell i j b.0 b.1 b.2 (omega (arith, b.3))

  pub depth_small : (p : Place) → is_named (grid_of r) p ≡ true → {d : ℕ} → pos d ≡ D r p → d ≤ drawdown_limit
  depth_small p h e = ≤ℤ_pos (rw e (v.kept.depths (number_of (grid_of r) p) (named-place (grid_of r) p h)))
