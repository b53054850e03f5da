-- The water between the well and column 1 of a valid record's layers, by slot and by face, is the same: laws only, nothing to believe.
--     water_none           no water crosses at C = 0
--     fixed_below          below layer 1 C is in use as it is
--     screen_water         where a layer is screened, it is that of the well's face; where not, 0
--     screen_small_lem         it is within its limit where 8 does not refuse
use Rattle.std.specs.Prelude.{◌≡◌, Bool, List, ltb, ℤ, pos, negsuc, ◌-ℤ◌, ◌*ℤ◌, get_or}
use Rattle.std.proofs.Math.Path.{refl, ap, ap₂}
use Rattle.std.proofs.Common.{sym, ◌∙◌, true≢false, zero-mul}
use Rattle.std.proofs.Math.Bool.{true, false, and-false}
use Prim.Native.Nat.{ℕ, zero, suc, ◌+◌, ◌*◌, ◌^◌, ◌≤◌, ◌<◌, zero-le}
use Rattle.std.proofs.Math.Nat.{le_trans, zero-div}
use native.Mathlib.Omega.{arith}
use Rattle.std.proofs.Math.IntN.{nat_abs}
use Rattle.std.specs.Int.Signed.{quot_z}
use Rattle.laws.specs.Lists.{ifℤ}
use Rattle.limits.specs.Limits.{total_limit}
use Rattle.network.specs.Network.{Rule, Network, drawdown, in_use_by, in_use, water, crossing, flow, stable}
use Rattle.network.specs.Grid.{place, across_rule, across_face, network_of}
use Rattle.network.proofs.laws.Bounds.{face_fits}
use Rattle.network.proofs.laws.Cells.{joined}
use Rattle.network.proofs.laws.Places.{place_well}
use Rattle.network.proofs.laws.Proper.{across_mem}
use Rattle.site.specs.Site.{is_screened}
use Rattle.record.specs.declared.Record.{Record}
use Rattle.record.specs.Record.{has_screen, across_in, grid_of, state_of}
use Rattle.validity.specs.Laws.{Valid, valid_proper}
use Rattle.step_drawdowns.specs.Drawdowns.{depth_of, depth_at}
use Rattle.slot_places.specs.Slots.{unused_zero, counted, dry, unused_each, depth-column, depth_well}

pub water_none : (Da Db : ℤ) (dt : ℕ) → water (pos 0) Da Db dt ≡ pos 0
unfolding water
water_none Da Db dt = go (Db -ℤ Da)
  where
    go : (z : ℤ) → quot_z (pos 0 *ℤ z *ℤ pos dt) (pos (10 ^ 12)) ≡ pos 0
    go (pos n) = rw (zero-mul n, zero-mul dt, zero-div (10 ^ 12))
    go (negsuc n) = rw (zero-mul (suc n), zero-mul dt, zero-div (10 ^ 12))

-- below layer 1 C is in use as it is
pub fixed_below : (i : ℕ) → (i ≡ 0 → ⊥) → across_rule i ≡ Rule.fixed
unfolding across_rule
fixed_below zero f = absurd (f refl)
fixed_below (suc i) f = refl

module _ (r : Record) (v : Valid r) (dt : ℕ) where
  abbrev N : Network
  N = network_of (grid_of r)

  abbrev vs : List ℤ
  vs = (state_of r).losses

  -- from the well to column 1 of layer i, by C, V and S in their slots
  abbrev pub well_water : ℕ → ℤ
  well_water i = water (pos (get_or r.screen i 0)) (depth_of r.well_loss r.well_storage) (depth_at r.losses r.storages (50 * i)) dt

  -- the well has a face where the layer is screened, and layer 1 is not
  pub screen_water : (i : ℕ) → i < r.site.layers → well_water i ≡ ifℤ (is_screened r.site.screened i) (flow N vs dt (across_face (grid_of r) i 0))
  unfolding ifℤ flow crossing in_use in_use_by across_face across_in network_of grid_of has_screen
  screen_water i hi = go (is_screened r.site.screened i) refl
    where
      go : (t : Bool) → is_screened r.site.screened i ≡ t → well_water i ≡ ifℤ t (flow N vs dt (across_face (grid_of r) i 0))
      go true e =
          ap₂ (λ x y. water (pos (get_or r.screen i 0)) x y dt) (depth_well r v ∙ ap (drawdown N vs) (sym (place_well (grid_of r) i)))
          (ap (depth_at r.losses r.storages) next ∙ depth-column r v i 0 hi (omega (arith, (counted r v).columns_least)))
          ∙ ap (λ rule. water (in_use_by (get_or r.site.thickness 0 0) (get_or r.screen i 0) rule (drawdown N vs (place (grid_of r) i 0)) (drawdown N vs (place (grid_of r) i 1))) (drawdown N vs (place (grid_of r) i 0)) (drawdown N vs (place (grid_of r) i 1)) dt) (sym (fixed_below i below))
        where
          next : 50 * i ≡ 50 * i + 0
          next = omega arith

          below : i ≡ 0 → ⊥
          below q = true≢false (sym e ∙ ap (is_screened r.site.screened) q ∙ dry r v)
      go false e = rw none (water_none (depth_of r.well_loss r.well_storage) (depth_at r.losses r.storages (50 * i)) dt)
        where
          none : get_or r.screen i 0 ≡ 0
          none = unused_zero (has_screen r.site i) (get_or r.screen i 0) ((unused_each r v).screen i (omega (arith, (counted r v).layers_most)))
              (rw e (and-false (ltb i r.site.layers)))

  module _ (st : stable N dt ≡ true) where
    pub screen_small_lem : (i : ℕ) → i < r.site.layers → nat_abs (well_water i) ≤ total_limit
    unfolding ifℤ network_of grid_of joined
    screen_small_lem i hi = rw (screen_water i hi) (go (is_screened r.site.screened i) refl)
      where
        go : (t : Bool) → is_screened r.site.screened i ≡ t → nat_abs (ifℤ t (flow N vs dt (across_face (grid_of r) i 0))) ≤ total_limit
        go true e = le_trans (face_fits N (valid_proper r v) (state_of r) v.kept dt st (across_face (grid_of r) i 0) (across_mem (grid_of r) i 0 hi (omega (arith, (counted r v).columns_least)) e)) v.kept.pumped
        go false e = zero-le
