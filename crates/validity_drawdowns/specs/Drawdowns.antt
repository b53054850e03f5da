-- What a record's D are tested for, slot by slot: inner definitions, for the contracts of this crate's functions.
-- What 10, 11 and 14 say of places stands with the network; `step_conditions` and `validity` join the two.
use Rattle.std.specs.Prelude.{◌≡◌, Bool, true, cond, not, ◌&&◌, ◌||◌, List, ℕ, ◌^◌, ◌<◌, leb, ℤ, pos, nat_abs, ◌*ℤ◌, get_or, ◌≤ℤ◌}
use Rattle.std.specs.Int.Signed.{lt_z, shr_z, non_neg}
use Rattle.laws.specs.Lists.{all_below}
use Rattle.coefficient_slots.specs.Slots.{used_slot}
use Rattle.coefficient_slots.specs.Held.{inside}

-- D = V×10^6/S, rounded down, is past the limit
unfoldable pub deeper : ℕ → ℕ → ℤ → Bool
deeper limit storage loss = lt_z (pos limit) (shr_z (loss *ℤ pos (10 ^ 6)) storage)

-- the slots that cells use store water, and have given off none or some
pub record Stored (layers columns : ℕ) (storages : List ℕ) (losses : List ℤ) : Type 0 where
  pub storage : (k : ℕ) → k < 1000 → used_slot (inside layers columns) k ≡ true → 0 < get_or storages k 0
  pub loss : (k : ℕ) → k < 1000 → used_slot (inside layers columns) k ≡ true → pos 0 ≤ℤ get_or losses k (pos 0)

-- S and V in slot k, by the mark and, in the slots of layer 1, by its limit
unfoldable pub depth_slot_holds : ℕ → ℕ → ℕ → ℕ → ℕ → ℕ → ℤ → Bool
depth_slot_holds layers columns table mark k s v = cond (used_slot (inside layers columns) k) (not (deeper mark s v) && (leb 50 k || not (deeper table s v))) true

unfoldable pub depth_slots_hold : ℕ → ℕ → ℕ → ℕ → List ℕ → List ℤ → Bool
depth_slots_hold layers columns table mark storages losses = all_below 1000 (λ k. depth_slot_holds layers columns table mark k (get_or storages k 0) (get_or losses k (pos 0)))

-- the mark against 0 and `intake`, the well against the mark, and the cells
unfoldable pub depths_hold : ℕ → ℕ → ℕ → ℕ → ℤ → List ℕ → List ℤ → ℕ → ℤ → Bool
depths_hold layers columns table intake mark storages losses well_storage well_loss =
    non_neg mark && leb (nat_abs mark) intake && not (deeper (nat_abs mark) well_storage well_loss) && depth_slots_hold layers columns table (nat_abs mark) storages losses
