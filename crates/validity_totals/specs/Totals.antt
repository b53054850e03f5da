-- What a record's losses and totals are tested for, slot by slot: inner definitions, for the contracts of this crate's functions.
-- What 14 asks is said of places (`validity`); the proof of `valid` joins the two.
use Rattle.std.specs.Prelude.{Bool, ◌&&◌, ◌||◌, List, ℕ, ◌+◌, ℤ, pos, nat_abs, leb, eqb, get_or}
use Rattle.std.specs.Int.Signed.{non_neg}
use Rattle.laws.specs.Lists.{all_below, sumℕ, range}
use Rattle.limits.specs.Limits.{total_limit}
use Rattle.coefficient_slots.specs.Slots.{used_slot}
use Rattle.coefficient_slots.specs.Held.{inside}

-- the V in slot k is not negative, and 0 where no cell uses the slot
unfoldable pub loss_slot_holds : ℕ → ℕ → ℕ → ℤ → Bool
loss_slot_holds layers columns k v = non_neg v && (used_slot (inside layers columns) k || eqb (nat_abs v) 0)

unfoldable pub loss_slots_hold : ℕ → ℕ → List ℤ → Bool
loss_slots_hold layers columns losses = all_below 1000 (λ k. loss_slot_holds layers columns k (get_or losses k (pos 0)))

-- the first n slots' V together, none of them negative
unfoldable pub loss_sum : ℕ → List ℤ → ℕ
loss_sum n losses = sumℕ (range 0 n) (λ k. nat_abs (get_or losses k (pos 0)))

unfoldable pub totals_agree : List ℤ → ℤ → ℤ → ℕ → ℕ → Bool
totals_agree losses well inflow pumped time =
    non_neg well && non_neg inflow && leb pumped total_limit && leb time total_limit
    && eqb (loss_sum 1000 losses + (nat_abs well + nat_abs inflow)) pumped
