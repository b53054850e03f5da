-- The loss of a set from a record's slots, place by place: inner definitions, for the contracts of this crate's functions.
-- What a reading is, is said of places (readings' definitions); the proofs join the two.
use Rattle.std.specs.Prelude.{List, ◌∷◌, ℕ, zero, suc, ◌+◌, ◌*◌, ◌/◌, ◌%◌, ℤ, pos, get_or, replicate}
use Rattle.laws.specs.Lists.{ifℤ}
use Rattle.readings.specs.Readings.{set_of}

-- V of place p, nl: the well's, or that in the slot of the cell, where a layer has `stored` columns that store water
unfoldable pub slot_loss : ℤ → List ℤ → ℕ → ℕ → ℤ
slot_loss well losses stored zero = well
slot_loss well losses stored (suc q) = get_or losses (50 * (q / stored) + q % stored) (pos 0)

-- what place p adds to the loss of the set that the bytes give
unfoldable pub counted_loss : ℤ → List ℤ → ℕ → List ℕ → ℕ → ℤ
counted_loss well losses stored bytes p = ifℤ (set_of bytes p) (slot_loss well losses stored p)

-- bytes of the set of every cell, without the well: one for each place of the largest grid
unfoldable pub every_cell : List ℕ
every_cell = 0 ∷ replicate 980 1
