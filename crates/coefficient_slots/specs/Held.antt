-- What the arrays of a record's coefficients are tested for, slot by slot: inner definitions, for the contracts of this crate's functions.
-- What 6 and 14 ask is said of faces and cells (Slots); Laws joins the two.
use Rattle.std.specs.Prelude.{Bool, cond, ◌&&◌, List, ℕ, ◌-◌, leb, ltb, eqb, get_or}
use Rattle.laws.specs.Lists.{all_below}
use Rattle.limits.specs.Limits.{layer_places, cell_places, conductance_limit, storage_limit, between}
use Rattle.record.specs.declared.Record.{Record}
use Rattle.coefficient_slots.specs.Slots.{used_slot}

-- layer i is among the first so many layers and column j before the last of the columns
abbrev pub inside : ℕ → ℕ → ℕ → ℕ → Bool
inside layers columns i j = ltb i layers && ltb j columns

-- x in slot k of an array by cell: from lo to hi where the slot is used, else 0
unfoldable pub slot_holds : ℕ → ℕ → ℕ → ℕ → ℕ → ℕ → Bool
slot_holds layers columns lo hi k x = cond (used_slot (inside layers columns) k) (between lo hi x) (eqb x 0)

unfoldable pub array_holds : ℕ → ℕ → ℕ → ℕ → List ℕ → Bool
array_holds layers columns lo hi l = all_below cell_places (λ k. slot_holds layers columns lo hi k (get_or l k 0))

-- C of the well's face in slot i of an array by layer: at most the limit where that layer is screened, else 0
unfoldable pub screen_slot_holds : ℕ → ℕ → ℕ → ℕ → Bool
screen_slot_holds layers i screened x = cond (ltb i layers && eqb screened 1) (leb x conductance_limit) (eqb x 0)

unfoldable pub screen_array_holds : ℕ → List ℕ → List ℕ → Bool
screen_array_holds layers screened screen = all_below layer_places (λ i. screen_slot_holds layers i (get_or screened i 0) (get_or screen i 0))

-- all four arrays of a record, the well's faces first; the lowest layer has no vertical C
unfoldable pub slots_hold : Record → Bool
slots_hold r =
    screen_array_holds r.site.layers r.site.screened r.screen
    && array_holds r.site.layers r.site.columns 0 conductance_limit r.horizontal
    && array_holds (r.site.layers - 1) r.site.columns 0 conductance_limit r.vertical
    && array_holds r.site.layers r.site.columns 1 storage_limit r.storages
