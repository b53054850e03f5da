-- The ends of a face in the arrays of a record: for the inner contracts of this crate.
use Rattle.std.specs.Prelude.{◌≡◌, Bool, true, cond, ◌&&◌, List, ℕ, ◌*◌, ◌-◌, ◌^◌, ◌≤◌, ◌<◌, eqb, leb, ℤ, get_or}
use Rattle.network.specs.Network.{Rule, in_use_by}
use Rattle.site.specs.declared.Site.{Site}
use Rattle.site.specs.Columns.{area_at}
use Rattle.record.specs.Record.{slot}
use Rattle.coefficient_cells.specs.Cells.{down_of}
use Rattle.readings.specs.declared.Place.{Place}
use Rattle.readings.specs.declared.Place.TheVariants.{Well, Cell}

-- a cell, from layer 1 and column 1, has a slot
unfoldable pub in_slots : Place → Bool
in_slots Well = true
in_slots (Cell i j) = leb 1 i && leb i 20 && leb 1 j && leb j 50

-- C, unreduced (between layers 1 and 2 at s = 0, N6), of the face that leads from one end to the other: the well's, the one toward the next column or the one toward the layer below
unfoldable pub conductance_from : List ℕ → List ℕ → List ℕ → Place → Place → ℕ
conductance_from screen horizontal vertical a Well = 0
conductance_from screen horizontal vertical Well (Cell k l) = get_or screen (k - 1) 0
conductance_from screen horizontal vertical (Cell i j) (Cell k l) = get_or (cond (eqb k i) horizontal vertical) (slot (i - 1) j) 0

-- what C in use of that face goes by: within layer 1 the mean saturated thickness of both ends, from layer 1 to layer 2 the path from the water table
unfoldable pub rule_from : Site → Place → Place → Rule
rule_from s Well b = Rule.fixed
rule_from s (Cell i j) Well = Rule.fixed
rule_from s (Cell i j) (Cell k l) = cond (eqb i 1) (cond (eqb k i) Rule.unconfined (Rule.table (area_at s j) (get_or s.kv 0 0) (get_or s.thickness 1 0) (get_or s.kv 1 0))) Rule.fixed

-- C in use, from D at the ends
unfoldable pub in_use_from : Site → List ℕ → List ℕ → List ℕ → Place → Place → ℤ → ℤ → ℤ
in_use_from s screen horizontal vertical a b Da Db = in_use_by (get_or s.thickness 0 0) (conductance_from screen horizontal vertical a b) (rule_from s a b) Da Db

-- what is asked for it: a cell of layer 1 is at a drawdown within that layer, and where it leads from one, C at s = 0 fits a word
abbrev pub InLayer : Site → Place → ℕ → Type 0
InLayer s e D = (j : ℕ) → e ≡ Cell 1 j → D ≤ 1000 * get_or s.thickness 0 0

abbrev pub TableFits : Site → Place → Type 0
TableFits s e = (j : ℕ) → e ≡ Cell 1 j → (j < s.columns) × (down_of s 0 j < 2 ^ 64)
