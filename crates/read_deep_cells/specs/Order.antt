-- What documents 01 and 02 say of the list of deep cells: each once (01, 'Readings'), and in which order (02, N3).
use Rattle.std.specs.Prelude.{◌≡◌, Bool, true, ◌&&◌, ◌||◌, List, [], ◌∷◌, ℕ, ◌-◌, ◌/◌, ◌%◌, ℤ, eqb, leb, ltb, length, take, drop, Ok}
use Rattle.std.specs.Int.Signed.{lt_z}
use Rattle.laws.specs.Lists.{ifℕ, sumℕ, every}
use Rattle.network.specs.Network.{drawdown}
use Rattle.network.specs.Grid.{place, network_of}
use Rattle.record.specs.declared.Record.{Record}
use Rattle.record.specs.Record.{grid_of, state_of}
use Rattle.validity.specs.Validity.{equalℤ}
use Rattle.readings.specs.Readings.{is_deep_code, deep_count, Listed}

-- how often c stands in a list
unfoldable pub times : ℕ → List ℕ → ℕ
times c l = sumℕ l λ x. ifℕ (eqb x c) 1

-- D of the cell that the code c names, µm
unfoldable pub depth_of_code : Record → ℕ → ℤ
depth_of_code r c = drawdown (network_of (grid_of r)) (state_of r).losses (place (grid_of r) (c / 100 - 1) (c % 100))

-- the code c names a layer above that of d, or the same layer and no column further out: by layer rising, then column rising
unfoldable pub in_place_order : ℕ → ℕ → Bool
in_place_order c d = ltb (c / 100) (d / 100) || eqb (c / 100) (d / 100) && leb (c % 100) (d % 100)

-- c may stand before d: by drawdown falling, then in the order of places
unfoldable pub may_precede : Record → ℕ → ℕ → Bool
may_precede r c d = lt_z (depth_of_code r d) (depth_of_code r c) || equalℤ (depth_of_code r d) (depth_of_code r c) && in_place_order c d

-- each element of a list may stand before every later one
unfoldable pub in_order : (ℕ → ℕ → Bool) → List ℕ → Bool
in_order t [] = true
in_order t (a ∷ l) = every (t a) l && in_order t l

-- a list has the code of each cell deeper than D, µm, once, and no other, in that order
pub record Arranged (r : Record) (D : ℕ) (l : List ℕ) : Type 0 where
  pub once : (c : ℕ) → times c l ≡ ifℕ (is_deep_code r D c) 1
  pub order : in_order (may_precede r) l ≡ true

-- what holds of the answer and of the lent list after it, where it was `old` before and the reading is not refused
pub record Whole (r : Record) (D : ℕ) (old : List ℕ) (given : Listed) : Type 0 where
  -- so many slots are written as the answer says, and the others are as they were
  pub answered : given.answer ≡ Ok (length (take (deep_count r D) given.list))
  pub slots : length given.list ≡ length old
  pub rest : drop (deep_count r D) given.list ≡ drop (deep_count r D) old
  -- what is written is so arranged, and nothing else is
  pub arranged : Arranged r D (take (deep_count r D) given.list)
  pub only : (l : List ℕ) → Arranged r D l → l ≡ take (deep_count r D) given.list
