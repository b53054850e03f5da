-- What the proofs of the readings share: laws only, nothing to believe.
--     answered                         the answer of the first test that holds, or where none does, is that of the tests
--     well_back, inflow_back           the machine reads back the well's loss and the inflow total as they are
--     layer_bounds, column_bounds, cell_bounds, cell_named   a layer, a stored column and a named cell, by their numbers; named_cell: a cell's name and number
--     named-place, place-named         what is named is a place, and each place is named; named_once: by one name
--     equal_counts, equal_names, ..    grids with equal counts have as many places, with the same names and numbers
--     read_depth                       the drawdown that is read at a named place
use Rattle.std.specs.Prelude.{◌≡◌, Bool, true, List, eqb, leb, ltb, nat_abs, Result}
use Rattle.std.proofs.Math.Path.{refl, ap, ap₂}
use Rattle.std.proofs.Common.{sym, ◌∙◌, true≢false, to_z, of_z}
use Prim.Native.Nat.{ℕ, zero, suc, ◌-◌, ◌≤◌, ◌<◌, zero-le}
use native.Mathlib.Omega.{arith}
use borrow.Author.Tests.{leb-true, le-leb, ltb-true, lt-ltb, eqb-true, eq-eqb}
use Rattle.std.specs.Int.{w64}
use Rattle.std.proofs.Math.Facts.{to_z-of_z}
use Rattle.laws.specs.All.{and_left, and_right}
use Rattle.laws.specs.Lists.{first}
use Rattle.laws.specs.Refusal.{First, first_is}
use Rattle.laws.specs.Rows.{both_hold}
use Rattle.laws.specs.Signed.{small_fits}
use Rattle.laws.specs.Sums.{sumℕ_one, mem_range}
use Rattle.limits.specs.Limits.{total_limit}
use Rattle.refusals.specs.declared.Refusal.{Refusal}
use Rattle.refusals.specs.Refusals.{given}
use Rattle.network.specs.Network.{Network, State, loss_at, drawdown}
use Rattle.network.specs.Grid.{Grid, place_count, place, one_per_place, network_of}
use Rattle.network.specs.Kept.{Kept}
use Rattle.network.proofs.laws.Places.{place-below, place_is, off_well, by_place}
use Rattle.network.proofs.laws.Totals.{size, all-lost}
use Rattle.record.specs.declared.Record.{Record}
use Rattle.record.specs.Record.{grid_of, state_of}
use Rattle.validity.specs.Validity.{valid}
use Rattle.validity.specs.Laws.{Valid, valid_proper}
use Rattle.readings.specs.declared.Place.{Place}
use Rattle.readings.specs.declared.Place.TheVariants.{Well, Cell}
use Rattle.readings.specs.Readings.{is_layer, is_stored, is_named, number_of, drawdown_of}

-- ---- answers
pub answered : {A : Type 0} {ts : List (Bool × ℕ)} {n : ℕ} (x : A) {a : Result A Refusal} → First ts n → a ≡ given n x → a ≡ given (first ts) x
answered x f e = rw (← first_is f) e

-- ---- losses
module _ (N : Network) (s : State) (kept : Kept N s) where
  one_loss : (p : ℕ) → p < N.places → nat_abs (loss_at s.losses p) ≤ total_limit
  unfolding size
  one_loss p h = omega (arith, all-lost N s kept, kept.pumped, sumℕ_one (size s) (mem_range {k = 0} {p = p} N.places zero-le (omega arith)))

  inflow_small : nat_abs s.inflow ≤ total_limit
  inflow_small = omega (arith, all-lost N s kept, kept.pumped)

module _ (r : Record) (v : Valid r) where
  pub well_back : to_z w64 (of_z w64 r.well_loss) ≡ r.well_loss
  unfolding loss_at state_of one_per_place
  well_back = to_z-of_z (small_fits r.well_loss (one_loss (network_of (grid_of r)) (state_of r) v.kept 0 (valid_proper r v).well) (omega arith))

  pub inflow_back : to_z w64 (of_z w64 r.inflow) ≡ r.inflow
  unfolding state_of
  inflow_back = to_z-of_z (small_fits r.inflow (inflow_small (network_of (grid_of r)) (state_of r) v.kept) (omega arith))

-- ---- names of places
module _ (G : Grid) where
  pub layer_bounds : (i : ℕ) → is_layer G i ≡ true → (1 ≤ i) × (i ≤ G.layers)
  unfolding is_layer
  layer_bounds i e = (leb-true 1 i (and_left (leb 1 i) (leb i G.layers) e), leb-true i G.layers (and_right (leb 1 i) (leb i G.layers) e))

  pub column_bounds : (j : ℕ) → is_stored G j ≡ true → (1 ≤ j) × (j < G.columns)
  unfolding is_stored
  column_bounds j e = (leb-true 1 j (and_left (leb 1 j) (ltb j G.columns) e), ltb-true j G.columns (and_right (leb 1 j) (ltb j G.columns) e))

  pub cell_bounds : (i j : ℕ) → is_named G (Cell i j) ≡ true → (1 ≤ i) × (i ≤ G.layers) × (1 ≤ j) × (j < G.columns)
  unfolding is_named
  cell_bounds i j e =
      let layer = layer_bounds i (and_left (is_layer G i) (is_stored G j) e) in
      let column = column_bounds j (and_right (is_layer G i) (is_stored G j) e) in
      (layer.0, layer.1, column.0, column.1)

  pub cell_named : (i j : ℕ) → 1 ≤ i → i ≤ G.layers → 1 ≤ j → j < G.columns → is_named G (Cell i j) ≡ true
  unfolding is_named is_layer is_stored
  cell_named i j a b c d = both_hold (both_hold (le-leb 1 i a) (le-leb i G.layers b)) (both_hold (le-leb 1 j c) (lt-ltb j G.columns d))

  -- the cell of layer i, from 0, and column j + 1
  pub named_cell : (i j : ℕ) → i < G.layers → suc j < G.columns → (is_named G (Cell (suc i) (suc j)) ≡ true) × (number_of G (Cell (suc i) (suc j)) ≡ place G i (suc j))
  unfolding number_of
  named_cell i j h k = (cell_named (suc i) (suc j) (omega arith) (omega arith) (omega arith) k, ap (λ n. place G n (suc j)) (omega arith))

  pub named-place : (p : Place) → is_named G p ≡ true → number_of G p < (network_of G).places
  unfolding number_of network_of place_count
  named-place Well e = omega arith
  named-place (Cell i zero) e = absurd (omega (arith, (cell_bounds i zero e).2))
  named-place (Cell i (suc j)) e = let b = cell_bounds i (suc j) e in place-below G (i - 1) j (omega (arith, b.0, b.1)) b.3

  -- two named places have two numbers
  off_zero : (i j : ℕ) → is_named G (Cell i j) ≡ true → place G (i - 1) j ≡ 0 → ⊥
  off_zero i j e z = true≢false (sym (eq-eqb (place G (i - 1) j) 0 z) ∙ off_well G (i - 1) j (cell_bounds i j e).2)

  same_cell : (i j k l : ℕ) → is_named G (Cell i j) ≡ true → is_named G (Cell k l) ≡ true → place G (i - 1) j ≡ place G (k - 1) l → (i ≡ k) × (j ≡ l)
  same_cell i j k zero e f n = absurd (omega (arith, (cell_bounds k zero f).2))
  same_cell i j k (suc l) e f n =
      let a = cell_bounds i j e in
      let b = cell_bounds k (suc l) f in
      let both = sym (place_is G (k - 1) l (omega (arith, b.0, b.1)) b.3 (i - 1) j) ∙ eq-eqb (place G (i - 1) j) (place G (k - 1) (suc l)) n in (
        omega (arith, a.0, b.0, eqb-true (k - 1) (i - 1) (and_left (eqb (k - 1) (i - 1)) (eqb (suc l) j) both)),
        sym (eqb-true (suc l) j (and_right (eqb (k - 1) (i - 1)) (eqb (suc l) j) both)),
      )

  pub named_once : (p q : Place) → is_named G p ≡ true → is_named G q ≡ true → number_of G p ≡ number_of G q → p ≡ q
  unfolding number_of
  named_once Well Well e f n = refl
  named_once Well (Cell k l) e f n = absurd (off_zero k l f (sym n))
  named_once (Cell i j) Well e f n = absurd (off_zero i j e n)
  named_once (Cell i j) (Cell k l) e f n = let s = same_cell i j k l e f n in ap₂ Cell s.0 s.1

  pub place-named : (n : ℕ) → n < (network_of G).places → (p : Place) × (is_named G p ≡ true) × (number_of G p ≡ n)
  unfolding is_named number_of network_of
  place-named = by_place G (λ n. (p : Place) × (is_named G p ≡ true) × (number_of G p ≡ n)) (Well, refl, refl) (λ i j h k. let c = named_cell i j h k in (Cell (suc i) (suc j), c.0, c.1))

-- of two grids
module _ (G H : Grid) (layers : G.layers ≡ H.layers) (columns : G.columns ≡ H.columns) where
  pub equal_counts : place_count G ≡ place_count H
  unfolding place_count
  equal_counts = rw (layers, columns)

  pub equal_names : (p : Place) → is_named G p ≡ is_named H p
  unfolding is_named is_layer is_stored
  equal_names Well = refl
  equal_names (Cell i j) = rw (layers, columns)

  pub equal_places : (i j : ℕ) → place G i j ≡ place H i j
  unfolding place
  equal_places i zero = refl
  equal_places i (suc j) = rw (equal_counts, columns)

  pub equal_numbers : (p : Place) → number_of G p ≡ number_of H p
  unfolding number_of
  equal_numbers Well = refl
  equal_numbers (Cell i j) = equal_places _ j

-- ---- the drawdown that is read
pub read_depth : (r : Record) → valid r ≡ true → (p : Place) → is_named (grid_of r) p ≡ true
    → drawdown_of r p ≡ given 0 (drawdown (network_of (grid_of r)) (state_of r).losses (number_of (grid_of r) p))
unfolding drawdown_of first
read_depth r ok p e = rw (ok, e)
