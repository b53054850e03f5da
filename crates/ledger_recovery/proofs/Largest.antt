-- The largest drawdown of a grid with given losses: laws only, nothing to believe.
--     largest_above     no place's D is above it
--     largest_least     where no place's D is above M, nor is it
--     largest-named     some named place has it
use Rattle.std.proofs.Common.{◌≡◌, ℕ, zero, suc, ◌+◌, ◌-◌, ◌<◌, ◌≤◌, Bool, true, false, List, [], ◌∷◌, map, ℤ, ◌≤ℤ◌, sym, refl, ap, subst, ⊎_elim, zero-le, arith}
use mathlib.Core.List.Memᴰ
use mathlib.Core.List.{Memᴰ}
use lib.Signed.{le_z, ≤ℤ_refl}
use Rattle.laws.specs.Integer.{≤ℤ_trans, larger-first, larger_second, larger_bounds}
use Rattle.laws.specs.Lists.{larger}
use Rattle.laws.specs.Sums.{mem_range, range_mem, range-below, mem_flat_map, flat_map_mem}
use Rattle.network.specs.Network.{drawdown}
use Rattle.network.specs.Grid.{Grid, stored_columns, layers_of, place_count, place, network_of}
use Rattle.network.proofs.laws.Places.{place-below, by_place}
use Rattle.readings.specs.declared.Place.{Place}
use Rattle.readings.specs.declared.Place.TheVariants.{Well, Cell}
use Rattle.readings.specs.Readings.{is_named, number_of}
use Rattle.readings.specs.Laws.{named_cell}
use Rattle.ledger_recovery.specs.Recovery.{largest_of, cell_depths, largest_in}

-- ---- of a list

first_below : (x : ℤ) (l : List ℤ) → x ≤ℤ largest_of x l
unfolding largest_of
first_below x [] = ≤ℤ_refl x
first_below x (y ∷ l) = ≤ℤ_trans _ _ _ (first_below x l) (larger_bounds y (largest_of x l)).1

other_below : (x : ℤ) {y : ℤ} (l : List ℤ) → Memᴰ y l → y ≤ℤ largest_of x l
unfolding largest_of
other_below x [] m = absurd (Memᴰ.not-nil m)
other_below x {y} (z ∷ l) m =
    ⊎_elim (λ e. rw e (larger_bounds z (largest_of x l)).0) (λ k. ≤ℤ_trans _ _ _ (other_below x l k) (larger_bounds z (largest_of x l)).1) (Memᴰ.cases_cons m)

-- what holds of x and of each number in a list holds of the largest
one_of : (P : ℤ → Type 0) (x : ℤ) (l : List ℤ) → P x → ((y : ℤ) → Memᴰ y l → P y) → P (largest_of x l)
unfolding largest_of
one_of P x [] h k = h
one_of P x (y ∷ l) h k = by_test (le_z y (largest_of x l)) refl (one_of P x l h (λ z m. k z (Memᴰ.tail m)))
  where
    by_test : (t : Bool) → le_z y (largest_of x l) ≡ t → P (largest_of x l) → P (larger y (largest_of x l))
    by_test true e later = subst P (sym (larger_second y (largest_of x l) e)) later
    by_test false e later = subst P (sym (larger-first y (largest_of x l) e)) (k y (Memᴰ.head refl))

-- ---- of a grid with the losses vs
module _ (G : Grid) (vs : List ℤ) where
  abbrev D : ℕ → ℤ
  D p = drawdown (network_of G) vs p

  abbrev row : ℕ → List ℤ
  row i = map (λ j. D (place G i j)) (stored_columns G)

  -- the D of each cell, and no others
  cell_in : (i r : ℕ) → i < G.layers → suc r < G.columns → Memᴰ (D (place G i (suc r))) (cell_depths G vs)
  unfolding cell_depths stored_columns layers_of
  cell_in i r h k = mem_flat_map row (mem_range G.layers zero-le (omega arith)) (Memᴰ.map (λ j. D (place G i j)) (mem_range (G.columns - 1) (omega arith) (omega arith)))

  in_cell : (P : ℤ → Type 0) → ((i r : ℕ) → i < G.layers → suc r < G.columns → P (D (place G i (suc r)))) → (y : ℤ) → Memᴰ y (cell_depths G vs) → P y
  unfolding cell_depths stored_columns layers_of
  in_cell P cells y m =
      let a = flat_map_mem row (layers_of G) m in
      let b = Memᴰ.of_map (λ j. D (place G a.0 j)) (stored_columns G) a.2 in
      subst P b.2 (by_column a.0 b.0 (range-below G.layers a.1) (range_mem 1 (G.columns - 1) b.1))
    where
      by_column : (i j : ℕ) → i < G.layers → (1 ≤ j) × (j < 1 + (G.columns - 1)) → P (D (place G i j))
      by_column i zero h k = absurd (omega (arith, k.0))
      by_column i (suc r) h k = cells i r h (omega (arith, k.1))

  pub largest_above : (p : ℕ) → p < place_count G → D p ≤ℤ largest_in G vs
  unfolding largest_in
  largest_above = by_place G (λ p. D p ≤ℤ largest_in G vs)
      (first_below (D 0) (cell_depths G vs))
      (λ i r h k. other_below (D 0) (cell_depths G vs) (cell_in i r h k))

  pub largest_least : (M : ℤ) → ((p : ℕ) → p < place_count G → D p ≤ℤ M) → largest_in G vs ≤ℤ M
  unfolding largest_in place_count
  largest_least M h = one_of (λ y. y ≤ℤ M) (D 0) (cell_depths G vs) (h 0 (omega arith)) (in_cell (λ y. y ≤ℤ M) (λ i r a b. h (place G i (suc r)) (place-below G i r a b)))

  -- a named place with this D
  abbrev Named : ℤ → Type 0
  Named y = (p : Place) × (is_named G p ≡ true) × (D (number_of G p) ≡ y)

  pub largest-named : Named (largest_in G vs)
  unfolding largest_in is_named number_of
  largest-named =
      one_of Named (D 0) (cell_depths G vs) (Well, refl, refl)
      (in_cell Named (λ i r h k. let c = named_cell G i r h k in (Cell (suc i) (suc r), c.0, ap D c.1)))
