-- The numbering of a grid's places: each number below the count is the well's or one cell's.
--     place_cell, place-last    the number of a cell, and of the last column
--     by_place                  what holds of the well and of each cell holds of every place
--     place_is                  a number is a cell's only for its layer and column
--     one_per_place_lem             a list with one entry for each place, by its entries
use Rattle.std.specs.Prelude.{◌≡◌, false, ◌&&◌, eqb, ltb}
use Rattle.std.proofs.Math.Path.{refl, sym, ap, subst}
use Rattle.std.proofs.Common.{◌∙◌, add-zero, zero-mul, mul-zero, mod-lt, div-add-mod', div-lt_iff_lt-mul}
use Rattle.std.proofs.Math.Bool.{and-false}
use mathlib.Core.List.{List, map, flat_map}
use Prim.Native.Nat.{ℕ, zero, suc, ◌+◌, ◌*◌, ◌-◌, ◌/◌, ◌%◌, ◌≤◌, ◌<◌}
use Rattle.std.proofs.Math.Decide.{dec_lt, ℕ_discrete}
use Rattle.std.proofs.Math.Nat.{zero-add}
use native.Mathlib.Omega.{arith}
use Rattle.std.proofs.Math.Arith.{digits_div, digits_lt}
use Rattle.std.proofs.Math.ListN.{length, get_or, length-append, get_or-append}
use Rattle.std.proofs.lemmas.List.{length-map}
use Rattle.std.proofs.Math.Seq.{get_or-append-add, ext_get_or}
use borrow.Author.Tests.{lt-ltb, le-ltb, eq-eqb, ne_eqb}
use Rattle.laws.specs.Lists.{range}
use Rattle.laws.specs.Sums.{get_or-map-range, length-range}
use Rattle.network.specs.Grid.{Grid, stored_columns, layers_of, place_count, place, one_per_place}

-- ---- lists of equal rows

module _ {A : Type 0} (g : ℕ → ℕ → A) (d : A) (c : ℕ) where
  rows : ℕ → ℕ → List A
  rows k n = flat_map (λ i. map (g i) (range 1 c)) (range k n)

  length-row : (i : ℕ) → length (map (g i) (range 1 c)) ≡ c
  length-row i = length-map (range 1 c) (g i) ∙ length-range 1 c

  length-rows : (k n : ℕ) → length (rows k n) ≡ n * c
  unfolding rows flat_map range
  length-rows k zero = omega arith
  length-rows k (suc n) = length-append (map (g k) (range 1 c)) (rows (suc k) n) ∙ omega (arith, length-row k, length-rows (suc k) n)

  get_d_rows : (k n i r : ℕ) → i < n → r < c → get_or (rows k n) (i * c + r) d ≡ g (k + i) (suc r)
  unfolding rows flat_map range
  get_d_rows k zero i r h b = absurd (omega arith)
  get_d_rows k (suc n) zero r h b =
      rw (zero-mul, zero-add, add-zero)
      (get_or-append (map (g k) (range 1 c)) (rows (suc k) n) d r (rw (length-row k) b) ∙ get_or-map-range (g k) d 1 c r b ∙ ap (g k) (omega arith))
  get_d_rows k (suc n) (suc i) r h b =
      ap (λ p. get_or (rows k (suc n)) p d) next ∙ get_or-append-add (map (g k) (range 1 c)) (rows (suc k) n) (i * c + r) d
      ∙ get_d_rows (suc k) n i r (omega arith) b ∙ ap (λ j. g j (suc r)) (omega arith)
    where
      next : suc i * c + r ≡ length (map (g k) (range 1 c)) + (i * c + r)
      next = rw (length-row k) (omega arith)

module _ (G : Grid) where
  pub place_cell : (i r : ℕ) → suc r < G.columns → place G i (suc r) ≡ 1 + i * (G.columns - 1) + r
  unfolding place
  place_cell i r h = rw (lt-ltb (suc r) G.columns h)

  pub place-last : (i r : ℕ) → G.columns ≤ suc r → place G i (suc r) ≡ place_count G
  unfolding place
  place-last i r h = rw (le-ltb (suc r) G.columns h)

  -- a cell's number is below the count
  pub place-below : (i r : ℕ) → i < G.layers → suc r < G.columns → place G i (suc r) < place_count G
  unfolding place_count
  place-below i r h k = rw (place_cell i r k) (omega (arith, digits_lt {q = i} {m = G.layers} {r = r} {c = G.columns - 1} h (omega arith)))

  pub by_place : (P : ℕ → Type 0) → P 0 → ((i r : ℕ) → i < G.layers → suc r < G.columns → P (place G i (suc r))) → (p : ℕ) → p < place_count G → P p
  unfolding place_count
  by_place P well cells zero h = well
  by_place P well cells (suc q) h = subst P (place_cell i r in_row ∙ number) (cells i r in_layers in_row)
    where
      c : ℕ
      c = G.columns - 1

      some-columns : 0 < c
      some-columns = positive c h
        where
          positive : (c : ℕ) → suc q < 1 + G.layers * c → 0 < c
          positive zero k = absurd (omega (arith, rw mul-zero at k))
          positive (suc c) k = omega arith

      i : ℕ
      i = q / c

      r : ℕ
      r = q % c

      number : 1 + i * c + r ≡ suc q
      number = omega (arith, div-add-mod' q c)

      in_row : suc r < G.columns
      in_row = omega (arith, mod-lt q some-columns)

      in_layers : i < G.layers
      in_layers = (div-lt_iff_lt-mul {k = c} {x = q} {y = G.layers} some-columns).1 (omega arith)

  pub place_well : (i : ℕ) → place G i 0 ≡ 0
  unfolding place
  place_well i = refl

  -- two numbers of cells that are the same are of the same layer and column
  same_layer : (i r i₀ r₀ : ℕ) → suc r < G.columns → suc r₀ < G.columns → place G i (suc r) ≡ place G i₀ (suc r₀) → i ≡ i₀
  same_layer i r i₀ r₀ k h e = sym (digits_div i {m = c} {r = r} (omega arith)) ∙ ap (λ n. n / c) (numbers (sym (place_cell i r k) ∙ e ∙ place_cell i₀ r₀ h)) ∙ digits_div i₀ (omega arith)
    where
      c : ℕ
      c = G.columns - 1

      numbers : 1 + i * c + r ≡ 1 + i₀ * c + r₀ → i * c + r ≡ i₀ * c + r₀
      numbers q = omega arith

  same_column : (i r r₀ : ℕ) → suc r < G.columns → suc r₀ < G.columns → place G i (suc r) ≡ place G i (suc r₀) → r ≡ r₀
  same_column i r r₀ k h e = omega (arith, sym (place_cell i r k) ∙ e ∙ place_cell i r₀ h)

  -- the number of a cell is that of no other cell, nor of the well or the last column
  pub place_is : (i₀ r₀ : ℕ) → i₀ < G.layers → suc r₀ < G.columns → (i j : ℕ) → eqb (place G i j) (place G i₀ (suc r₀)) ≡ (eqb i₀ i && eqb (suc r₀) j)
  place_is i₀ r₀ hi hr i zero =
      rw (place_well i, place_cell i₀ r₀ hr, ne_eqb 0 (1 + i₀ * (G.columns - 1) + r₀) (omega arith), ne_eqb (suc r₀) 0 (omega arith)) (sym (and-false (eqb i₀ i)))
  place_is i₀ r₀ hi hr i (suc r) = elim (dec_lt (suc r) G.columns) [
    | no k ↦ rw (place-last i r (omega arith), ne_eqb (place_count G) (place G i₀ (suc r₀)) (omega (arith, place-below i₀ r₀ hi hr)), ne_eqb (suc r₀) (suc r) (omega arith)) (sym (and-false (eqb i₀ i)))
    | yes k ↦ elim (ℕ_discrete i₀ i) [
      | no e ↦ rw (ne_eqb i₀ i e) (ne_eqb (place G i (suc r)) (place G i₀ (suc r₀)) (λ q. e (sym (same_layer i r i₀ r₀ k hr q))))
      | yes e ↦ rw (e, eq-eqb i i refl) (elim (ℕ_discrete r₀ r) [
        | yes q ↦ rw (q, eq-eqb (place G i (suc r)) (place G i (suc r)) refl, eq-eqb (suc r) (suc r) refl)
        | no q ↦ rw (ne_eqb (suc r₀) (suc r) (omega arith)) (ne_eqb (place G i (suc r)) (place G i (suc r₀)) (λ n. q (sym (same_column i r r₀ k hr n))))
      ])
    ]
  ]

  pub off_well : (i j : ℕ) → 0 < j → eqb (place G i j) 0 ≡ false
  unfolding place_count
  off_well i zero h = absurd (omega arith)
  off_well i (suc r) h = elim (dec_lt (suc r) G.columns) [
    | yes k ↦ rw (place_cell i r k) (ne_eqb (1 + i * (G.columns - 1) + r) 0 (omega arith))
    | no k ↦ rw (place-last i r (omega arith)) (ne_eqb (place_count G) 0 (omega arith))
  ]

  -- a column is stored if it is not the last
  pub place-stored : 1 < G.columns → (i j : ℕ) → i < G.layers → ltb (place G i j) (place_count G) ≡ ltb j G.columns
  unfolding place_count
  place-stored wide i zero h = rw (place_well i, lt-ltb 0 (place_count G) (omega arith), lt-ltb 0 G.columns (omega arith))
  place-stored wide i (suc r) h = elim (dec_lt (suc r) G.columns) [
    | yes k ↦ rw (lt-ltb (suc r) G.columns k) (lt-ltb _ (place_count G) (place-below i r h k))
    | no k ↦ rw (place-last i r (omega arith), le-ltb (suc r) G.columns (omega arith)) (le-ltb (place_count G) (place_count G) (omega arith))
  ]

  -- entries of a list with one for each place
  pub get_or_one : {A : Type 0} (well : A) (f : ℕ → ℕ → A) (d : A) (i r : ℕ) → i < G.layers → suc r < G.columns → get_or (one_per_place G well f) (place G i (suc r)) d ≡ f i (suc r)
  unfolding one_per_place stored_columns layers_of rows
  get_or_one well f d i r hi hr = rw (place_cell i r hr, one_more) (get_d_rows f d (G.columns - 1) 0 G.layers i r hi (omega arith) ∙ ap (λ n. f n (suc r)) (zero-add i))
    where
      one_more : 1 + i * (G.columns - 1) + r ≡ suc (i * (G.columns - 1) + r)
      one_more = omega arith

  pub length_one : {A : Type 0} (well : A) (f : ℕ → ℕ → A) → length (one_per_place G well f) ≡ place_count G
  unfolding one_per_place stored_columns layers_of rows place_count
  length_one well f = omega (arith, length-rows f well (G.columns - 1) 0 G.layers)

  pub one_per_place_lem : {A : Type 0} (well : A) (f : ℕ → ℕ → A) (d : A) (l : List A) → length l ≡ place_count G → get_or l 0 d ≡ well
      → ((i r : ℕ) → i < G.layers → suc r < G.columns → get_or l (place G i (suc r)) d ≡ f i (suc r)) → l ≡ one_per_place G well f
  unfolding one_per_place
  one_per_place_lem well f d l n w h = ext_get_or d l (one_per_place G well f) (n ∙ sym (length_one well f))
      (λ p b. by_place (λ p. get_or l p d ≡ get_or (one_per_place G well f) p d) w (λ i r hi hr. h i r hi hr ∙ sym (get_or_one well f d i r hi hr)) p (rw (← n) b))
