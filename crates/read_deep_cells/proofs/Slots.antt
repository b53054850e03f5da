-- The deep cells of a record, listed by slot: laws only, nothing to believe.
--     below_none, below_more, ..  no slot; one slot more; below_ext: tests that agree list alike
--     sum_below, length-below    sums over such a list, and its length; length_most: fewer slots list no more
--     with_none, with_more       a list in front of which nothing is written, and one number more; length_with: it is as long as before
--     codes                      the codes of a record's deep cells, by slot
--     sum_codes, count_codes     sums over them, layer by layer and column by column; there are deep_count of them
--     times-codes                each code of a deep cell stands in them once, and no other
use mathlib.Core.Path.{◌≡◌, refl, sym, ap, ap₂, ◌∙◌}
use mathlib.Core.Bool.{Bool, true, false, cond, ◌&&◌, and-false, false≢true}
use mathlib.Core.List.{List, [], ◌∷◌, ◌++◌, append-nil}
use Prim.Native.Nat.{ℕ, zero, suc, ◌+◌, ◌*◌, ◌-◌, ◌/◌, ◌%◌, ◌≤◌, ◌<◌, zero-le}
use native.Mathlib.Nat.{add-zero, mul_comm}
use native.Mathlib.Numerals.{add-one}
use native.Mathlib.Omega.{arith}
use lib.Dec.{eqb, leb}
use lib.ListN.{length, get_or, drop, set, length-append, length-drop, drop_of_length-le}
use lib.Seq.{drop-cons, append_snoc, set-append_seam}
use borrow.Author.Tests.{eqb-true, eq-eqb, lt-ltb, le-ltb, le-leb}
use Rattle.laws.specs.All.{and_left}
use Rattle.laws.specs.Rows.{same_test, both_hold}
use Rattle.laws.specs.RowSums.{sum_parts, sum_more, sum_shift, sum_cut, sum_rows}
use Rattle.laws.specs.Lists.{ifℕ, sumℕ, range}
use Rattle.laws.specs.Sums.{ifℕ-swap, sumℕ_append, sumℕ_ext, sumℕ_zero, sumℕ_pick, range-below}
use Rattle.network.specs.Grid.{stored_columns, layers_of}
use Rattle.site.specs.Laws.{counts_hold_lem}
use Rattle.site.specs.Limited.{Counts}
use Rattle.record.specs.declared.Record.{Record}
use Rattle.record.specs.Record.{grid_of}
use Rattle.validity.specs.Validity.{valid}
use Rattle.validity.specs.Laws.{valid_record}
use Rattle.readings.specs.Readings.{is_layer, is_stored, is_named, is_deeper, is_deep_code, deep_count}
use Rattle.readings.specs.Laws.{cell_bounds}
use Rattle.read_deep_cells.specs.Codes.{code_of, below}
use Rattle.read_deep_cells.specs.Order.{times}

-- ---- lists by slot

pub length-sum : (l : List ℕ) → length l ≡ sumℕ l (λ x. 1)
unfolding sumℕ
length-sum [] = refl
length-sum (a ∷ l) = omega (arith, length-sum l)

pub one_if : (t : Bool) (c : ℕ) (g : ℕ → ℕ) → sumℕ (cond t (c ∷ []) []) g ≡ ifℕ t (g c)
unfolding sumℕ ifℕ
one_if true c g = add-zero (g c)
one_if false c g = refl

module _ (t : ℕ → Bool) (f : ℕ → ℕ) where
  pub below_none : below t f 0 ≡ []
  unfolding below
  below_none = refl

  -- a slot of which the test holds, and one of which it does not
  pub below_more : (n : ℕ) → t n ≡ true → below t f (n + 1) ≡ below t f n ++ (f n ∷ [])
  unfolding below
  below_more n e = rw (add-one n, e)

  pub below_same : (n : ℕ) → t n ≡ false → below t f (n + 1) ≡ below t f n
  unfolding below
  below_same n e = rw (add-one n, e) (append-nil (below t f n))

  pub sum_below : (g : ℕ → ℕ) (n : ℕ) → sumℕ (below t f n) g ≡ sumℕ (range 0 n) (λ k. ifℕ (t k) (g (f k)))
  unfolding below sumℕ range
  sum_below g zero = refl
  sum_below g (suc n) =
      sumℕ_append (below t f n) (cond (t n) (f n ∷ []) []) g ∙ ap₂ ◌+◌ (sum_below g n) (one_if (t n) (f n) g)
      ∙ sym (ap (λ m. sumℕ (range 0 m) (λ k. ifℕ (t k) (g (f k)))) (sym (add-one n)) ∙ sum_more (λ k. ifℕ (t k) (g (f k))) n)

  pub length-below : (n : ℕ) → length (below t f n) ≡ sumℕ (range 0 n) (λ k. ifℕ (t k) 1)
  length-below n = length-sum (below t f n) ∙ sum_below (λ x. 1) n

  pub length_most : (m n : ℕ) → m ≤ n → length (below t f m) ≤ length (below t f n)
  length_most m n h =
      let e : n ≡ m + (n - m) = omega arith in
      omega (arith, length-below m, length-below n, ap (λ x. sumℕ (range 0 x) (λ k. ifℕ (t k) 1)) e, sum_parts (λ k. ifℕ (t k) 1) 0 m (n - m))

pub below_ext : (t u : ℕ → Bool) (f : ℕ → ℕ) (n : ℕ) → ((k : ℕ) → k < n → t k ≡ u k) → below t f n ≡ below u f n
unfolding below
below_ext t u f zero h = refl
below_ext t u f (suc n) h = ap₂ (λ l b. l ++ cond b (f n ∷ []) []) (below_ext t u f n (λ k lt. h k (omega arith))) (h n (omega arith))

-- ---- a list with numbers written from its first slot on

unfoldable pub with_front : List ℕ → List ℕ → List ℕ
with_front front old = front ++ drop (length front) old

module _ (front old : List ℕ) where
  pub length_with : length front ≤ length old → length (with_front front old) ≡ length old
  unfolding with_front
  length_with h = omega (arith, length-append front (drop (length front) old), length-drop (length front) old)

  -- one number more, stored after the last
  pub with_more : (v : ℕ) → length front < length old → set (with_front front old) (length front) v ≡ with_front (front ++ (v ∷ [])) old
  unfolding with_front
  with_more v h =
      ap (λ l. set (front ++ l) (length front) v) (drop-cons old (length front) 0 h)
      ∙ set-append_seam front (get_or old (length front) 0) (drop (suc (length front)) old) v
      ∙ sym (ap (λ k. front ++ (v ∷ []) ++ drop k old) longer ∙ append_snoc front v (drop (suc (length front)) old))
    where
      longer : length (front ++ (v ∷ [])) ≡ suc (length front)
      longer = omega (arith, length-append front (v ∷ []))

pub with_none : (old : List ℕ) → with_front [] old ≡ old
unfolding with_front
with_none old = refl

pub with_all : (front old : List ℕ) → length old ≡ length front → with_front front old ≡ front
unfolding with_front
with_all front old e = ap (λ l. front ++ l) (drop_of_length-le old {i = length front} (omega arith)) ∙ append-nil front

-- ---- the codes of a record

-- slot k has a cell, which is deeper
abbrev pub deep_slot : Record → ℕ → ℕ → Bool
deep_slot r D k = is_stored (grid_of r) (k % 50 + 1) && is_deeper r D (k / 50) (k % 50 + 1)

unfoldable pub codes : Record → ℕ → List ℕ
codes r D = below (deep_slot r D) code_of (50 * r.site.layers)

module _ (r : Record) where
  pub stored : (j : ℕ) → 1 ≤ j → j < r.site.columns → is_stored (grid_of r) j ≡ true
  unfolding is_stored grid_of
  stored j one h = both_hold (le-leb 1 j one) (lt-ltb j r.site.columns h)

  pub not-stored : (j : ℕ) → r.site.columns ≤ j → is_stored (grid_of r) j ≡ false
  unfolding is_stored grid_of
  not-stored j h = rw (le-ltb j r.site.columns h) (and-false (leb 1 j))

module _ (r : Record) (D : ℕ) where
  abbrev n : ℕ
  n = r.site.layers

  abbrev m : ℕ
  m = r.site.columns

  module _ (ok : valid r ≡ true) where
    pub counted : Counts r.site
    counted = counts_hold_lem r.site (valid_record r ok).counts

    -- a row of slots
    module _ (g : ℕ → ℕ) where
      in_row : (i j : ℕ) → j < m - 1 → ifℕ (deep_slot r D (i * 50 + j)) (g (code_of (i * 50 + j))) ≡ ifℕ (is_deeper r D i (1 + j)) (g (suc i * 100 + (1 + j)))
      unfolding code_of
      in_row i j h = ap₂ (λ t c. ifℕ t (g c)) (rw (layer, column, stored r (1 + j) (omega arith) (omega arith))) (omega (arith, counted.columns_most))
        where
          layer : (i * 50 + j) / 50 ≡ i
          layer = omega (arith, counted.columns_most)

          column : (i * 50 + j) % 50 + 1 ≡ 1 + j
          column = omega (arith, counted.columns_most)

      past_row : (i j : ℕ) → m - 1 ≤ j → j < 50 → ifℕ (deep_slot r D (i * 50 + j)) (g (code_of (i * 50 + j))) ≡ 0
      unfolding ifℕ
      past_row i j h b = rw (not-stored r ((i * 50 + j) % 50 + 1) (omega (arith, counted.columns_least)))

      row : (i : ℕ) → sumℕ (range 1 (m - 1)) (λ j. ifℕ (is_deeper r D i j) (g (suc i * 100 + j))) ≡ sumℕ (range 0 50) (λ j. ifℕ (deep_slot r D (i * 50 + j)) (g (code_of (i * 50 + j))))
      row i =
          sum_shift (λ j. ifℕ (is_deeper r D i j) (g (suc i * 100 + j))) 1 0 (m - 1)
          ∙ sym (sum_cut (λ j. ifℕ (deep_slot r D (i * 50 + j)) (g (code_of (i * 50 + j)))) (m - 1) 50 (omega (arith, counted.columns_most)) (past_row i)
          ∙ sumℕ_ext (range 0 (m - 1)) (λ j h. in_row i j (range-below (m - 1) h)))

      pub sum_codes : sumℕ (layers_of (grid_of r)) (λ i. sumℕ (stored_columns (grid_of r)) (λ j. ifℕ (is_deeper r D i j) (g (suc i * 100 + j)))) ≡ sumℕ (codes r D) g
      unfolding layers_of stored_columns grid_of codes
      sum_codes =
          sumℕ_ext (range 0 n) (λ i h. row i)
          ∙ sym (sum_below (deep_slot r D) code_of g (50 * n) ∙ ap (λ k. sumℕ (range 0 k) (λ k. ifℕ (deep_slot r D k) (g (code_of k)))) (mul_comm 50 n)
          ∙ sum_rows (λ k. ifℕ (deep_slot r D k) (g (code_of k))) 50 n)

    pub count_codes : deep_count r D ≡ length (codes r D)
    unfolding deep_count is_deeper
    count_codes = sum_codes (λ c. 1) ∙ sym (length-sum (codes r D))

    -- a code of a cell is that of one slot
    module _ (c : ℕ) where
      abbrev here : ℕ
      here = 50 * (c / 100 - 1) + (c % 100 - 1)

      named : Bool
      named = is_layer (grid_of r) (c / 100) && is_stored (grid_of r) (c % 100)

      named_bounds : named ≡ true → (1 ≤ c / 100) × (c / 100 ≤ n) × (1 ≤ c % 100) × (c % 100 < m)
      unfolding named is_named grid_of
      named_bounds e = cell_bounds (grid_of r) (c / 100) (c % 100) e

      only_slot : named ≡ true → (k : ℕ) → eqb (code_of k) c ≡ eqb here k
      unfolding code_of
      only_slot e k =
          let b = named_bounds e in
          same_test (eqb (code_of k) c) (eqb here k)
          (λ q. eq-eqb here k (omega (arith, eqb-true ((k / 50 + 1) * 100 + k % 50 + 1) c q)))
          (λ q. eq-eqb ((k / 50 + 1) * 100 + k % 50 + 1) c (omega (arith, eqb-true here k q, counted.columns_most)))

      slot-named : (k : ℕ) → k < 50 * n → is_stored (grid_of r) (k % 50 + 1) ≡ true → code_of k ≡ c → named ≡ true
      unfolding named is_layer code_of grid_of
      slot-named k h e q =
          both_hold (both_hold (le-leb 1 (c / 100) (omega arith)) (le-leb (c / 100) n (omega arith)))
          (ap (is_stored (grid_of r)) column ∙ e)
        where
          column : c % 100 ≡ k % 50 + 1
          column = omega arith

      no_slot : named ≡ false → (k : ℕ) → k < 50 * n → ifℕ (deep_slot r D k) (ifℕ (eqb (code_of k) c) 1) ≡ 0
      unfolding ifℕ
      no_slot e k h = by_test (deep_slot r D k) (eqb (code_of k) c) refl refl
        where
          by_test : (t u : Bool) → deep_slot r D k ≡ t → eqb (code_of k) c ≡ u → ifℕ t (ifℕ u 1) ≡ 0
          by_test true true d q = absurd (false≢true (sym e ∙ slot-named k h (and_left (is_stored (grid_of r) (k % 50 + 1)) (is_deeper r D (k / 50) (k % 50 + 1)) d) (eqb-true (code_of k) c q)))
          by_test true false d q = refl
          by_test false u d q = refl

      pub times-codes : times c (codes r D) ≡ ifℕ (is_deep_code r D c) 1
      unfolding times codes is_deep_code named ifℕ
      times-codes = sum_below (deep_slot r D) code_of (λ x. ifℕ (eqb x c) 1) (50 * n) ∙ by_test named refl
        where
          by_test : (t : Bool) → named ≡ t → sumℕ (range 0 (50 * n)) (λ k. ifℕ (deep_slot r D k) (ifℕ (eqb (code_of k) c) 1)) ≡ ifℕ (t && is_deeper r D (c / 100 - 1) (c % 100)) 1
          by_test true e =
              let b = named_bounds e in
              let layer : here / 50 ≡ c / 100 - 1 = omega (arith, counted.columns_most) in
              let column : here % 50 + 1 ≡ c % 100 = omega (arith, counted.columns_most) in
              sumℕ_ext (range 0 (50 * n)) (λ k h. ifℕ-swap (deep_slot r D k) (eqb (code_of k) c) 1 ∙ ap (λ u. ifℕ u (ifℕ (deep_slot r D k) 1)) (only_slot e k))
              ∙ sumℕ_pick (λ k. ifℕ (deep_slot r D k) 1) 0 (50 * n) here zero-le (omega (arith, counted.columns_most))
              ∙ ap₂ (λ i j. ifℕ (is_stored (grid_of r) j && is_deeper r D i j) 1) layer column
              ∙ ap (λ u. ifℕ (u && is_deeper r D (c / 100 - 1) (c % 100)) 1) (stored r (c % 100) b.2 b.3)
          by_test false e = sumℕ_zero (range 0 (50 * n)) (λ k h. no_slot e k (range-below (50 * n) h))
