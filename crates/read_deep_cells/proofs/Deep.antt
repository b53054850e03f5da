-- The codes of a record's deep cells in the order of the definition: laws only, nothing to believe.
--     deep_length        there are deep_count of them; deep_times: each stands once, and no other code
--     deep_order         they are in order
--     may_precede_lem        a deeper cell, and at equal D one with a smaller code, may stand before
--     only_list          a list in order with the same sums is this one, and (only_arranged) so is one that is arranged
use mathlib.Core.Path.{◌≡◌, refl, sym, ap, ap₂, ◌∙◌}
use mathlib.Core.Bool.{Bool, true, false, cond, ◌&&◌, ◌||◌, false≢true}
use mathlib.Core.Logic.{◌⊎◌, inl, inr, ⊎_elim}
use mathlib.Core.List.Memᴰ
use mathlib.Core.List.{List, [], ◌∷◌, flat_map, Memᴰ}
use Prim.Native.Nat.{ℕ, zero, suc, ◌+◌, ◌*◌, ◌-◌, ◌/◌, ◌%◌, ◌≤◌, ◌<◌}
use native.Mathlib.Decide.{ℕ_discrete}
use native.Mathlib.Nat.{zero-add, add-zero}
use native.Mathlib.Omega.{arith}
use lib.Dec.{eqb, leb, ltb}
use lib.IntN.{ℤ, pos}
use lib.ListN.{length}
use lib.Signed.{lt_z}
use borrow.Author.Tests.{eqb-true, eq-eqb, ne_eqb, ltb-true, lt-ltb, le-leb, leb-true}
use Rattle.limits.specs.Limits.{drawdown_limit}
use Rattle.laws.specs.All.{and_left, and_right}
use Rattle.laws.specs.Integer.{≤ℤ_pos}
use Rattle.laws.specs.Lists.{falling, ifℕ, sumℕ}
use Rattle.laws.specs.Number.{below_or_not}
use Rattle.laws.specs.Rows.{same_test, both_hold}
use Rattle.laws.specs.Sums.{sumℕ_ext, sumℕ-swap, sumℕ-flat_map, flat_map_mem, range_mem}
use Rattle.network.specs.Network.{Network, drawdown}
use Rattle.network.specs.Grid.{Grid, stored_columns, layers_of, place, network_of}
use Rattle.network.proofs.laws.Bounds as bounds
use Rattle.network.proofs.laws.Places.{place-below}
use Rattle.record.specs.declared.Record.{Record}
use Rattle.record.specs.Record.{grid_of, state_of}
use Rattle.validity.specs.Validity.{equalℤ, valid}
use Rattle.validity.specs.Laws.{Valid, valid_record, valid_proper}
use Rattle.readings.specs.Readings.{is_deeper, is_deep_code, deep_count, codes_at, deep_codes}
use Rattle.read_deep_cells.specs.Order.{times, depth_of_code, in_place_order, may_precede, in_order, Arranged}
use Rattle.read_deep_cells.proofs.Ordered.{unique, order_none, order_one, order_flat_map, order_range, order_falling}
use Rattle.read_deep_cells.proofs.Slots.{length-sum, one_if, counted, codes, sum_codes, count_codes, times-codes}

-- ---- levels of drawdown

equal_test : (a d : ℕ) → equalℤ (pos a) (pos d) ≡ eqb a d
equal_test a d = same_test (leb a d && leb d a) (eqb a d)
    (λ q. eq-eqb a d (omega (arith, leb-true a d (and_left (leb a d) (leb d a) q), leb-true d a (and_right (leb a d) (leb d a) q))))
    (λ q. both_hold (le-leb a d (omega (arith, eqb-true a d q))) (le-leb d a (omega (arith, eqb-true a d q))))

-- of the levels above D one at most is a
one_level : (D a x n : ℕ) → sumℕ (falling D n) (λ d. ifℕ (eqb a d) x) ≡ ifℕ (ltb D a && leb a (D + n)) x
unfolding sumℕ falling ifℕ
one_level D a x zero = ap (λ t. ifℕ t x) (same_test false (ltb D a && leb a (D + 0)) (λ q. absurd (false≢true q))
    (λ q. absurd (omega (arith, ltb-true D a (and_left (ltb D a) (leb a (D + 0)) q), leb-true a (D + 0) (and_right (ltb D a) (leb a (D + 0)) q)))))
one_level D a x (suc n) = elim (ℕ_discrete a (D + suc n)) [
  | yes e ↦ ap₂ ◌+◌ (ap (λ t. ifℕ t x) (eq-eqb a (D + suc n) e)) (one_level D a x n ∙ ap (λ t. ifℕ t x) (none_below e)) ∙ add-zero x
      ∙ ap (λ t. ifℕ t x) (sym (both_hold (lt-ltb D a (omega arith)) (le-leb a (D + suc n) (omega arith))))
  | no f ↦ ap₂ ◌+◌ (ap (λ t. ifℕ t x) (ne_eqb a (D + suc n) f)) (one_level D a x n) ∙ zero-add (ifℕ (ltb D a && leb a (D + n)) x) ∙ ap (λ t. ifℕ (ltb D a && t) x) (same_below f)
]
  where
    none_below : a ≡ D + suc n → (ltb D a && leb a (D + n)) ≡ false
    none_below e = same_test (ltb D a && leb a (D + n)) false (λ q. absurd (omega (arith, leb-true a (D + n) (and_right (ltb D a) (leb a (D + n)) q)))) (λ q. absurd (false≢true q))

    same_below : (a ≡ D + suc n → ⊥) → leb a (D + n) ≡ leb a (D + suc n)
    same_below f = same_test (leb a (D + n)) (leb a (D + suc n)) (λ q. le-leb a (D + suc n) (omega (arith, leb-true a (D + n) q)))
        (λ q. ⊎_elim (λ h. le-leb a (D + n) (omega arith)) (λ h. absurd (f (omega (arith, leb-true a (D + suc n) q)))) (below_or_not a (D + suc n)))

-- where a is at most the limit, the levels from there down have it if it is above D
a_level : (D a x : ℕ) → a ≤ drawdown_limit → sumℕ (falling D (drawdown_limit - D)) (λ d. ifℕ (eqb a d) x) ≡ ifℕ (ltb D a) x
unfolding ifℕ
a_level D a x h = one_level D a x (drawdown_limit - D) ∙ ap (λ t. ifℕ t x) (same_test (ltb D a && leb a (D + (drawdown_limit - D))) (ltb D a)
    (λ q. and_left (ltb D a) (leb a (D + (drawdown_limit - D))) q)
    (λ q. both_hold q (le-leb a (D + (drawdown_limit - D)) (omega (arith, ltb-true D a q)))))

in_one : (t : Bool) (c x : ℕ) → Memᴰ x (cond t (c ∷ []) []) → (t ≡ true) × (x ≡ c)
in_one true c x m = (refl, ⊎_elim (λ e. e) (λ n. absurd (Memᴰ.not-nil n)) (Memᴰ.cases_cons m))
in_one false c x m = absurd (Memᴰ.not-nil m)

or_left : {t : Bool} (u : Bool) → t ≡ true → (t || u) ≡ true
or_left u e = rw e

or_right : (t : Bool) {u : Bool} → u ≡ true → (t || u) ≡ true
or_right true e = refl
or_right false e = e

or_cases : (t u : Bool) → (t || u) ≡ true → (t ≡ true) ⊎ (u ≡ true)
or_cases true u e = inl refl
or_cases false u e = inr e

-- ---- two codes

code_rises : (a b : ℕ) → a ≤ b → in_place_order a b ≡ true
unfolding in_place_order
code_rises a b k = ⊎_elim
    (λ lt. or_left (eqb (a / 100) (b / 100) && leb (a % 100) (b % 100)) (lt-ltb (a / 100) (b / 100) lt))
    (λ le. or_right (ltb (a / 100) (b / 100)) (both_hold (eq-eqb (a / 100) (b / 100) (omega arith)) (le-leb (a % 100) (b % 100) (omega arith))))
    (below_or_not (a / 100) (b / 100))

rises_code : (a b : ℕ) → in_place_order a b ≡ true → a ≤ b
unfolding in_place_order
rises_code a b e = ⊎_elim
    (λ q. omega (arith, ltb-true (a / 100) (b / 100) q))
    (λ q. omega (arith, eqb-true (a / 100) (b / 100) (and_left (eqb (a / 100) (b / 100)) (leb (a % 100) (b % 100)) q), leb-true (a % 100) (b % 100) (and_right (eqb (a / 100) (b / 100)) (leb (a % 100) (b % 100)) q)))
    (or_cases (ltb (a / 100) (b / 100)) (eqb (a / 100) (b / 100) && leb (a % 100) (b % 100)) e)

module _ (r : Record) (a b x y : ℕ) (ea : depth_of_code r a ≡ pos x) (eb : depth_of_code r b ≡ pos y) where
  precede_is : may_precede r a b ≡ (ltb y x || (leb y x && leb x y) && in_place_order a b)
  unfolding may_precede
  precede_is = rw (ea, eb) refl

  pub may_precede_lem : (y < x) ⊎ ((x ≡ y) × (a ≤ b)) → may_precede r a b ≡ true
  may_precede_lem h = precede_is ∙ ⊎_elim
      (λ k. or_left ((leb y x && leb x y) && in_place_order a b) (lt-ltb y x k))
      (λ k. or_right (ltb y x) (both_hold (both_hold (le-leb y x (omega (arith, k.0))) (le-leb x y (omega (arith, k.0)))) (code_rises a b k.1)))
      h

  precedes : may_precede r a b ≡ true → (y < x) ⊎ ((x ≡ y) × (a ≤ b))
  precedes e = ⊎_elim
      (λ q. inl (ltb-true y x q))
      (λ q. let t = and_left (leb y x && leb x y) (in_place_order a b) q in
      inr (omega (arith, leb-true y x (and_left (leb y x) (leb x y) t), leb-true x y (and_right (leb y x) (leb x y) t)), rises_code a b (and_right (leb y x && leb x y) (in_place_order a b) q)))
      (or_cases (ltb y x) ((leb y x && leb x y) && in_place_order a b) (sym precede_is ∙ e))

-- ---- the codes of a record that 14 lets pass

module _ (r : Record) (ok : valid r ≡ true) where
  abbrev G : Grid
  G = grid_of r

  abbrev N : Network
  N = network_of G

  abbrev vs : List ℤ
  vs = (state_of r).losses

  v : Valid r
  v = valid_record r ok

  -- D of a place, µm
  depth : ℕ → ℕ
  depth = bounds.depth N (valid_proper r v) (state_of r) v.kept

  depth_is : (p : ℕ) → drawdown N vs p ≡ pos (depth p)
  unfolding depth
  depth_is = bounds.depth_is N (valid_proper r v) (state_of r) v.kept

  depth_most : (i j : ℕ) → i < r.site.layers → 1 ≤ j → j < r.site.columns → depth (place G i j) ≤ drawdown_limit
  unfolding grid_of network_of
  depth_most i zero hi one hj = absurd (omega arith)
  depth_most i (suc j) hi one hj = ≤ℤ_pos (rw (depth_is (place G i (suc j))) at (v.kept.depths (place G i (suc j)) (place-below G i j hi hj)))

  -- D of the cell that a code names
  pub code_depth : ℕ → ℕ
  code_depth c = depth (place G (c / 100 - 1) (c % 100))

  pub code_depth_lem : (c : ℕ) → depth_of_code r c ≡ pos (code_depth c)
  unfolding depth_of_code code_depth
  code_depth_lem c = depth_is (place G (c / 100 - 1) (c % 100))

  never_both : (a b : ℕ) → may_precede r a b ≡ true → may_precede r b a ≡ true → a ≡ b
  never_both a b p q = ⊎_elim
      (λ h. ⊎_elim (λ k. absurd (omega arith)) (λ k. absurd (omega (arith, k.0))) (precedes r b a (code_depth b) (code_depth a) (code_depth_lem b) (code_depth_lem a) q))
      (λ h. ⊎_elim (λ k. absurd (omega (arith, h.0))) (λ k. omega (arith, h.1, k.1)) (precedes r b a (code_depth b) (code_depth a) (code_depth_lem b) (code_depth_lem a) q))
      (precedes r a b (code_depth a) (code_depth b) (code_depth_lem a) (code_depth_lem b) p)

  -- a cell and a row of the definition's level d
  abbrev cell_at : ℕ → ℕ → ℕ → List ℕ
  cell_at d i j = cond (equalℤ (drawdown N vs (place G i j)) (pos d)) ((suc i * 100 + j) ∷ []) []

  abbrev row_at : ℕ → ℕ → List ℕ
  row_at d i = flat_map (cell_at d i) (stored_columns G)

  at_level : (d i j : ℕ) → equalℤ (drawdown N vs (place G i j)) (pos d) ≡ eqb (depth (place G i j)) d
  at_level d i j = ap (λ z. equalℤ z (pos d)) (depth_is (place G i j)) ∙ equal_test (depth (place G i j)) d

  column_bounds : {j : ℕ} → Memᴰ j (stored_columns G) → (1 ≤ j) × (j < r.site.columns)
  unfolding stored_columns grid_of
  column_bounds m = let b = range_mem 1 (r.site.columns - 1) m in (b.0, omega (arith, b.0, b.1))

  -- ---- sums over them

  module _ (D : ℕ) (g : ℕ → ℕ) where
    abbrev levels : List ℕ
    levels = falling D (drawdown_limit - D)

    weight : ℕ → ℕ → ℕ → ℕ
    weight d i j = ifℕ (eqb (depth (place G i j)) d) (g (suc i * 100 + j))

    one_cell : (d i j : ℕ) → sumℕ (cell_at d i j) g ≡ weight d i j
    unfolding weight
    one_cell d i j = one_if (equalℤ (drawdown N vs (place G i j)) (pos d)) (suc i * 100 + j) g ∙ ap (λ t. ifℕ t (g (suc i * 100 + j))) (at_level d i j)

    level_sum : (d : ℕ) → sumℕ (codes_at G vs d) g ≡ sumℕ (layers_of G) (λ i. sumℕ (stored_columns G) (λ j. weight d i j))
    level_sum d =
        sumℕ-flat_map (row_at d) (layers_of G) g
        ∙ sumℕ_ext (layers_of G) (λ i m. sumℕ-flat_map (cell_at d i) (stored_columns G) g ∙ sumℕ_ext (stored_columns G) (λ j k. one_cell d i j))

    in_levels : (i j : ℕ) → Memᴰ i (layers_of G) → Memᴰ j (stored_columns G) → sumℕ levels (λ d. weight d i j) ≡ ifℕ (is_deeper r D i j) (g (suc i * 100 + j))
    unfolding weight is_deeper layers_of grid_of
    in_levels i j hi hj =
        let column = column_bounds hj in
        a_level D (depth (place G i j)) (g (suc i * 100 + j)) (depth_most i j (omega (arith, (range_mem 0 r.site.layers hi).1)) column.0 column.1)
        ∙ ap (λ z. ifℕ (lt_z (pos D) z) (g (suc i * 100 + j))) (sym (depth_is (place G i j)))

    deep_sums : sumℕ (deep_codes r D) g ≡ sumℕ (codes r D) g
    unfolding deep_codes
    deep_sums =
        sumℕ-flat_map (codes_at G vs) levels g
        ∙ sumℕ_ext levels (λ d m. level_sum d)
        ∙ sumℕ-swap levels (layers_of G) (λ d i. sumℕ (stored_columns G) (λ j. weight d i j))
        ∙ sumℕ_ext (layers_of G) (λ i hi. sumℕ-swap levels (stored_columns G) (λ d j. weight d i j) ∙ sumℕ_ext (stored_columns G) (λ j hj. in_levels i j hi hj))
        ∙ sum_codes r D ok g

  pub deep_length : (D : ℕ) → length (deep_codes r D) ≡ deep_count r D
  deep_length D = length-sum (deep_codes r D) ∙ deep_sums D (λ x. 1) ∙ sym (count_codes r D ok ∙ length-sum (codes r D))

  pub deep_times : (D c : ℕ) → times c (deep_codes r D) ≡ ifℕ (is_deep_code r D c) 1
  unfolding times
  deep_times D c = deep_sums D (λ x. ifℕ (eqb x c) 1) ∙ times-codes r D ok c

  -- ---- their order

  module _ (d : ℕ) where
    in_cell : (i j c : ℕ) → Memᴰ j (stored_columns G) → Memᴰ c (cell_at d i j) → (depth_of_code r c ≡ pos d) × (c ≡ suc i * 100 + j)
    unfolding depth_of_code
    in_cell i j c h m = (ap₂ (λ k l. drawdown N vs (place G k l)) layer column ∙ depth_is (place G i j) ∙ ap pos deep, q)
      where
        one : (equalℤ (drawdown N vs (place G i j)) (pos d) ≡ true) × (c ≡ suc i * 100 + j)
        one = in_one (equalℤ (drawdown N vs (place G i j)) (pos d)) (suc i * 100 + j) c m

        q : c ≡ suc i * 100 + j
        q = one.1

        deep : depth (place G i j) ≡ d
        deep = eqb-true (depth (place G i j)) d (sym (at_level d i j) ∙ one.0)

        layer : c / 100 - 1 ≡ i
        layer = omega (arith, q, (column_bounds h).1, (counted r 0 ok).columns_most)

        column : c % 100 ≡ j
        column = omega (arith, q, (column_bounds h).1, (counted r 0 ok).columns_most)

    in_row : (i c : ℕ) → Memᴰ c (row_at d i) → (depth_of_code r c ≡ pos d) × (suc i * 100 ≤ c) × (c < suc (suc i) * 100)
    in_row i c m =
        let w = flat_map_mem (cell_at d i) (stored_columns G) m in
        let k = in_cell i w.0 c w.1 w.2 in
        (k.0, omega (arith, k.1), omega (arith, k.1, (column_bounds w.1).1, (counted r 0 ok).columns_most))

    in_level : (c : ℕ) → Memᴰ c (codes_at G vs d) → depth_of_code r c ≡ pos d
    in_level c m = let w = flat_map_mem (row_at d) (layers_of G) m in (in_row w.0 c w.2).0

    -- within a level the codes rise
    tied : (a b : ℕ) → depth_of_code r a ≡ pos d → depth_of_code r b ≡ pos d → a ≤ b → may_precede r a b ≡ true
    tied a b p q h = may_precede_lem r a b d d p q (inr (refl, h))

    alone : (t : Bool) (c : ℕ) → in_order (may_precede r) (cond t (c ∷ []) []) ≡ true
    alone true c = order_one (may_precede r) c
    alone false c = order_none (may_precede r)

    row_order : (i : ℕ) → in_order (may_precede r) (row_at d i) ≡ true
    unfolding stored_columns
    row_order i = order_flat_map (may_precede r) ltb (cell_at d i) (stored_columns G) (order_range 1 (G.columns - 1))
        (λ j m. alone (equalℤ (drawdown N vs (place G i j)) (pos d)) (suc i * 100 + j))
        (λ j k a b mj mk h ma mb. let x = in_cell i j a mj ma in let y = in_cell i k b mk mb in tied a b x.0 y.0 (omega (arith, x.1, y.1, ltb-true j k h)))

    level_order : in_order (may_precede r) (codes_at G vs d) ≡ true
    unfolding layers_of
    level_order = order_flat_map (may_precede r) ltb (row_at d) (layers_of G) (order_range 0 G.layers)
        (λ i m. row_order i)
        (λ i k a b mi mk h ma mb. let x = in_row i a ma in let y = in_row k b mb in tied a b x.0 y.0 (omega (arith, x.2, y.1, ltb-true i k h)))

  pub deep_order : (D : ℕ) → in_order (may_precede r) (deep_codes r D) ≡ true
  unfolding deep_codes
  deep_order D = order_flat_map (may_precede r) (λ x y. ltb y x) (codes_at G vs) (falling D (drawdown_limit - D)) (order_falling D (drawdown_limit - D))
      (λ d m. level_order d)
      (λ d e a b md me h ma mb. may_precede_lem r a b d e (in_level d a ma) (in_level e b mb) (inl (ltb-true e d h)))

  -- ---- no other list

  pub only_arranged : (D : ℕ) (l : List ℕ) → Arranged r D l → l ≡ deep_codes r D
  only_arranged D l h = unique (may_precede r) never_both l (deep_codes r D) h.order (deep_order D) (λ c. h.once c ∙ sym (deep_times D c))

  pub only_list : (D : ℕ) (l : List ℕ) → in_order (may_precede r) l ≡ true → ((g : ℕ → ℕ) → sumℕ l g ≡ sumℕ (codes r D) g) → l ≡ deep_codes r D
  unfolding times
  only_list D l p e = only_arranged D l (record { once = λ c. e (λ x. ifℕ (eqb x c) 1) ∙ times-codes r D ok c; order = p })
