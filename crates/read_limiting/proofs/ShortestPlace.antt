-- The place with the shortest allowed step, by slots and by places.
--     word-given, none_given      the longest step in a word, by the quotient
--     well_word, cell_word        the longest step in a word, by slot, is that of the place
--     well_answer                 where the well's is at most each cell's, the well is the place
--     cell_answer                 where the first of the least cells' is below the well's, that cell is
use Rattle.std.proofs.Common.{◌≡◌, refl, sym, ap, ap₂, ◌∙◌, Bool, true, false, cond, true≢false, ⊎_elim, ℕ, suc, ◌+◌, ◌*◌, ◌-◌, ◌/◌, ◌%◌, ◌^◌, ◌≤◌, ◌<◌, le-div_iff_mul-le, mul-le-mul_right, arith, eqb, leb, ltb, get_or, ltb-true, ltb-false, lt-ltb, le-leb, eq-eqb, ne_eqb, Some, None, unwrap_or}
use native.Mathlib.Decide.{ℕ_discrete}
use borrow.Author.Tests.{lt-leb}
use Rattle.laws.specs.Number.{below_or_not}
use Rattle.laws.specs.Rows.{all_from}
use Rattle.words.specs.Fitted.{fitted}
use Rattle.network.specs.Network.{Network, storage_at, conductance_sum, stable}
use Rattle.network.specs.Grid.{Grid, place, place_count, one_per_place, network_of}
use Rattle.network.proofs.laws.Places.{by_place, place-below, place_cell, get_or_one}
use Rattle.site.specs.Laws.{counts_hold_lem}
use Rattle.site.specs.Limited.{Counts}
use Rattle.record.specs.declared.Record.{Record}
use Rattle.record.specs.Record.{grid_of}
use Rattle.validity.specs.Laws.{Valid, valid_record}
use Rattle.step_stability.specs.Stability.{well_sum, cell_sum}
use Rattle.step_stability.specs.Laws.{cell_c, cell_s, well_c}
use Rattle.slot_places.specs.Slots.{slot_at}
use Rattle.readings.specs.declared.Place.TheVariants.{Well, Cell}
use Rattle.read_limiting.specs.declared.Limiting.{Limiting}
use Rattle.read_limiting.specs.Limiting.{foremost, sets_limit, longest_at, shorter_at, shortest_place, name_of, too_long_in}
use Rattle.read_limiting.specs.Slots.{slot_place, no_limit, in_word, longest_word, cell_longest, slot_longest, less_at, TooLongFor}
use Rattle.read_limiting.proofs.Foremost.{Foremost, one_foremost, foremost_is}
use Rattle.read_limiting.proofs.Orders.{not_less, is_less, less_order, shorter_order}

-- ---- numbers in a word

in_word_most : (n : ℕ) → in_word n ≤ n
unfolding in_word no_limit
in_word_most n = by_test (ltb n (2 ^ 64)) refl
  where
    by_test : (t : Bool) → ltb n (2 ^ 64) ≡ t → cond t n (2 ^ 64 - 1) ≤ n
    by_test true e = omega arith
    by_test false e = omega (arith, ltb-false n (2 ^ 64) e)

in_word_is : (n : ℕ) → in_word n < no_limit → in_word n ≡ n
unfolding in_word no_limit
in_word_is n = by_test (ltb n (2 ^ 64))
  where
    by_test : (t : Bool) → cond t n (2 ^ 64 - 1) < 2 ^ 64 - 1 → cond t n (2 ^ 64 - 1) ≡ n
    by_test true h = refl
    by_test false h = absurd (omega arith)

in_word_fits : (n : ℕ) → in_word n ≤ no_limit
unfolding in_word no_limit
in_word_fits n = by_test (ltb n (2 ^ 64)) refl
  where
    by_test : (t : Bool) → ltb n (2 ^ 64) ≡ t → cond t n (2 ^ 64 - 1) ≤ 2 ^ 64 - 1
    by_test true e = omega (arith, ltb-true n (2 ^ 64) e)
    by_test false e = omega arith

-- ---- the longest step in a word, from the sum of C and from S

module _ (c s : ℕ) where
  word_most : 0 < c → longest_word c s ≤ 10 ^ 6 * s / c
  unfolding longest_word
  word_most h = rw (ne_eqb c 0 (λ z. absurd (omega arith))) (in_word_most (10 ^ 6 * s / c))

  word_is : longest_word c s < no_limit → (0 < c) × (longest_word c s ≡ 10 ^ 6 * s / c)
  unfolding longest_word
  word_is = by_test (eqb c 0) refl
    where
      by_test : (t : Bool) → eqb c 0 ≡ t → cond t no_limit (in_word (10 ^ 6 * s / c)) < no_limit → (0 < c) × (cond t no_limit (in_word (10 ^ 6 * s / c)) ≡ 10 ^ 6 * s / c)
      by_test true e h = absurd (omega arith)
      by_test false e h = (elim (ℕ_discrete c 0) [ yes z ↦ absurd (true≢false (sym (eq-eqb c 0 z) ∙ e)) | no f ↦ omega arith ], in_word_is (10 ^ 6 * s / c) h)

  word_fits : longest_word c s ≤ no_limit
  unfolding longest_word
  word_fits = by_test (eqb c 0)
    where
      by_test : (t : Bool) → cond t no_limit (in_word (10 ^ 6 * s / c)) ≤ no_limit
      by_test true = omega arith
      by_test false = in_word_fits (10 ^ 6 * s / c)

  -- from the quotient that `words` gives
  by_fit : (t : Bool) → unwrap_or (cond t (Some (10 ^ 6 * s / c)) None) no_limit ≡ cond t (10 ^ 6 * s / c) no_limit
  by_fit true = refl
  by_fit false = refl

  pub word-given : (c ≡ 0 → ⊥) → unwrap_or (fitted (10 ^ 6 * s / c)) no_limit ≡ longest_word c s
  unfolding longest_word in_word fitted
  word-given f = rw (ne_eqb c 0 f) (by_fit (ltb (10 ^ 6 * s / c) (2 ^ 64)))

  pub none_given : c ≡ 0 → no_limit ≡ longest_word c s
  unfolding longest_word
  none_given e = rw (eq-eqb c 0 e)

-- ---- of two places the one with the shorter step

module _ (N : Network) where
  abbrev pub word : ℕ → ℕ
  word p = longest_word (conductance_sum N p) (storage_at N p)

  limited : (p : ℕ) → word p < no_limit → (sets_limit N p ≡ true) × (word p ≡ longest_at N p)
  unfolding sets_limit longest_at
  limited p h = let e = word_is (conductance_sum N p) (storage_at N p) h in (lt-ltb 0 (conductance_sum N p) e.0, e.1)

  longer : (p : ℕ) → sets_limit N p ≡ true → word p ≤ longest_at N p
  unfolding sets_limit longest_at
  longer p e = word_most (conductance_sum N p) (storage_at N p) (ltb-true 0 (conductance_sum N p) e)

  not_shorter : (p q : ℕ) → word p < no_limit → word p ≤ word q → shorter_at N q p ≡ false
  unfolding shorter_at
  not_shorter p q h k = not_less (sets_limit N q) (sets_limit N p) (longest_at N q) (longest_at N p) (limited p h).0 (λ e. omega (arith, (limited p h).1, k, longer q e))

  is_shorter : (p q : ℕ) → word p < word q → shorter_at N p q ≡ true
  unfolding shorter_at
  is_shorter p q h =
      let k : word p < no_limit = omega (arith, word_fits (conductance_sum N q) (storage_at N q)) in
      is_less (sets_limit N p) (sets_limit N q) (longest_at N p) (longest_at N q) (limited p k).0 (λ e. omega (arith, (limited p k).1, h, longer q e))

  -- a place bears a step that is within its longest, where it sets a limit
  pub bears_within : (p n : ℕ) → (sets_limit N p ≡ true → n ≤ longest_at N p) → leb (n * conductance_sum N p) (10 ^ 6 * storage_at N p) ≡ true
  unfolding sets_limit longest_at
  bears_within p n h = le-leb (n * conductance_sum N p) (10 ^ 6 * storage_at N p) (elim (ℕ_discrete (conductance_sum N p) 0) [
    | yes z ↦ rw z (omega arith)
    | no f ↦ let c : 0 < conductance_sum N p = omega arith in (le-div_iff_mul-le c).0 (h (lt-ltb 0 (conductance_sum N p) c))
  ])

  -- 8 lets a step pass that is within each place's longest
  pub steady_within : (n : ℕ) → ((p : ℕ) → p < N.places → sets_limit N p ≡ true → n ≤ longest_at N p) → stable N n ≡ true
  unfolding stable
  steady_within n h = all_from _ N.places (λ p below. bears_within p n (h p below))

-- a cell that comes before another in the numbering of places has a lower slot
earlier : (G : Grid) (i j i₀ j₀ : ℕ) → G.columns ≤ 50 → suc j < G.columns → suc j₀ < G.columns → place G i (suc j) < place G i₀ (suc j₀) → 50 * i + j < 50 * i₀ + j₀
earlier G i j i₀ j₀ few hj hj₀ h = ⊎_elim (λ lt. lt) (λ le. absurd (elim (ℕ_discrete i i₀) [
  | yes e ↦ omega (arith, numbers, rw e at numbers, le, e)
  | no f ↦ let above : suc i₀ ≤ i = omega arith in omega (arith, numbers, mul-le-mul_right (G.columns - 1) above)
])) (below_or_not (50 * i + j) (50 * i₀ + j₀))
  where
    numbers : 1 + i * (G.columns - 1) + j < 1 + i₀ * (G.columns - 1) + j₀
    numbers = rw (place_cell G i j hj, place_cell G i₀ j₀ hj₀) at h

-- ---- the record's slots
module _ (r : Record) (h : TooLongFor r) where
  abbrev G : Grid
  G = grid_of r

  abbrev N : Network
  N = network_of G

  v : Valid r
  v = valid_record r h.passed

  counts : Counts r.site
  counts = counts_hold_lem r.site v.counts

  abbrev f : ℕ → ℕ
  f = slot_longest r

  pub well_word : longest_word (well_sum r.site.layers r.screen) r.well_storage ≡ word N 0
  unfolding storage_at network_of grid_of one_per_place
  well_word = ap (λ c. longest_word c r.well_storage) (sym (well_c r v.counts v.coefficients_unused))

  cell_word : (i j : ℕ) → i < r.site.layers → suc j < r.site.columns → f (50 * i + j) ≡ word N (place G i (suc j))
  unfolding cell_longest
  cell_word i j hi hj =
      rw (column, lt-leb r.site.columns (j + 1) (omega arith))
      (sym (ap₂ longest_word (cell_c r v.counts v.coefficients_unused i j hi hj ∙ ap (cell_sum r.screen r.horizontal r.vertical) (slot_at i j))
      (cell_s r v.counts v.coefficients_unused i j hi hj ∙ ap (λ n. get_or r.storages n 0) (slot_at i j))))
    where
      column : (50 * i + j) % 50 ≡ j
      column = omega (arith, counts.columns_most)

  past_word : (k : ℕ) → r.site.columns ≤ k % 50 + 1 → f k ≡ no_limit
  unfolding cell_longest
  past_word k past = rw (le-leb r.site.columns (k % 50 + 1) past)

  -- the first of the cells' slots with the least
  abbrev last : ℕ
  last = r.site.layers * 50 - 1

  abbrev best : ℕ
  best = foremost (less_at f) 0 last

  found : Foremost (less_at f) 0 last best
  found = foremost_is (less_order f) 0 last

  best-below : best < 50 * r.site.layers
  best-below = omega (arith, found.most, counts.layers_least)

  -- no slot of a cell has less
  best_least : (k : ℕ) → k < 50 * r.site.layers → f best ≤ f k
  unfolding less_at
  best_least k below = ltb-false (f k) (f best) (found.none k (omega arith) (omega arith))

  -- and each before it has more
  best-first : (k : ℕ) → k < best → f best < f k
  unfolding less_at
  best-first k below = ltb-true (f best) (f k) (found.first k (omega arith) below)

  cell_least : (i j : ℕ) → i < r.site.layers → suc j < r.site.columns → f best ≤ word N (place G i (suc j))
  cell_least i j hi hj = rw (cell_word i j hi hj) at (best_least (50 * i + j) (omega (arith, counts.columns_most)))

  -- what no place has less than is below no limit, since 8 forbids a step
  some_limit : (w : ℕ) → ((p : ℕ) → p < N.places → w ≤ word N p) → w < no_limit
  unfolding no_limit
  some_limit w least = ⊎_elim (λ lt. lt) (λ le. absurd (true≢false (sym (steady_within N h.length (λ p below e. omega (arith, h.limited, le, least p below, longer N p e))) ∙ h.unsteady))) (below_or_not w no_limit)

  -- the place that none comes before, by its word
  module _ (p : ℕ) (below : p < N.places) (least : (q : ℕ) → q < N.places → word N p ≤ word N q) (first : (q : ℕ) → q < p → word N p < word N q) where
    short : word N p < no_limit
    short = some_limit (word N p) least

    shortest_is : p ≡ shortest_place N
    unfolding shortest_place
    shortest_is = one_foremost (record {
      least = omega arith;
      most = omega arith;
      none = λ q l m. not_shorter N p q short (least q (omega arith));
      first = λ q l lt. is_shorter N p q (first q lt);
    }) (foremost_is (shorter_order N) 0 (N.places - 1))

    named_shortest : Limiting.TooLong (name_of G p) (word N p) ≡ too_long_in G
    unfolding too_long_in
    named_shortest = ap₂ Limiting.TooLong (ap (name_of G) shortest_is) ((limited N p short).1 ∙ ap (longest_at N) shortest_is)

  -- ---- the well

  well_least : word N 0 ≤ f best → (q : ℕ) → q < place_count G → word N 0 ≤ word N q
  unfolding grid_of
  well_least le = by_place G (λ q. word N 0 ≤ word N q) (omega arith) (λ i j hi hj. omega (arith, le, cell_least i j hi hj))

  well_shortest : word N 0 ≤ f best → Limiting.TooLong Well (word N 0) ≡ too_long_in G
  unfolding network_of place_count name_of one_per_place
  well_shortest le = named_shortest 0 (omega arith) (well_least le) (λ q lt. absurd (omega arith))

  -- ---- the cell
  module _ (lt : f best < word N 0) where
    -- a slot with a limit is a cell's
    in_column : suc (best % 50) < r.site.columns
    in_column = ⊎_elim (λ lt. lt) (λ past. absurd (omega (arith, lt, past_word best (omega arith), word_fits (conductance_sum N 0) (storage_at N 0)))) (below_or_not (suc (best % 50)) r.site.columns)

    in_layer : best / 50 < r.site.layers
    in_layer = omega (arith, best-below)

    abbrev p : ℕ
    p = place G (best / 50) (suc (best % 50))

    best-word : f best ≡ word N p
    best-word = let whole : best ≡ 50 * (best / 50) + best % 50 = omega arith in ap f whole ∙ cell_word (best / 50) (best % 50) in_layer in_column

    all_least : (q : ℕ) → q < place_count G → word N p ≤ word N q
    unfolding grid_of
    all_least = by_place G (λ q. word N p ≤ word N q) (omega (arith, lt, best-word)) (λ i j hi hj. omega (arith, cell_least i j hi hj, best-word))

    all_first : (q : ℕ) → q < place_count G → q < p → word N p < word N q
    unfolding grid_of
    all_first = by_place G (λ q. q < p → word N p < word N q) (λ below. omega (arith, lt, best-word))
        (λ i j hi hj below. omega (arith, best-word, cell_word i j hi hj, best-first (50 * i + j) (before i j hj below)))
      where
        before : (i j : ℕ) → suc j < r.site.columns → place G i (suc j) < p → 50 * i + j < best
        before i j hj below = omega (arith, earlier G i j (best / 50) (best % 50) counts.columns_most hj in_column below)

    name : name_of G p ≡ slot_place best
    unfolding name_of slot_place grid_of
    name = get_or_one G Well (λ i j. Cell (suc i) j) Well (best / 50) (best % 50) in_layer in_column
        ∙ ap₂ Cell (omega arith) (omega arith)

    cell_shortest : Limiting.TooLong (slot_place best) (f best) ≡ too_long_in G
    unfolding network_of grid_of
    cell_shortest = ap₂ Limiting.TooLong (sym name) best-word
        ∙ named_shortest p (place-below G (best / 50) (best % 50) in_layer in_column) all_least (λ q below. all_first q (omega (arith, below, place-below G (best / 50) (best % 50) in_layer in_column)) below)

  -- ---- the answer, from what the functions of this crate give
  module _ {well slot cell : ℕ} (w : well ≡ word N 0) (s : slot ≡ best) (l : cell ≡ f slot) where
    found_is : cell ≡ f best
    found_is = l ∙ ap f s

    pub well_answer : well ≤ cell → Limiting.TooLong Well well ≡ too_long_in G
    well_answer le = ap (Limiting.TooLong Well) w ∙ well_shortest (omega (arith, le, w, found_is))

    pub cell_answer : cell < well → Limiting.TooLong (slot_place slot) cell ≡ too_long_in G
    cell_answer lt = ap₂ Limiting.TooLong (ap slot_place s) found_is ∙ cell_shortest (omega (arith, lt, w, found_is))
