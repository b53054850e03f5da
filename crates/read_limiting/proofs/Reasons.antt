-- The answer gives the true reason: what its number is, and what holds of the place that it names.
--     numbers                         an answer of a refusal is that of the number that `step` answers
--     of_length, of_intake, of_bottom what holds of the place; of_nothing: of the step where there is none
--     only                            no other answer with its number is so
use Rattle.std.proofs.Common.{Result, Ok, Err, ◌≡◌, refl, sym, ap, ◌∙◌, Bool, true, false, cond, not, true≢false, inl, inr, ⊎_elim, List, map, ℕ, suc, ◌*◌, ◌-◌, ◌^◌, ◌≤◌, ◌<◌, arith, eqb, leb, ℤ, pos, ◌≤ℤ◌, ◌<ℤ◌, eqb-true, ltb-true, le-ltb, ne_eqb}
use mathlib.Core.List.Memᴰ
use native.Mathlib.Nat.{lt-div-mul-add}
use lib.Signed.{lt_z, lt_z_yes, clash_ℤ}
use borrow.Author.Tests.{eqb-false, lt-leb}
use Rattle.laws.specs.All.{all_fails}
use Rattle.laws.specs.Integer.{not_past, ≤ℤ_trans}
use Rattle.laws.specs.Lists.{range}
use Rattle.laws.specs.Number.{below_or_not}
use Rattle.laws.specs.Sums.{none, range_mem}
use Rattle.limits.specs.Limits.{rate_limit, length_limit}
use Rattle.refusals.specs.declared.Refusal.{Refusal}
use Rattle.refusals.specs.Refusals as refusals
use Rattle.refusals.specs.Refusals.{outcome_of, refusal, refusal_number}
use Rattle.network.specs.Network.{Network, storage_at, drawdown, losses_after, conductance_sum, stable, unstable, length_out, rate_or_length_out, well_too_deep, table_too_deep}
use Rattle.network.specs.Grid.{Grid, place, place_count, stored_columns, one_per_place, network_of}
use Rattle.network.proofs.laws.Places.{by_place, get_or_one}
use Rattle.site.specs.Laws.{counts_hold_lem}
use Rattle.site.specs.Limited.{Counts}
use Rattle.record.specs.declared.Record.{Record}
use Rattle.record.specs.Record.{grid_of, state_of}
use Rattle.validity.specs.Validity.{valid}
use Rattle.validity.specs.Laws.{Valid, valid_record, valid_proper}
use Rattle.step_rules.specs.Step.{step_refusal, step_of}
use Rattle.step_rules.specs.Laws.{step_outcome}
use Rattle.step_rules.specs.Ready.{Ready}
use Rattle.step_rules.proofs.Laws as step
use Rattle.readings.specs.declared.Place.TheVariants.{Well, Cell}
use Rattle.readings.specs.Readings.{is_named, number_of}
use Rattle.readings.specs.Laws.{cell_bounds, cell_named, named_cell}
use Rattle.read_limiting.specs.declared.Limiting.{Limiting}
use Rattle.read_limiting.specs.Limiting.{sets_limit, longest_at, shorter_at, shortest_place, deeper_at, deepest_column, name_of, too_long_in, past_bottom_in, limiting_in, limiting_of}
use Rattle.read_limiting.specs.Reason.{number_in, depth_after, OfLength, OfBottom, OfNothing, Says, Agrees, Reason}
use Rattle.read_limiting.proofs.Answers.{number_from}
use Rattle.read_limiting.proofs.Foremost.{Foremost, foremost_is}
use Rattle.read_limiting.proofs.Judged.{tests_8, tests_10, tests_11, tests_other}
use Rattle.read_limiting.proofs.OneAnswer.{one_length, one_bottom}
use Rattle.read_limiting.proofs.Orders.{when_not_less, when_less, column_order, shorter_order}
use Rattle.read_limiting.proofs.ShortestPlace.{bears_within, steady_within}

module _ (r : Record) (rate dt : ℕ) where
  abbrev G : Grid
  G = grid_of r

  abbrev N : Network
  N = network_of G

  abbrev after : List ℤ
  after = losses_after N (state_of r).losses rate dt

  -- ---- the number

  -- an answer of a refusal is that of the number by which it is made
  number_of_lem : (m n : ℕ) → 0 < n → number_in (limiting_in G (state_of r).losses rate dt m) ≡ n → m ≡ n
  unfolding limiting_in too_long_in past_bottom_in number_in refusal_number
  number_of_lem m n h = by_tests (eqb m 14) (eqb m 8) (eqb m 10) (eqb m 11) (eqb-true m 14) (eqb-true m 8) (eqb-true m 10) (eqb-true m 11)
    where
      by_tests : (a b c d : Bool) → (a ≡ true → m ≡ 14) → (b ≡ true → m ≡ 8) → (c ≡ true → m ≡ 10) → (d ≡ true → m ≡ 11)
          → number_in (cond a (Err Refusal.Record) (Ok (cond b (too_long_in G) (cond c (Limiting.PastIntake Well) (cond d (past_bottom_in G after) Limiting.Nothing))))) ≡ n → m ≡ n
      by_tests true b c d i j k l e = i refl ∙ e
      by_tests false true c d i j k l e = j refl ∙ e
      by_tests false false true d i j k l e = k refl ∙ e
      by_tests false false false true i j k l e = l refl ∙ e
      by_tests false false false false i j k l e = absurd (omega (arith, e, h))

  -- and `step` answers it
  exactly : (n : ℕ) → 0 < n → n ≤ 14 → number_in (limiting_in G (state_of r).losses rate dt n) ≡ n → Agrees r rate dt n
  unfolding limiting_of
  exactly n h g e = (
    λ told. step_outcome r rate dt ∙ ap outcome_of (number_of_lem (step_refusal r rate dt) n h told),
    λ refused. ap (λ m. number_in (limiting_in G (state_of r).losses rate dt m)) (number_from (step_refusal r rate dt) n h g (sym (step_outcome r rate dt) ∙ refused)) ∙ e,
  )

  numbers : Agrees r rate dt 8 × Agrees r rate dt 10 × Agrees r rate dt 11 × Agrees r rate dt 14
  unfolding limiting_in too_long_in past_bottom_in number_in refusal_number
  numbers = (exactly 8 (omega arith) (omega arith) refl, exactly 10 (omega arith) (omega arith) refl, exactly 11 (omega arith) (omega arith) refl, exactly 14 (omega arith) (omega arith) refl)

  -- ---- names

  -- each number of a place has its name
  named : (p : ℕ) → p < place_count G → (is_named G (name_of G p) ≡ true) × (number_of G (name_of G p) ≡ p)
  unfolding name_of one_per_place is_named number_of
  named =
      by_place G (λ p. (is_named G (name_of G p) ≡ true) × (number_of G (name_of G p) ≡ p)) (refl, refl)
      (λ i j hi hj. rw (get_or_one G Well (λ i j. Cell (suc i) j) Well i j hi hj) (named_cell G i j hi hj))

  -- ---- 8

  module _ (q : step_refusal r rate dt ≡ 8) where
    ok : valid r ≡ true
    ok = (tests_8 r rate dt q).0

    v : Valid r
    v = valid_record r ok

    abbrev p : ℕ
    p = shortest_place N

    abbrev n : ℕ
    n = longest_at N p

    found : Foremost (shorter_at N) 0 (N.places - 1) p
    unfolding shortest_place
    found = foremost_is (shorter_order N) 0 (N.places - 1)

    below : p < N.places
    below = omega (arith, found.most, (valid_proper r v).well)

    -- no place allows less
    least : (o : ℕ) → o < N.places → shorter_at N o p ≡ false
    least o h = found.none o (omega arith) (omega arith)

    within : (o : ℕ) → o < N.places → sets_limit N o ≡ true → (sets_limit N p ≡ true) × (n ≤ longest_at N o)
    unfolding shorter_at
    within o h e = when_not_less (sets_limit N o) (sets_limit N p) (longest_at N o) (longest_at N p) (least o h) e

    -- so it sets a limit, and one below the length that 8 forbids
    limit : (t : Bool) → sets_limit N p ≡ t → sets_limit N p ≡ true
    limit true e = e
    limit false e = absurd (true≢false (sym (steady_within N dt (λ o h s. absurd (true≢false (sym (within o h s).0 ∙ e)))) ∙ (tests_8 r rate dt q).2))

    sum : 0 < conductance_sum N p
    unfolding sets_limit
    sum = ltb-true 0 (conductance_sum N p) (limit (sets_limit N p) refl)

    shorter : n < dt
    shorter = ⊎_elim (λ lt. lt) (λ le. absurd (true≢false (sym (steady_within N dt (λ o h s. omega (arith, le, (within o h s).1))) ∙ (tests_8 r rate dt q).2))) (below_or_not n dt)

    stands : stable N n ≡ true
    stands = steady_within N n (λ o h s. (within o h s).1)

    -- a place before it allows more, or any
    earlier : (o : ℕ) → o < p → leb (suc n * conductance_sum N o) (10 ^ 6 * storage_at N o) ≡ true
    unfolding shorter_at
    earlier o h = bears_within N o (suc n) (when_less (sets_limit N p) (sets_limit N o) (longest_at N p) (longest_at N o) (found.first o (omega arith) h))

    -- the length at that place, and one µs more
    bearing : leb (n * conductance_sum N p) (10 ^ 6 * storage_at N p) ≡ true
    bearing = bears_within N p n (λ e. omega arith)

    alone : leb (suc n * conductance_sum N p) (10 ^ 6 * storage_at N p) ≡ false
    unfolding longest_at
    alone = lt-leb (suc n * conductance_sum N p) (10 ^ 6 * storage_at N p) (omega (arith, lt-div-mul-add {a = 10 ^ 6 * storage_at N p} {b = conductance_sum N p} sum))

    falls : stable N (suc n) ≡ false
    unfolding stable
    falls = all_fails _ N.places p below alone

    sized : rate_or_length_out rate (suc n) ≡ false
    unfolding rate_or_length_out length_out
    sized = let t = step.within_limits rate dt (tests_8 r rate dt q).1 in rw (le-ltb rate_limit rate t.0, ne_eqb (suc n) 0 (omega arith), le-ltb length_limit (suc n) (omega (arith, t.1, shorter)))

    refused_more : (step_of r rate (suc n)).outcome ≡ outcome_of 8
    unfolding refusals.given refusal
    refused_more = sym (ap (λ x. x.outcome) (step.refused_8 r rate (suc n) ok sized falls))

    number : number_of G (name_of G p) ≡ p
    unfolding network_of
    number = (named p below).1

    of_length : OfLength r rate dt (name_of G p) n
    unfolding unstable network_of
    of_length = record {
      named = (named p below).0;
      passes = ap not stands;
      fails = ap not falls;
      allowed = λ e. absurd (true≢false (sym stands ∙ given_8 e));
      refused = refused_more;
      bearing = rw number bearing;
      alone = rw number alone;
      first = λ o e lt. earlier (number_of G o) (rw number at lt);
    }
      where
        given_8 : (step_of r rate n).outcome ≡ outcome_of 8 → stable N n ≡ false
        given_8 e = (tests_8 r rate n (number_from (step_refusal r rate n) 8 (omega arith) (omega arith) (sym (step_outcome r rate n) ∙ e))).2

  -- ---- 10

  passes : {a b : ℤ} → lt_z a b ≡ true → a <ℤ b
  passes e = lt_z_yes (rw e tt)

  of_intake : step_refusal r rate dt ≡ 10 → pos (1000 * N.intake) <ℤ depth_after r rate dt Well
  unfolding well_too_deep number_of
  of_intake q = passes (tests_10 r rate dt q)

  -- ---- 11

  module _ (q : step_refusal r rate dt ≡ 11) where
    ready : Ready r rate dt
    ready = (tests_11 r rate dt q).0

    counts : Counts r.site
    counts = counts_hold_lem r.site (valid_record r ready.passed).counts

    abbrev D : ℕ → ℤ
    D j = drawdown N after (place G 0 j)

    abbrev column : ℕ
    column = deepest_column G after

    best : Foremost (deeper_at G after) 1 (r.site.columns - 2) column
    unfolding deepest_column grid_of
    best = foremost_is (column_order G after) 1 (r.site.columns - 2)

    not-deeper : (j : ℕ) → 1 ≤ j → j < r.site.columns → D j ≤ℤ D column
    unfolding deeper_at
    not-deeper j l m = not_past (best.none j l (omega arith))

    table_within_lem : ((j : ℕ) → 1 ≤ j → j < r.site.columns → lt_z (pos (1000 * N.thickness)) (D j) ≡ false) → table_too_deep N after ≡ false
    unfolding table_too_deep network_of grid_of stored_columns
    table_within_lem h = none _ (map (place G 0) (range 1 (r.site.columns - 1))) (λ p m.
        let o = Memᴰ.of_map (place G 0) (range 1 (r.site.columns - 1)) m in
        let b = range_mem 1 (r.site.columns - 1) o.1 in
        ap (λ x. lt_z (pos (1000 * N.thickness)) (drawdown N after x)) (sym o.2) ∙ h o.0 b.0 (omega (arith, b.0, b.1)))

    -- where the deepest is within the bound, all are
    past : (t : Bool) → lt_z (pos (1000 * N.thickness)) (D column) ≡ t → lt_z (pos (1000 * N.thickness)) (D column) ≡ true
    past true e = e
    past false e = absurd (true≢false (sym (tests_11 r rate dt q).1 ∙ all_within e))
      where
        one_within : lt_z (pos (1000 * N.thickness)) (D column) ≡ false → (j : ℕ) → 1 ≤ j → j < r.site.columns → (t : Bool) → lt_z (pos (1000 * N.thickness)) (D j) ≡ t → lt_z (pos (1000 * N.thickness)) (D j) ≡ false
        one_within e j l m true g = clash_ℤ (passes g) (≤ℤ_trans (D j) (D column) (pos (1000 * N.thickness)) (not-deeper j l m) (not_past e))
        one_within e j l m false g = g

        all_within : lt_z (pos (1000 * N.thickness)) (D column) ≡ false → table_too_deep N after ≡ false
        all_within e = table_within_lem (λ j l m. one_within e j l m (lt_z (pos (1000 * N.thickness)) (D j)) refl)

    -- a column that is named is stored
    stored : (j : ℕ) → is_named G (Cell 1 j) ≡ true → (1 ≤ j) × (j < r.site.columns)
    unfolding grid_of
    stored j e = let b = cell_bounds G 1 j e in (b.2, b.3)

    in_columns : (1 ≤ column) × (column < r.site.columns)
    in_columns = (best.least, omega (arith, best.most, counts.columns_least))

    of_bottom : OfBottom r rate dt (Cell 1 column)
    unfolding number_of deeper_at grid_of
    of_bottom = record {
      named = cell_named G 1 column (omega arith) (omega (arith, counts.layers_least)) in_columns.0 in_columns.1;
      column = column;
      cell = refl;
      past = passes (past (lt_z (pos (1000 * N.thickness)) (D column)) refl);
      deepest = λ j e. not-deeper j (stored j e).0 (stored j e).1;
      first = λ j e lt. passes (best.first j (stored j e).0 lt);
    }

  -- ---- the answer

  of_nothing : (step_refusal r rate dt ≡ 14 → ⊥) → (step_refusal r rate dt ≡ 8 → ⊥) → (step_refusal r rate dt ≡ 10 → ⊥) → (step_refusal r rate dt ≡ 11 → ⊥) → OfNothing r rate dt
  of_nothing i j k l = ⊎_elim (λ e. inl (answers e)) (λ o. inr (⊎_elim (λ e. inl (answers e)) (λ e. inr (answers e)) o)) (tests_other r rate dt i j k l)
    where
      answers : {n : ℕ} → step_refusal r rate dt ≡ n → (step_of r rate dt).outcome ≡ outcome_of n
      answers e = step_outcome r rate dt ∙ ap outcome_of e

  says : Says r rate dt (limiting_of r rate dt)
  unfolding limiting_of limiting_in too_long_in past_bottom_in Says
  says = by_tests (eqb m 14) (eqb m 8) (eqb m 10) (eqb m 11) refl refl refl refl
    where
      m : ℕ
      m = step_refusal r rate dt

      by_tests : (a b c d : Bool) → eqb m 14 ≡ a → eqb m 8 ≡ b → eqb m 10 ≡ c → eqb m 11 ≡ d
          → Says r rate dt (cond a (Err Refusal.Record) (Ok (cond b (too_long_in G) (cond c (Limiting.PastIntake Well) (cond d (past_bottom_in G after) Limiting.Nothing)))))
      by_tests true b c d i j k l = refl
      by_tests false true c d i j k l = of_length (eqb-true m 8 j)
      by_tests false false true d i j k l = (refl, of_intake (eqb-true m 10 k))
      by_tests false false false true i j k l = of_bottom (eqb-true m 11 l)
      by_tests false false false false i j k l = of_nothing (eqb-false m 14 i) (eqb-false m 8 j) (eqb-false m 10 k) (eqb-false m 11 l)

  -- ---- no other answer

  -- the answer by a number that `step` gives
  by_number : {n : ℕ} → step_refusal r rate dt ≡ n → limiting_in G (state_of r).losses rate dt n ≡ limiting_of r rate dt
  unfolding limiting_of
  by_number e = ap (limiting_in G (state_of r).losses rate dt) (sym e)

  -- it is of the refusal of a number above 0 where `step` gives that number, and nothing else is of none
  given : (n : ℕ) → 0 < n → n ≡ number_in (limiting_of r rate dt) → step_refusal r rate dt ≡ n
  unfolding limiting_of
  given n h e = number_of_lem (step_refusal r rate dt) n h (sym e)

  none_given : 0 ≡ number_in (limiting_of r rate dt) → Ok Limiting.Nothing ≡ limiting_of r rate dt
  unfolding limiting_of limiting_in too_long_in past_bottom_in number_in refusal_number
  none_given = by_tests (eqb m 14) (eqb m 8) (eqb m 10) (eqb m 11)
    where
      m : ℕ
      m = step_refusal r rate dt

      by_tests : (a b c d : Bool) → let x = cond a (Err Refusal.Record) (Ok (cond b (too_long_in G) (cond c (Limiting.PastIntake Well) (cond d (past_bottom_in G after) Limiting.Nothing)))) in
          0 ≡ number_in x → Ok Limiting.Nothing ≡ x
      by_tests true b c d e = absurd (omega (arith, e))
      by_tests false true c d e = absurd (omega (arith, e))
      by_tests false false true d e = absurd (omega (arith, e))
      by_tests false false false true e = absurd (omega (arith, e))
      by_tests false false false false e = refl

  only : (a : Result Limiting Refusal) → number_in a ≡ number_in (limiting_of r rate dt) → Says r rate dt a → a ≡ limiting_of r rate dt
  unfolding limiting_in too_long_in past_bottom_in number_in refusal_number Says
  only (Ok (Limiting.TooLong p n)) e s = let q = given 8 (omega arith) e in ap Ok (one_length r rate dt s (of_length q)) ∙ by_number q
  only (Ok (Limiting.PastIntake p)) e s = let well : p ≡ Well = s.0 in ap (λ p. Ok (Limiting.PastIntake p)) well ∙ by_number (given 10 (omega arith) e)
  only (Ok (Limiting.PastBottom p)) e s = let q = given 11 (omega arith) e in ap (λ p. Ok (Limiting.PastBottom p)) (one_bottom r rate dt s (of_bottom q)) ∙ by_number q
  only (Ok Limiting.Nothing) e s = none_given e
  only (Err k) e s = let record_is : k ≡ Refusal.Record = s in ap Err record_is ∙ by_number (given 14 (omega arith) (sym (ap refusal_number record_is) ∙ e))

  pub reason : Reason r rate dt
  reason = record { numbers = numbers; says = says; only = only }
