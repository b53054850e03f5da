-- What `step` has judged where it answers a number.
--     tests_8, tests_10, tests_11     the tests that it has gone by; tests_other: which numbers are left
--     refused_8, refused_11           so nothing is wanting that this crate's functions ask
use Rattle.std.proofs.Common.{◌≡◌, refl, Bool, true, false, not, ◌⊎◌, inl, inr, List, [], ◌∷◌, ℕ, ◌<◌, arith, ℤ}
use borrow.Author.Tests.{not-true, not-false}
use Rattle.laws.specs.Lists.{first}
use Rattle.network.specs.Network.{Network, losses_after, stable, unstable, rate_or_length_out, totals_pass, well_too_deep, table_too_deep, step_tests}
use Rattle.network.specs.Grid.{network_of}
use Rattle.record.specs.declared.Record.{Record}
use Rattle.record.specs.Record.{grid_of, state_of}
use Rattle.validity.specs.Validity.{valid}
use Rattle.step_rules.specs.Step.{step_refusal}
use Rattle.step_rules.specs.Ready.{Ready}
use Rattle.step_rules.proofs.Laws.{within_limits}
use Rattle.read_limiting.specs.Slots.{TooLongFor}

-- ---- a table of tests, by the number of the first that holds

-- a test with another number does not hold, and the number is that of a later one
past_test : (t : Bool) (m : ℕ) (ts : List (Bool × ℕ)) {n : ℕ} → first ((t, m) ∷ ts) ≡ n → (m ≡ n → ⊥) → (t ≡ false) × (first ts ≡ n)
unfolding first
past_test true m ts e f = absurd (f e)
past_test false m ts e f = (refl, e)

-- a test holds that has the number, where no later one has it
this_test : (t : Bool) (m : ℕ) (ts : List (Bool × ℕ)) → first ((t, m) ∷ ts) ≡ m → (first ts ≡ m → ⊥) → t ≡ true
unfolding first
this_test true m ts e f = refl
this_test false m ts e f = absurd (f e)

-- the tests of a step have no other numbers
at_other : (a b c d e f : Bool) → let n = first ((a, 14) ∷ (b, 7) ∷ (c, 8) ∷ (d, 9) ∷ (e, 10) ∷ (f, 11) ∷ []) in
    (n ≡ 14 → ⊥) → (n ≡ 8 → ⊥) → (n ≡ 10 → ⊥) → (n ≡ 11 → ⊥) → (n ≡ 0) ⊎ ((n ≡ 7) ⊎ (n ≡ 9))
unfolding first
at_other true b c d e f i j k l = absurd (i refl)
at_other false true c d e f i j k l = inr (inl refl)
at_other false false true d e f i j k l = absurd (j refl)
at_other false false false true e f i j k l = inr (inr refl)
at_other false false false false true f i j k l = absurd (k refl)
at_other false false false false false true i j k l = absurd (l refl)
at_other false false false false false false i j k l = inl refl

module _ (r : Record) (rate dt : ℕ) where
  abbrev N : Network
  N = network_of (grid_of r)

  abbrev after : List ℤ
  after = losses_after N (state_of r).losses rate dt

  -- the tests from 8, from 9 and from 11 on
  abbrev from_11 : List (Bool × ℕ)
  from_11 = (table_too_deep N after, 11) ∷ []

  abbrev from_9 : List (Bool × ℕ)
  from_9 = (totals_pass (state_of r) rate dt, 9) ∷ (well_too_deep N after, 10) ∷ from_11

  abbrev from_8 : List (Bool × ℕ)
  from_8 = (unstable N dt, 8) ∷ from_9

  none_left : {n : ℕ} → 0 < n → first [] ≡ n → ⊥
  unfolding first
  none_left h e = omega arith

  -- 14 and 7 have let the step pass
  passed_7 : {n : ℕ} → step_refusal r rate dt ≡ n → (14 ≡ n → ⊥) → (7 ≡ n → ⊥) → (valid r ≡ true) × (rate_or_length_out rate dt ≡ false) × (first from_8 ≡ n)
  unfolding step_refusal step_tests
  passed_7 q i j =
      let t = past_test (not (valid r)) 14 ((rate_or_length_out rate dt, 7) ∷ from_8) q i in
      let u = past_test (rate_or_length_out rate dt) 7 from_8 t.1 j in
      (not-false (valid r) t.0, u.0, u.1)

  -- so have 8 and 9
  passed_9 : {n : ℕ} → step_refusal r rate dt ≡ n → (14 ≡ n → ⊥) → (7 ≡ n → ⊥) → (8 ≡ n → ⊥) → (9 ≡ n → ⊥) → Ready r rate dt × (first ((well_too_deep N after, 10) ∷ from_11) ≡ n)
  unfolding unstable
  passed_9 q i j k l =
      let s = passed_7 q i j in
      let t = past_test (unstable N dt) 8 from_9 s.2 k in
      let u = past_test (totals_pass (state_of r) rate dt) 9 ((well_too_deep N after, 10) ∷ from_11) t.1 l in
      (record { passed = s.0; sized = s.1; steady = not-false (stable N dt) t.0 }, u.1)

  pub tests_8 : step_refusal r rate dt ≡ 8 → (valid r ≡ true) × (rate_or_length_out rate dt ≡ false) × (stable N dt ≡ false)
  unfolding unstable
  tests_8 q =
      let s = passed_7 q (λ e. omega arith) (λ e. omega arith) in
      (s.0, s.1, not-true (stable N dt) (this_test (unstable N dt) 8 from_9 s.2 later))
    where
      later : first from_9 ≡ 8 → ⊥
      later e =
          let t = past_test (totals_pass (state_of r) rate dt) 9 ((well_too_deep N after, 10) ∷ from_11) e (λ e. omega arith) in
          let u = past_test (well_too_deep N after) 10 from_11 t.1 (λ e. omega arith) in
          none_left (omega arith) (past_test (table_too_deep N after) 11 [] u.1 (λ e. omega arith)).1

  pub tests_10 : step_refusal r rate dt ≡ 10 → well_too_deep N after ≡ true
  tests_10 q =
      let s = passed_9 q (λ e. omega arith) (λ e. omega arith) (λ e. omega arith) (λ e. omega arith) in
      this_test (well_too_deep N after) 10 from_11 s.1 (λ e. none_left (omega arith) (past_test (table_too_deep N after) 11 [] e (λ e. omega arith)).1)

  pub tests_11 : step_refusal r rate dt ≡ 11 → Ready r rate dt × (table_too_deep N after ≡ true)
  tests_11 q =
      let s = passed_9 q (λ e. omega arith) (λ e. omega arith) (λ e. omega arith) (λ e. omega arith) in
      let t = past_test (well_too_deep N after) 10 from_11 s.1 (λ e. omega arith) in
      (s.0, this_test (table_too_deep N after) 11 [] t.1 (none_left (omega arith)))

  pub tests_other : let n = step_refusal r rate dt in (n ≡ 14 → ⊥) → (n ≡ 8 → ⊥) → (n ≡ 10 → ⊥) → (n ≡ 11 → ⊥) → (n ≡ 0) ⊎ ((n ≡ 7) ⊎ (n ≡ 9))
  unfolding step_refusal step_tests
  tests_other = at_other (not (valid r)) (rate_or_length_out rate dt) (unstable N dt) (totals_pass (state_of r) rate dt) (well_too_deep N after) (table_too_deep N after)

  -- what the functions of this crate ask

  pub refused_8 : step_refusal r rate dt ≡ 8 → TooLongFor r
  refused_8 q = let t = tests_8 q in record { passed = t.0; length = dt; limited = (within_limits rate dt t.1).1; unsteady = t.2 }

  pub refused_11 : step_refusal r rate dt ≡ 11 → Ready r rate dt
  refused_11 q = (tests_11 q).0
