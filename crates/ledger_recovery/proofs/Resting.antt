-- Calls at rest on a record that 14 does not refuse: laws only, nothing to believe.
--     turned                  of two equal sums: what the first summands differ by is minus what the second ones do
--     reads                   what is read of such a record
--     lost_is                 the losses of its well and cells, and its inflow, are together its pumped total
--     no_intake               10 refuses no step at rate 0 on it
--     rest_each, rest_all     what each call of a list leaves, and what all of them do
use Rattle.std.proofs.Common.{◌≡◌, ℕ, zero, suc, ◌+◌, ◌*◌, ◌<◌, Bool, true, false, not, ltb, List, [], ◌∷◌, ℤ, pos, ◌+ℤ◌, ◌-ℤ◌, neg_ℤ, nat_abs, ◌≤ℤ◌, Ok, sym, refl, ap, ◌∙◌, subst, add-zero, zero-mul, arith, lt-ltb, eqb-true}
use mathlib.Core.List.{Memᴰ}
use lib.IntN.{+ℤ_idl, neg_ℤ-+ℤ, neg_ℤ-neg_ℤ, +ℤ-neg_ℤ_cancel}
use lib.Signed.{lt_z, ≤ℤ_refl, lt_z_yes, clash_ℤ}
use Rattle.refusals.specs.Refusals.{refusal, given, outcome_of}
use Rattle.refusals.specs.Laws.{same_number}
use borrow.Author.Tests.{not-false}
use Rattle.laws.specs.All.{and_left, and_right}
use Rattle.laws.specs.Integer.{regroup, natural, pos_≤ℤ, ≤ℤ_trans, ≤ℤ_antisym, larger_bounds}
use Rattle.laws.specs.Lists.{larger, first, every, ifℤ, sumℤ, range}
use Rattle.laws.specs.Sums.{sumℤ_ext, range_mem}
use Rattle.network.specs.Network.{Network, State, is_place, loss_at, drawdown, loss_in, losses_after, moved, rate_or_length_out, stable, unstable, totals_pass, well_too_deep, table_too_deep, step_tests}
use Rattle.network.specs.Grid.{network_of}
use Rattle.network.specs.Kept.{Proper}
use Rattle.network.proofs.laws.Bounds.{depth_natural, inflow_rises, depths_after}
use Rattle.network.proofs.laws.Preserve.{accepted}
use Rattle.record.specs.declared.Record.{Record}
use Rattle.record.specs.Record.{grid_of, state_of, answer_of}
use Rattle.record.specs.Laws.{refusal_of}
use Rattle.validity.specs.Validity.{valid}
use Rattle.validity.specs.Laws.{Valid, valid_record, valid_proper}
use Rattle.step_rules.specs.Step.{with_state, step_refusal, step_of}
use Rattle.step_rules.specs.Laws.{step_outcome, same_grid, taken, state_is, step_valid}
use Rattle.readings.specs.declared.Place.{Place}
use Rattle.readings.specs.Readings.{number_of, totals_in, drawdown_of, budget_of}
use Rattle.readings.specs.Laws.{named-place, read_depth}
use Rattle.ledger.specs.Calls.{Call, step, read, left, left_by_all}
use Rattle.ledger_recovery.specs.Recovery.{is_at_rest, largest, Reads, Between, Each, nothing, further, lost}
use Rattle.ledger_recovery.proofs.Largest.{largest_above, largest_least, largest-named}

-- ---- sums

pub turned : (a b i j : ℤ) → a +ℤ i ≡ b +ℤ j → b -ℤ a ≡ neg_ℤ (j -ℤ i)
turned a b i j e =
    ap (λ x. x -ℤ a) (sym (+ℤ-neg_ℤ_cancel b j) ∙ ap (λ x. x -ℤ j) (sym e) ∙ regrouped)
    ∙ +ℤ-neg_ℤ_cancel (neg_ℤ j +ℤ i) a
    ∙ sym (neg_ℤ-+ℤ j (neg_ℤ i) ∙ ap (λ x. neg_ℤ j +ℤ x) (neg_ℤ-neg_ℤ i))
  where
    regrouped : (a +ℤ i) +ℤ neg_ℤ j ≡ (neg_ℤ j +ℤ i) +ℤ a
    regrouped = simp regroup

more : {a x : ℤ} → pos 0 ≤ℤ a → pos 0 ≤ℤ x → a ≤ℤ (a +ℤ x)
more h k = rw (natural h, natural k) (pos_≤ℤ (omega arith))

-- the losses of n places, the well's apart
well_apart : (n : ℕ) → 0 < n → (f : ℕ → ℤ) → sumℤ (range 0 n) (λ p. ifℤ (ltb p n) (f p)) ≡ f 0 +ℤ sumℤ (range 0 n) (λ p. ifℤ (ltb 0 p) (f p))
unfolding range sumℤ ifℤ
well_apart zero h f = absurd (omega arith)
well_apart (suc n) h f = rw (lt-ltb 0 (suc n) (omega arith)) (ap (λ x. f 0 +ℤ x) (sumℤ_ext (range 1 n) same ∙ sym (+ℤ_idl _)))
  where
    same : (p : ℕ) → Memᴰ p (range 1 n) → ifℤ (ltb p (suc n)) (f p) ≡ ifℤ (ltb 0 p) (f p)
    same p m = let b = range_mem 1 n m in rw (lt-ltb p (suc n) (omega (arith, b.1)), lt-ltb 0 p (omega (arith, b.0)))

-- ---- a record that 14 does not refuse

abbrev pub N : Record → Network
N r = network_of (grid_of r)

-- D of a place
abbrev pub D : Record → ℕ → ℤ
D r p = drawdown (N r) (state_of r).losses p

module _ (r : Record) (ok : valid r ≡ true) where
  known : Valid r
  known = valid_record r ok

  proper : Proper (N r)
  proper = valid_proper r known

  -- what is read of it
  pub read_deepest : (p : Place) × (drawdown_of r p ≡ Ok (largest r))
  unfolding largest given
  read_deepest = let d = largest-named (grid_of r) (state_of r).losses in (d.0, read_depth r ok d.0 d.1 ∙ ap Ok d.2)

  pub below-largest : (p : ℕ) → p < (N r).places → D r p ≤ℤ largest r
  unfolding largest network_of
  below-largest = largest_above (grid_of r) (state_of r).losses

  pub read_budget : budget_of r ≡ Ok (totals_in (N r) (state_of r) r.mark)
  unfolding budget_of first given
  read_budget = rw ok

  unfoldable pub reads : Reads r
  unfolding given
  reads = record {
    totals = totals_in (N r) (state_of r) r.mark;
    budget = read_budget;
    depth = λ p e. (D r (number_of (grid_of r) p), read_depth r ok p e, below-largest (number_of (grid_of r) p) (named-place (grid_of r) p e));
    deepest = read_deepest;
  }

  -- the losses of all places, the well's apart
  all-lost : loss_in (N r) (is_place (N r)) (state_of r).losses ≡ loss_at (state_of r).losses 0 +ℤ loss_in (N r) (λ p. ltb 0 p) (state_of r).losses
  unfolding loss_in is_place
  all-lost = well_apart (N r).places proper.well (loss_at (state_of r).losses)

  pub lost_is : lost (totals_in (N r) (state_of r) r.mark) +ℤ (state_of r).inflow ≡ pos (state_of r).pumped
  unfolding totals_in
  lost_is = ap (λ x. x +ℤ (state_of r).inflow) (sym all-lost) ∙ known.kept.budget

  -- the maximum principle: what no D is above before a step at rest that 8 lets pass, no D is above after it
  after-below : (rate dt : ℕ) → rate ≡ 0 → stable (N r) dt ≡ true → (M : ℤ) → ((p : ℕ) → p < (N r).places → D r p ≤ℤ M)
      → (p : ℕ) → p < (N r).places → drawdown (N r) (losses_after (N r) (state_of r).losses rate dt) p ≤ℤ M
  after-below rate dt stopped steady M within p h =
      subst (λ m. drawdown (N r) (losses_after (N r) (state_of r).losses rate dt) p ≤ℤ m) (sym size)
      (depths_after (N r) proper (state_of r) known.kept dt steady rate (nat_abs M) (λ q k. subst (λ m. D r q ≤ℤ m) size (within q k)) p h (λ z. stopped))
    where
      size : M ≡ pos (nat_abs M)
      size = natural (≤ℤ_trans _ _ _ (depth_natural (N r) proper (state_of r) known.kept 0) (within 0 proper.well))

  -- D of the well after a step
  abbrev well_after : ℕ → ℕ → ℤ
  well_after rate dt = drawdown (N r) (losses_after (N r) (state_of r).losses rate dt) 0

  -- at M = the mark: at rest it is not above the mark, and so not above 1000×p
  under_mark : (rate dt : ℕ) → rate ≡ 0 → stable (N r) dt ≡ true → well_after rate dt ≤ℤ r.mark
  under_mark rate dt stopped steady = after-below rate dt stopped steady r.mark known.marked.depths 0 proper.well

  not_10 : (rate dt : ℕ) → rate ≡ 0 → step_refusal r rate dt ≡ 10 → ⊥
  unfolding step_refusal step_tests first unstable well_too_deep
  not_10 rate dt stopped = by_tests (not (valid r)) (rate_or_length_out rate dt) (stable (N r) dt) (totals_pass (state_of r) rate dt) (lt_z (pos (1000 * (N r).intake)) (well_after rate dt))
      (table_too_deep (N r) (losses_after (N r) (state_of r).losses rate dt))
      (λ steady t. clash_ℤ (lt_z_yes (rw t tt)) (≤ℤ_trans _ _ _ (under_mark rate dt stopped steady) known.marked.intake))
    where
      by_tests : (a b c d e f : Bool) → (c ≡ true → e ≡ true → ⊥) → first ((a, 14) ∷ (b, 7) ∷ (not c, 8) ∷ (d, 9) ∷ (e, 10) ∷ (f, 11) ∷ []) ≡ 10 → ⊥
      by_tests true b c d e f h n = omega arith
      by_tests false true c d e f h n = omega arith
      by_tests false false false d e f h n = omega arith
      by_tests false false true true e f h n = omega arith
      by_tests false false true false true f h n = h refl refl
      by_tests false false true false false true h n = omega arith
      by_tests false false true false false false h n = omega arith

  pub no_intake : (dt : ℕ) → (step_of r 0 dt).outcome ≡ outcome_of 10 → ⊥
  unfolding given
  no_intake dt e =
      let number = refusal_of (step_refusal r 0 dt) (refusal 10) (sym (step_outcome r 0 dt) ∙ e) in
      not_10 0 dt refl (same_number (step_refusal r 0 dt) 10 (omega (arith, number.1)) (omega arith) (omega arith) number.0)

-- ---- one call at rest

-- what it leaves: a record that 14 does not refuse, with the same pumped total and mark
record Rests (r q : Record) : Type 0 where
  accepted : valid q ≡ true
  pumped : (state_of q).pumped ≡ (state_of r).pumped
  mark : q.mark ≡ r.mark
  between : Between r q

module _ (r : Record) (ok : valid r ≡ true) where
  unmoved : Rests r r
  unmoved = record {
    accepted = ok;
    pumped = refl;
    mark = refl;
    between = record { before = reads r ok; after = reads r ok; depth = ≤ℤ_refl (largest r); inflow = ≤ℤ_refl _ };
  }

  -- a step that is taken
  module _ (rate dt : ℕ) (stopped : rate ≡ 0) (e : step_refusal r rate dt ≡ 0) where
    abbrev next : State
    next = moved (N r) (state_of r) rate dt

    steady : stable (N r) dt ≡ true
    unfolding unstable
    steady = not-false (stable (N r) dt) (accepted (N r) (state_of r) rate dt (taken r rate dt ok e)).steady

    -- the maximum principle at M = the largest D
    falls : largest (with_state r next) ≤ℤ largest r
    unfolding largest moved network_of
    falls = rw (same_grid r next, state_is r rate dt ok e) (largest_least (grid_of r) next.losses (largest r) (after-below r ok rate dt stopped steady (largest r) (below-largest r ok)))

    rises : (state_of r).inflow ≤ℤ next.inflow
    unfolding moved
    rises = more (known r ok).kept.inflow (inflow_rises (N r) (proper r ok) (state_of r) (known r ok).kept dt)

    stays : larger r.mark (drawdown (N r) next.losses 0) ≡ r.mark
    unfolding moved
    stays =
        let b = larger_bounds r.mark (drawdown (N r) next.losses 0) in
        ≤ℤ_antisym _ _ (b.2 r.mark (≤ℤ_refl r.mark) (under_mark r ok rate dt stopped steady)) b.0

    pumps_nothing : (state_of r).pumped + rate * dt ≡ (state_of r).pumped
    pumps_nothing = rw (stopped, zero-mul, add-zero)

    next-valid : valid (with_state r next) ≡ true
    next-valid = step_valid r rate dt ok e

    rests_taken : Rests r (with_state r next)
    unfolding reads state_of with_state moved totals_in
    rests_taken = record {
      accepted = next-valid;
      pumped = pumps_nothing;
      mark = stays;
      between = record { before = reads r ok; after = reads (with_state r next) next-valid; depth = falls; inflow = rises };
    }

  rests_step : (rate dt : ℕ) → rate ≡ 0 → Rests r (step_of r rate dt).«record»
  unfolding step_of answer_of
  rests_step rate dt stopped = by_number (step_refusal r rate dt) refl
    where
      by_number : (n : ℕ) → step_refusal r rate dt ≡ n → Rests r (answer_of n r (with_state r (moved (N r) (state_of r) rate dt))).«record»
      by_number zero e = rests_taken rate dt stopped e
      by_number (suc n) e = unmoved

  rests : (c : Call) → is_at_rest c ≡ true → Rests r (left r c)
  unfolding is_at_rest left
  rests (step rate dt) e = let stopped : rate ≡ 0 = eqb-true rate _ e in rests_step rate dt stopped
  rests (read q) e = unmoved

-- ---- a list of calls at rest

pub rest_each : (calls : List Call) (r : Record) → valid r ≡ true → every is_at_rest calls ≡ true → Each r calls
unfolding every
rest_each [] r ok e = nothing
rest_each (c ∷ cs) r ok e =
    let first = rests r ok c (and_left (is_at_rest c) (every is_at_rest cs) e) in
    further first.between (rest_each cs (left r c) first.accepted (and_right (is_at_rest c) (every is_at_rest cs) e))

pub rest_all : (calls : List Call) (r : Record) → valid r ≡ true → every is_at_rest calls ≡ true
    → (valid (left_by_all r calls) ≡ true) × ((state_of (left_by_all r calls)).pumped ≡ (state_of r).pumped) × ((left_by_all r calls).mark ≡ r.mark)
unfolding every left_by_all
rest_all [] r ok e = (ok, refl, refl)
rest_all (c ∷ cs) r ok e =
    let first = rests r ok c (and_left (is_at_rest c) (every is_at_rest cs) e) in
    let later = rest_all cs (left r c) first.accepted (and_right (is_at_rest c) (every is_at_rest cs) e) in
    (later.0, later.1 ∙ first.pumped, later.2 ∙ first.mark)
