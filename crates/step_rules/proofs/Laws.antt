-- What is known where 14, 7 and 8 let a step pass, and the answers of a step.
--     refused_14, refused_7, refused_8      the answer where one of these refuses
--     within_limits     what 7 asks of rate and length
--     cell_is           V of a slot of layer 1 after the step is that of its cell
--     asks_terms        what `step_judged::advance` asks
--     well_back, inflow_back, mark_back     what the machine reads back of the course
--     stepped           what `step_judged::advance` gives is the step's answer; course_kept: with the well's D in its course
--     scratch_zeros     arrays of zeros, and C itself, may be worked in
use Rattle.std.proofs.Common.{◌≡◌, ℕ, zero, suc, ◌+◌, ◌-◌, ◌*◌, ◌<◌, ◌≤◌, true, false, not, eqb, ltb, List, get_or, replicate, ℤ, pos, ◌≤ℤ◌, Err, sym, refl, ap, ◌∙◌, arith, w64, to_z, of_z, ltb-false}
use lib.ListN.{length-replicate}
use Rattle.laws.specs.Fill.{get_or_same}
use Rattle.laws.specs.Integer as integer
use Rattle.laws.specs.Lists.{first}
use Rattle.laws.specs.Refusal.{first_is}
use Rattle.laws.specs.Refusal.First.{hit, skip}
use Rattle.laws.specs.Sums.{or_no}
use Rattle.limits.specs.Limits.{rate_limit, length_limit}
use Rattle.refusals.specs.declared.Refusal.{Refusal}
use Rattle.refusals.specs.Refusals.{refusal, given, outcome_of}
use Rattle.network.specs.Network.{Network, State, loss_at, storage_at, drawdown, losses_after, moved, length_out, rate_or_length_out, stable, unstable, totals_pass, well_too_deep, table_too_deep, step_tests}
use Rattle.network.specs.Grid.{place, one_per_place, network_of}
use Rattle.network.proofs.laws.Bounds.{depth_natural, losses_after_lem}
use Rattle.network.proofs.laws.Places.{place-below}
use Rattle.site.specs.Laws.{counts_hold_lem, numbers_hold_lem}
use Rattle.site.specs.Limited.{Counts}
use Rattle.record.specs.declared.Record.{Record}
use Rattle.record.specs.declared.Answer.{Answer}
use Rattle.record.specs.Record.{slot, grid_of, state_of, answer_of}
use Rattle.record.specs.Laws.{refusal_of}
use Rattle.validity.specs.Validity.{valid}
use Rattle.validity.specs.Laws.{Valid, valid_record, valid_proper, mark_natural, mark_most, mark_back as kept-mark}
use Rattle.validity_drawdowns.specs.Drawdowns.{deeper}
use Rattle.step_conditions.specs.Conditions.{totals_full, Filled}
use Rattle.step_conditions.specs.Laws.{well_network, table_network}
use Rattle.step_sweep.specs.declared.Terms.{Terms}
use Rattle.slot_places.specs.Slots.{depth_well}
use Rattle.step_drawdowns.specs.Drawdowns.{depth_of}
use Rattle.step_sweep.specs.Worked.{Lent, lent, well_after, losses_of, Scratch}
use Rattle.step_judged.specs.declared.Course.{Course}
use Rattle.step_judged.specs.declared.Advanced.{Advanced}
use Rattle.step_judged.specs.Course.{well_deep, table_deep, halts, course_after, losses_kept, advanced_of, kept_of, Advancing, Advances}
use Rattle.step_judged.proofs.Laws as course
use Rattle.coefficient_cells.specs.Worked.{areas_of}
use Rattle.step_places.specs.Terms.{terms_of, lent_of}
use Rattle.step_places.specs.Worked.{workable, worked_well, worked_inflow, worked_losses, worked_cell}
use Rattle.step_rules.specs.Step.{with_state, step_refusal, step_of}
use Rattle.step_rules.specs.Ready.{Ready, course_of, with_course}

-- 7 lets rate and length pass
pub within_limits : (rate dt : ℕ) → rate_or_length_out rate dt ≡ false → (rate ≤ rate_limit) × (dt ≤ length_limit)
unfolding rate_or_length_out length_out
within_limits rate dt e =
    let tests = or_no (ltb rate_limit rate) (length_out dt) e in
    (ltb-false rate_limit rate tests.0, ltb-false length_limit dt (or_no (eqb dt 0) (ltb length_limit dt) tests.1).1)

-- the answer of a refused step
abbrev pub refused : Refusal → Record → Answer
refused k r = record { outcome = Err k; «record» = r }

module _ (r : Record) (rate dt : ℕ) where
  abbrev N : Network
  N = network_of (grid_of r)

  abbrev s : State
  s = state_of r

  abbrev a : Lent
  a = lent_of r rate dt

  refused_is : (n : ℕ) {k : Refusal} → outcome_of n ≡ Err k → n ≡ step_refusal r rate dt → refused k r ≡ step_of r rate dt
  unfolding step_of answer_of
  refused_is zero h e = absurd ((refusal_of 0 _ h).1 refl)
  refused_is (suc n) h e = rw (← e, h) refl

  pub refused_14 : valid r ≡ false → refused Refusal.Record r ≡ step_of r rate dt
  unfolding step_refusal refusal given
  refused_14 e = refused_is 14 refl (first_is (hit (ap not e)))

  pub refused_7 : valid r ≡ true → rate_or_length_out rate dt ≡ true → refused Refusal.RateOrLength r ≡ step_of r rate dt
  unfolding step_refusal step_tests refusal given
  refused_7 ok e = refused_is 7 refl (first_is (skip (ap not ok) (hit e)))

  module _ (ok : valid r ≡ true) where
    known : Valid r
    known = valid_record r ok

    counted : Counts r.site
    counted = counts_hold_lem r.site known.counts

    pub few_layers : r.site.layers ≤ 20
    few_layers = counted.layers_most

    pub refused_8 : rate_or_length_out rate dt ≡ false → stable N dt ≡ false → refused Refusal.Unstable r ≡ step_of r rate dt
    unfolding step_refusal step_tests unstable refusal given
    refused_8 sized e = refused_is 8 refl (first_is (skip (ap not ok) (skip sized (hit (ap not e)))))

  module _ (y : Ready r rate dt) where
    v : Valid r
    v = known y.passed

    small : (rate ≤ rate_limit) × (dt ≤ length_limit)
    small = within_limits rate dt y.sized

    -- ---- what is asked

    abbrev after : List ℤ
    after = losses_after N s.losses rate dt

    natural : (p : ℕ) → p < N.places → pos 0 ≤ℤ loss_at after p
    natural = losses_after_lem N (valid_proper r v) s v.kept dt y.steady rate

    pub cell_is : (j : ℕ) → suc j < r.site.columns → get_or (losses_of a) j (pos 0) ≡ loss_at after (place (grid_of r) 0 (suc j))
    cell_is j h = ap (λ n. get_or (losses_of a) n (pos 0)) top ∙ worked_cell r v rate dt 0 j (omega (arith, (counted y.passed).layers_least)) h
      where
        top : j ≡ 50 * 0 + j
        top = omega arith

    table_filled : Filled (r.site.columns - 1) r.storages (losses_of a)
    unfolding network_of grid_of slot
    table_filled = record {
      storage = λ k h. stored k (v.coefficients.storage 0 (suc k) (omega (arith, (counted y.passed).layers_least)) (omega arith) (omega arith)).least;
      loss = λ k h. rw (cell_is k (omega arith)) (natural (place (grid_of r) 0 (suc k)) (place-below (grid_of r) 0 k (omega (arith, (counted y.passed).layers_least)) (omega arith)));
    }
      where
        top : (k : ℕ) → 50 * 0 + (suc k - 1) ≡ k
        top k = omega arith

        stored : (k : ℕ) → 1 ≤ get_or r.storages (50 * 0 + (suc k - 1)) 0 → 0 < get_or r.storages k 0
        stored k h = omega (arith, rw (top k) at h)

    asks : Advancing (lent_of r rate dt) r.site.intake (course_of r)
    unfolding state_of network_of grid_of storage_at one_per_place
    asks = record {
      workable = workable r v rate dt y.steady small.0 small.1;
      pumped = v.kept.pumped;
      time = v.kept.time;
      well_depth = sym (integer.natural (rw (depth_well r v) (depth_natural N (valid_proper r v) s v.kept 0)));
      mark = (mark_natural r v, mark_most r v);
      intake = (valid_proper r v).intake;
      thickness = omega (arith, ((numbers_hold_lem r.site v.numbers).layer 0 (omega (arith, (counted y.passed).layers_least))).thickness_most);
      well_storage = (valid_proper r v).storages 0 (valid_proper r v).well;
      well_loss = rw (worked_well r v rate dt) (natural 0 (valid_proper r v).well);
      table = table_filled;
    }

    -- the course before the step, as the machine reads it back
    pub well_back : to_z w64 (of_z w64 r.well_loss) ≡ r.well_loss
    well_back = course.well_back asks

    pub inflow_back : to_z w64 (of_z w64 r.inflow) ≡ r.inflow
    inflow_back = course.inflow_back asks

    pub mark_back : to_z w64 (of_z w64 r.mark) ≡ r.mark
    mark_back = kept-mark r v

    -- ---- the answer

    -- the tests of 8 to 11 by slots are the network's
    stands : unstable N dt ≡ false
    unfolding unstable
    stands = ap not y.steady

    totals_test : totals_pass s rate dt ≡ totals_full r.pumped r.time rate dt
    unfolding totals_pass state_of
    totals_test = refl

    well_test : well_too_deep N after ≡ well_deep a r.site.intake (course_of r)
    well_test = sym (ap (deeper (1000 * r.site.intake) r.well_storage) (worked_well r v rate dt) ∙ well_network r after)

    table_test : table_too_deep N after ≡ table_deep a r.site.intake (course_of r)
    table_test = sym (table_network r after v.counts (losses_of a) cell_is)

    -- so the number that halts the step is the one that refuses it
    refusal_is : step_refusal r rate dt ≡ halts a r.site.intake (course_of r)
    unfolding step_refusal step_tests first halts
    refusal_is = rw (y.passed, y.sized, stands, totals_test, well_test, table_test)

    -- the well's D after the step
    depth_is : depth_of (well_after a) r.well_storage ≡ drawdown N after 0
    unfolding depth_of drawdown storage_at network_of grid_of one_per_place
    depth_is = rw (worked_well r v rate dt)

    -- the answer by that number
    by_number : (n : ℕ) → ◌≡◌ {A = Answer}
        (record { outcome = (course_after a r.site.intake (course_of r) n).outcome; «record» = with_course r (course_after a r.site.intake (course_of r) n).course (losses_kept a r.site.intake (course_of r) n) })
        (answer_of n r (with_state r (moved N s rate dt)))
    unfolding course_after losses_kept answer_of with_state moved state_of
    by_number zero = rw (worked_losses r v rate dt, depth_is, worked_well r v rate dt, worked_inflow r v rate dt)
    by_number (suc n) = refl

    -- the well's D in the course is that of its V
    depth_kept : (n : ℕ) (ls : List ℤ) → let x = course_after a r.site.intake (course_of r) n in course_of (with_course r x.course ls) ≡ x.course
    unfolding course_after
    depth_kept zero ls = refl
    depth_kept (suc n) ls = refl

    -- what `advance` asks and gives, by the terms of the record's run, its columns' areas and its course
    module _ {terms : Terms} {multiplier : ℕ} {areas : List ℕ} {c : Course} (e : terms ≡ terms_of r multiplier rate dt) (w : areas ≡ areas_of r.site) (k : course_of r ≡ c) where
      abbrev held : Lent
      held = lent terms r.well_loss r.inflow areas r.screen r.horizontal r.vertical r.storages r.losses

      pub asks_terms : Advancing held terms.intake c
      asks_terms = rw (e, w, ← k) asks

      module _ {x : Advanced} {ls : List ℤ} {ds cs : List ℕ} {ws vs : List ℤ} (h : Advances held terms.intake c x ls ds cs ws vs) where
        advanced : x ≡ advanced_of a r.site.intake (course_of r)
        advanced = (rw (e, w, ← k) at h).answer

        pub stepped : ◌≡◌ {A = Answer} (record { outcome = x.outcome; «record» = with_course r x.course ls }) (step_of r rate dt)
        unfolding step_of advanced_of kept_of
        stepped = rw (advanced, (rw (e, w, ← k) at h).losses, refusal_is) (by_number (halts a r.site.intake (course_of r)))

        pub course_kept : course_of (with_course r x.course ls) ≡ x.course
        unfolding advanced_of
        course_kept = rw advanced (depth_kept (halts a r.site.intake (course_of r)) ls)

pub scratch_zeros : (layers columns : ℕ) (horizontal : List ℕ) → Scratch layers columns horizontal (replicate 1000 0) horizontal (replicate 1000 (pos 0)) (replicate 1000 (pos 0))
scratch_zeros layers columns horizontal = record {
  long = (length-replicate {A = ℕ} 1000 0, refl, length-replicate 1000 (pos 0), length-replicate 1000 (pos 0));
  depths = λ k u. get_or_same 1000 k 0;
  conductances = λ k h. refl;
  down = λ k u. get_or_same 1000 k (pos 0);
  before = λ k u. get_or_same 1000 k (pos 0);
}
