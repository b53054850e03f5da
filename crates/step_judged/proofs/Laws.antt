-- What is known of a step that `advance` is asked, by slots, and its answers.
--     well_back, inflow_back, mark_back       what the machine reads back of V of the well, the inflow total and the mark before the step
--     well_after_back, inflow_after_back      and after it
--     depth_within      D of the well after a step that is taken is at most 10^9
--     totals_fit        the pumped total and the time after the step are words
--     halted_is         the course and the losses where a refusal halts the step; halted_9: where 9 does
--     taken             and where none does
--     larger_is         std's larger of two integers is the definition's; marks: what the mark after a step is worked out by
--     judged            the number of 10 and 11 is the one that halts the step, where 9 does not
--     restored          the losses before the step, where the slots before the last layer's last column are given back
use Rattle.std.proofs.Common.{Ok, Err, Bool, cond, ltb, leb, pos, negsuc, lt-ltb, le-ltb, le-leb, ⊎_elim, inl, inr, ◌≡◌, refl, sym, ◌∙◌, true, false, List, ℕ, zero, suc, ◌+◌, ◌*◌, ◌-◌, ◌%◌, ◌^◌, ◌≤◌, ◌<◌, mul-le-mul, arith, ℤ, neg_ℤ, nat_abs, ◌+ℤ◌, ◌≤ℤ◌, w64, to_z, of_z, to_z-of_z, length, get_or, replicate, ext_get_or}
use Rattle.std.proofs.lemmas.List.{length-replicate}
use Rattle.laws.specs.Fill.{fill, length-fill, get_or-fill, get_or-fill_rest, get_or_same}
use Rattle.laws.specs.Integer.{≤ℤ_up, abs_up_to, not_past}
use Rattle.laws.specs.Refusal.{first_is, passed}
use Rattle.laws.specs.Refusal.First.{hit}
use Rattle.std.specs.Int.{int_max}
use borrow.Author.Tests.{lt-leb}
use Rattle.laws.specs.Number.{below_or_not}
use Rattle.laws.specs.Signed.{back, read, small_fits, abs_add, room_fits, room_sum}
use Rattle.laws.specs.Lists.{larger, ifℤ, sumℤ, range, first}
use Rattle.limits.specs.Limits.{rate_limit, length_limit, total_limit, drawdown_limit}
use Rattle.refusals.specs.declared.Refusal.{Refusal}
use Rattle.refusals.specs.Refusals.{refusal, given, outcome_of}
use Rattle.record.specs.Laws.{refusal_of}
use Rattle.validity_drawdowns.specs.Drawdowns.{deeper}
use Rattle.step_drawdowns.specs.Drawdowns.{depth_of}
use Rattle.step_sweep.specs.declared.Terms.{Terms}
use Rattle.step_sweep.specs.Worked.{Lent, lent, slot_count, well_flow, to_last, slot_after, well_after, inflow_after, losses_of, Unused}
use Rattle.step_judged.specs.declared.Course.{Course}
use Rattle.step_judged.specs.declared.Advanced.{Advanced}
use Rattle.step_conditions.specs.Conditions.{totals_full}
use Rattle.step_judged.specs.Course.{too_deep, depth_after, well_deep, halts, course_after, losses_kept, advanced_of, kept_of, Advancing}

-- ---- what fits a word

module _ {a : Lent} {p : ℕ} {c : Course} (q : Advancing a p c) where
  pub well_back : to_z w64 (of_z w64 a.well_loss) ≡ a.well_loss
  well_back = to_z-of_z (room_fits q.workable.well_room (omega arith))

  pub inflow_back : to_z w64 (of_z w64 a.inflow) ≡ a.inflow
  inflow_back = to_z-of_z (room_fits q.workable.last_room (omega arith))

  pub well_after_back : to_z w64 (of_z w64 (well_after a)) ≡ well_after a
  unfolding well_after
  well_after_back = to_z-of_z (small_fits _ {n = total_limit + rate_limit * length_limit} bound (omega arith))
    where
      bound : nat_abs (a.well_loss +ℤ sumℤ (range 0 a.layers) (well_flow a) +ℤ pos (a.rate * a.dt)) ≤ total_limit + rate_limit * length_limit
      bound = omega (
        arith,
        abs_add (a.well_loss +ℤ sumℤ (range 0 a.layers) (well_flow a)) (pos (a.rate * a.dt)),
        room_sum (well_flow a) (range 0 a.layers) q.workable.well_room,
        mul-le-mul q.workable.rate q.workable.dt,
      )

  pub inflow_after_back : to_z w64 (of_z w64 (inflow_after a)) ≡ inflow_after a
  unfolding inflow_after
  inflow_after_back = to_z-of_z (small_fits _ {n = total_limit} (room_sum (λ i. neg_ℤ (to_last a i)) (range 0 a.layers) q.workable.last_room) (omega arith))

  pub mark_back : to_z w64 (of_z w64 c.mark) ≡ c.mark
  mark_back = to_z-of_z (small_fits c.mark (abs_up_to q.mark) (omega arith))

  -- 10 lets the step pass: the well's D after it is within the limit
  pub depth_within : 0 ≡ halts a p c → depth_after a ≤ℤ pos drawdown_limit
  unfolding halts depth_of deeper
  depth_within e =
      let later = (passed (totals_full c.pumped c.time a.rate a.dt) 8 _ (sym e)).1 in
      ≤ℤ_up _ (not_past (passed (well_deep a p c) 9 _ later).0) q.intake

  pub totals_fit : (a.rate * a.dt < 2 ^ 64) × (c.pumped + a.rate * a.dt < 2 ^ 64) × (c.time + a.dt < 2 ^ 64)
  totals_fit = omega (arith, q.pumped, q.time, q.workable.dt, mul-le-mul q.workable.rate q.workable.dt)

-- ---- the answers

module _ (a : Lent) (p : ℕ) (c : Course) where
  -- the course and the losses of a step refused in this way
  abbrev Halted : Refusal → Type 0
  Halted k = (◌≡◌ {A = Advanced} (record { outcome = Err k; course = c }) (advanced_of a p c)) × (a.losses ≡ kept_of a p c)

  pub halted_is : (n : ℕ) {k : Refusal} → outcome_of n ≡ Err k → n ≡ halts a p c → Halted k
  unfolding advanced_of kept_of course_after losses_kept
  halted_is zero h e = absurd ((refusal_of 0 _ h).1 refl)
  halted_is (suc n) h e = (rw (← e, h) refl, rw (← e) refl)

  pub halted_9 : totals_full c.pumped c.time a.rate a.dt ≡ true → Halted Refusal.Totals
  unfolding halts refusal given
  halted_9 e = halted_is 9 refl (first_is (hit e))

  pub taken : 0 ≡ halts a p c
      → {well inflow mark : ℤ} {depth : ℕ} → well ≡ well_after a → inflow ≡ inflow_after a → pos depth ≡ depth_after a → mark ≡ larger c.mark (pos depth)
      → {ls : List ℤ} → ls ≡ losses_of a
      → (◌≡◌ {A = Advanced}
      (record { outcome = Ok tt; course = record { well_loss = well; well_depth = depth; pumped = c.pumped + a.rate * a.dt; inflow = inflow; time = c.time + a.dt; mark = mark } })
      (advanced_of a p c))
      × (ls ≡ kept_of a p c)
  unfolding advanced_of kept_of course_after losses_kept given
  taken e w i d m l = (rw (← e, w, i, m, ← d), rw (← e, l))

-- where 9 lets the step pass, the number that halts it is the first of 10 and 11
pub judged : {v : ℤ} {ls : List ℤ} (terms : Terms) (well inflow : ℤ) (areas screen horizontal vertical storages : List ℕ) (losses : List ℤ) (c : Course)
    → let a = lent terms well inflow areas screen horizontal vertical storages losses in
    totals_full c.pumped c.time terms.rate terms.dt ≡ false → v ≡ well_after a → ls ≡ losses_of a → too_deep terms v storages ls ≡ halts a terms.intake c
unfolding too_deep halts first
judged terms well inflow areas screen horizontal vertical storages losses c room w l = rw (room, w, l)

-- ---- the losses given back

module _ {a : Lent} {p : ℕ} {c : Course} (q : Advancing a p c) where
  long : length (losses_of a) ≡ 1000
  unfolding losses_of
  long = length-fill (slot_after a) (replicate 1000 (pos 0)) (slot_count a) ∙ length-replicate 1000 (pos 0)

  none_lost : (k : ℕ) → k < 1000 → Unused a.layers a.columns k → get_or (losses_of a) k (pos 0) ≡ pos 0
  unfolding losses_of slot_after ifℤ
  none_lost k h u = ⊎_elim
      (λ lt. get_or-fill (slot_after a) (replicate 1000 (pos 0)) (slot_count a) k (pos 0) lt (omega (arith, length-replicate 1000 (pos 0))) ∙ rw (le-ltb (k % 50 + 1) a.columns (⊎_elim (λ m. absurd (omega arith)) (λ m. m) u)))
      (λ le. get_or-fill_rest (slot_after a) (replicate 1000 (pos 0)) (slot_count a) k (pos 0) le ∙ get_or_same 1000 k (pos 0))
      (below_or_not k (slot_count a))

  given_back : length a.losses ≡ 1000 → fill (50 * (a.layers - 1) + (a.columns - 1)) (λ k. get_or a.losses k (pos 0)) (losses_of a) ≡ a.losses
  given_back e = ext_get_or (pos 0) (fill n old (losses_of a)) a.losses (same ∙ sym e)
      (λ k h. ⊎_elim
      (λ lt. get_or-fill old (losses_of a) n k (pos 0) lt (omega (arith, h, same, long)))
      (λ le. get_or-fill_rest old (losses_of a) n k (pos 0) le ∙ none_lost k (omega (arith, h, same)) (past k le) ∙ sym (q.workable.unused k (omega (arith, h, same)) (past k le)))
      (below_or_not k n))
    where
      n : ℕ
      n = 50 * (a.layers - 1) + (a.columns - 1)

      old : ℕ → ℤ
      old k = get_or a.losses k (pos 0)

      same : length (fill n old (losses_of a)) ≡ 1000
      same = length-fill old (losses_of a) n ∙ long

      past : (k : ℕ) → n ≤ k → Unused a.layers a.columns k
      past k le = ⊎_elim (λ lt. inr (omega (arith, q.workable.columns, q.workable.layers))) inl (below_or_not k (50 * a.layers))

  pub restored : {old ls : List ℤ} → length old ≡ 1000 → old ≡ a.losses → ls ≡ losses_of a → fill (50 * (a.layers - 1) + (a.columns - 1)) (λ k. get_or old k (pos 0)) ls ≡ a.losses
  restored e o l = rw (o, l) (given_back (rw o at e))

-- ---- the mark

other_test : (m n : ℕ) (x y : ℤ) → cond (ltb n m) x y ≡ cond (leb m n) y x
other_test m n x y = ⊎_elim (λ h. rw (lt-ltb n m h, lt-leb m n h)) (λ h. rw (le-ltb n m h, le-leb m n h)) (below_or_not n m)

pub larger_is : (a b : ℤ) → int_max a b ≡ larger a b
unfolding larger
larger_is (pos a) (pos b) = other_test a b (pos a) (pos b)
larger_is (pos a) (negsuc b) = refl
larger_is (negsuc a) (pos b) = refl
larger_is (negsuc a) (negsuc b) = other_test b a (negsuc a) (negsuc b)

pub ruleset marks = (larger_is, to_z-of_z, read, back)
