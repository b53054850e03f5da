-- At each return the tests on the way give the number that halts the step, or none.
use Rattle.std.proofs.Common.{Err, ◌≡◌, sym, ap, ◌∙◌, ℕ, true, w64, to_z, of_z}
use Rattle.refusals.specs.declared.Refusal.{Refusal}
use Rattle.refusals.specs.Refusals.{outcome_of}
use Rattle.refusals.specs.Laws.{value_given}
use Rattle.laws.specs.Integer.{≤ℤ_pos}
use Rattle.laws.specs.Signed.{back}
use Rattle.step_conditions.specs.Conditions.{totals_full}
use Rattle.step_losses.specs.declared.Swept.{Swept}
use Rattle.step_sweep.specs.Worked.{Lent, well_after, inflow_after, worked_of}
use Rattle.step_judged.specs.declared.Course.{Course}
use Rattle.step_judged.specs.declared.Advanced.{Advanced}
use Rattle.step_judged.specs.Course.{halts, advanced_of, kept_of, Advancing}
use Rattle.step_judged.proofs.Laws.{well_back, inflow_back, mark_back, well_after_back, inflow_after_back, depth_within, halted_is, halted_9, taken, judged, restored}
use Rattle.step_judged.proofs.advance.Goals as goal

module _ {a : Lent} {p : ℕ} {k : Course} (q : Advancing a p k) where
  -- 9 halts it, or a number that 10 and 11 gave
  by_9 : totals_full k.pumped k.time a.rate a.dt ≡ true → (◌≡◌ {A = Advanced} (record { outcome = Err Refusal.Totals; course = k }) (advanced_of a p k)) × (a.losses ≡ kept_of a p k)
  by_9 = halted_9 a p k

  by_number : (n : ℕ) {r : Refusal} → outcome_of n ≡ Err r → n ≡ halts a p k → (◌≡◌ {A = Advanced} (record { outcome = Err r; course = k }) (advanced_of a p k)) × (a.losses ≡ kept_of a p k)
  by_number = halted_is a p k

  -- V of the well and the inflow total after it, as the machine reads them back
  module _ {s : Swept} (e : s ≡ worked_of a) where
    well_worked : to_z w64 (of_z w64 s.well_loss) ≡ well_after a
    unfolding worked_of
    well_worked = ap (λ (x : Swept). to_z w64 (of_z w64 x.well_loss)) e ∙ well_after_back q

    inflow_worked : to_z w64 (of_z w64 s.inflow) ≡ inflow_after a
    unfolding worked_of
    inflow_worked = ap (λ (x : Swept). to_z w64 (of_z w64 x.inflow)) e ∙ inflow_after_back q

pub returns-then-totals_pass : goal.returns-then-totals_pass
returns-then-totals_pass c =
    let h = by_9 c.requires.advancing (sym c.totals_pass.ensures ∙ c.if-totals_pass.true) in
    record { answer = h.0; losses = h.1; scratch = c.requires.scratch }

pub too_deep-requires-clause-intake_bound : goal.too_deep-requires-clause-intake_bound
too_deep-requires-clause-intake_bound c =
    let q = c.requires.advancing in
    let w = rw (well_back q, inflow_back q) at c.work_step-swept.ensures in
    (q.intake, q.well_storage, rw (well_worked q w.answer) q.well_loss)

pub returns-in-Err : goal.returns-in-Err
returns-in-Err c =
    let q = c.requires.advancing in
    let w = rw (well_back q, inflow_back q) at c.work_step-swept.ensures in
    let number = judged _ _ _ _ _ _ _ _ _ _ (sym c.totals_pass.ensures ∙ c.if-totals_pass.false) (well_worked q w.answer) w.losses in
    let h = by_number q _ (sym c.too_deep.ensures ∙ c.in-Err.is) number in
    record { answer = h.0; losses = c.restore.ensures ∙ restored q w.scratch.long.3 w.kept w.losses ∙ h.1; scratch = w.scratch }

pub drawdown_by-well_depth-requires : goal.drawdown_by-well_depth-requires
drawdown_by-well_depth-requires c =
    let q = c.requires.advancing in
    let w = rw (well_back q, inflow_back q) at c.work_step-swept.ensures in
    let number = judged _ _ _ _ _ _ _ _ _ _ (sym c.totals_pass.ensures ∙ c.if-totals_pass.false) (well_worked q w.answer) w.losses in
    let passed = (value_given _ tt (sym c.too_deep.ensures ∙ c.in_default.is)).0 in
    rw (well_worked q w.answer) (q.well_loss, depth_within q (sym passed ∙ number), q.workable.well_storage, c.requires.multiplied.1)

pub raised-requires : goal.raised-requires
raised-requires c =
    let q = c.requires.advancing in
    let w = rw (well_back q, inflow_back q) at c.work_step-swept.ensures in
    let number = judged _ _ _ _ _ _ _ _ _ _ (sym c.totals_pass.ensures ∙ c.if-totals_pass.false) (well_worked q w.answer) w.losses in
    let passed = (value_given _ tt (sym c.too_deep.ensures ∙ c.in_default.is)).0 in
    let depth = rw (well_worked q w.answer) at c.drawdown_by-well_depth.ensures in
    ≤ℤ_pos (rw (sym depth) at (depth_within q (sym passed ∙ number)))

pub returns : goal.returns
returns c =
    let q = c.requires.advancing in
    let w = rw (well_back q, inflow_back q) at c.work_step-swept.ensures in
    let number = judged _ _ _ _ _ _ _ _ _ _ (sym c.totals_pass.ensures ∙ c.if-totals_pass.false) (well_worked q w.answer) w.losses in
    let passed = (value_given _ tt (sym c.too_deep.ensures ∙ c.in_default.is)).0 in
    let depth = rw (well_worked q w.answer) at c.drawdown_by-well_depth.ensures in
    let mark = back c.raised.result c.raised.type_inv ∙ rw (mark_back q) at c.raised.ensures in
    let h = taken _ c.args.terms.intake c.args.course (sym passed ∙ number) (well_worked q w.answer) (inflow_worked q w.answer) depth mark w.losses in
    record { answer = h.0; losses = h.1; scratch = w.scratch }
