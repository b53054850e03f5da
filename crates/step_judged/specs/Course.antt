-- One step of a run by slots, where 14, 7 and 8 let it pass: what 9 to 11 say, and what becomes of the losses, the well's V and D, totals, time
-- and mark.
-- Inner definitions, for the contract of `advance`. What the refusals say of places and faces stands with the network.
use Rattle.std.specs.Prelude.{◌≡◌, Bool, not, List, [], ◌∷◌, ℕ, zero, suc, ◌+◌, ◌*◌, ◌-◌, ◌<◌, ◌≤◌, ℤ, pos, nat_abs, ◌≤ℤ◌}
use Rattle.laws.specs.Integer.{UpTo}
use Rattle.laws.specs.Lists.{larger, first}
use Rattle.limits.specs.Limits.{total_limit, drawdown_limit}
use Rattle.refusals.specs.Refusals.{outcome_of}
use Rattle.validity_drawdowns.specs.Drawdowns.{deeper}
use Rattle.step_conditions.specs.Conditions.{totals_full, Filled, table_within}
use Rattle.step_drawdowns.specs.Drawdowns.{depth_of}
use Rattle.step_sweep.specs.declared.Terms.{Terms}
use Rattle.step_sweep.specs.Worked.{Lent, well_after, inflow_after, losses_of, Workable, Scratch}
use Rattle.step_judged.specs.declared.Course.{Course}
use Rattle.step_judged.specs.declared.Advanced.{Advanced}

-- the number of the first of 10 and 11 that forbids a step of these terms, 0 if none does, by V of the well and of the cells after it
unfoldable pub too_deep : Terms → ℤ → List ℕ → List ℤ → ℕ
too_deep terms well_loss storages losses = first (
    (deeper (1000 * terms.intake) terms.well_storage well_loss, 10)
    ∷ (not (table_within terms.columns terms.thickness storages losses), 11)
    ∷ [])

-- the well's D after a step
abbrev pub depth_after : Lent → ℤ
depth_after a = depth_of (well_after a) a.well_storage

module _ (a : Lent) (intake : ℕ) (c : Course) where
  -- 10: the well's D passes 1000×p
  abbrev pub well_deep : Bool
  well_deep = deeper (1000 * intake) a.well_storage (well_after a)

  -- 11: a D of layer 1 passes 1000×b_1
  abbrev pub table_deep : Bool
  table_deep = not (table_within a.columns a.thickness a.storages (losses_of a))

  -- the number of the first of 9 to 11 that forbids the step, 0 if none does
  unfoldable pub halts : ℕ
  halts = first ((totals_full c.pumped c.time a.rate a.dt, 9) ∷ (well_deep, 10) ∷ (table_deep, 11) ∷ [])

  -- what becomes of a step that this number forbids
  unfoldable pub course_after : ℕ → Advanced
  course_after zero = record {
    outcome = outcome_of zero;
    course = record {
      well_loss = well_after a;
      well_depth = nat_abs (depth_after a);
      pumped = c.pumped + a.rate * a.dt;
      inflow = inflow_after a;
      time = c.time + a.dt;
      mark = larger c.mark (depth_after a);
    };
  }
  course_after (suc n) = record { outcome = outcome_of (suc n); course = c }

  -- and of the losses
  unfoldable pub losses_kept : ℕ → List ℤ
  losses_kept zero = losses_of a
  losses_kept (suc n) = a.losses

  unfoldable pub advanced_of : Advanced
  advanced_of = course_after halts

  unfoldable pub kept_of : List ℤ
  kept_of = losses_kept halts

-- what is asked
pub record Advancing (a : Lent) (p : ℕ) (c : Course) : Type 0 where
  pub workable : Workable a
  pub pumped : c.pumped ≤ total_limit
  pub time : c.time ≤ total_limit
  pub well_depth : pos c.well_depth ≡ depth_of a.well_loss a.well_storage
  pub mark : UpTo drawdown_limit c.mark
  pub intake : 1000 * p ≤ drawdown_limit
  pub thickness : 1000 * a.thickness ≤ drawdown_limit
  pub well_storage : 0 < a.well_storage
  pub well_loss : pos 0 ≤ℤ well_after a
  pub table : Filled (a.columns - 1) a.storages (losses_of a)

-- what `advance` gives: the answer, the losses after the step or as they were, and the arrays worked in
pub record Advances (a : Lent) (intake : ℕ) (c : Course) (advanced : Advanced) (after : List ℤ) (ds cs : List ℕ) (ws vs : List ℤ) : Type 0 where
  pub answer : advanced ≡ advanced_of a intake c
  pub losses : after ≡ kept_of a intake c
  pub scratch : Scratch a.layers a.columns a.horizontal ds cs ws vs
