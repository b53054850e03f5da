-- What each part asks follows from what the lent arrays are asked to be, and what the parts made is the step's answer.
use Rattle.std.proofs.Common.{◌≡◌, List, ℕ, ◌*◌, ◌-◌, ◌≤◌, arith, ℤ, pos, ◌+ℤ◌, map, length, w64, to_z, of_z, to_z-of_z, SFits, rules, ◌∙◌}
use Rattle.laws.specs.Fill.{fill}
use Rattle.laws.specs.Span.{spans}
use Rattle.laws.specs.Integer.{≤ℤ_pos}
use Rattle.laws.specs.Signed.{back}
use Rattle.limits.specs.Limits.{drawdown_limit}
use Rattle.step_drawdowns.specs.Drawdowns.{depth_of, depth_at}
use Rattle.step_flows.specs.Flows.{screen_at, reduced_at}
use Rattle.step_losses.specs.Losses.{water_in}
use Rattle.step_sweep.specs.Worked.{Lent, depth, well_depth, water_of, Workable, Scratch}
use Rattle.step_sweep.proofs.Made.{Drawn, drawn, depth_le, table_le, flow_down, flow-right, flow-lower, flow_screen, conductances_again, Lowered, lowered, lowered_at, water_same, sweepable, swept_made, losses_made, before_made, scratch_again}
use Rattle.step_sweep.proofs.work_step.Goals as goal

-- the well's D
well_le : (a : Lent) (well : ℕ) → Workable a → pos well ≡ depth_of a.well_loss a.well_storage → well ≤ drawdown_limit
unfolding well_depth
well_le a well ok e = ≤ℤ_pos (rw e ok.well.1)

-- the drawdowns, once worked, and what was in their array
module _ (a : Lent) (ok : Workable a) (old ds oldc : List ℕ) (oldw oldv : List ℤ) (s : Scratch a.layers a.columns a.horizontal old oldc oldw oldv)
    (made : map pos ds ≡ spans (a.columns - 1) a.layers (depth_at a.losses a.storages) (map pos old)) where
  drawn_are : Drawn a ok ds
  drawn_are = drawn a ok old ds s.long.0 s.depths made

  -- the water of the faces
  module _ (cs : List ℕ) (ws : List ℤ) (whole : length a.losses ≡ 1000) (well : ℕ) (e : pos well ≡ depth_of a.well_loss a.well_storage)
      (reduced : map pos cs ≡ fill (a.columns - 1) (reduced_at a.thickness a.horizontal ds) (map pos oldc))
      (down : ws ≡ spans (a.columns - 1) (a.layers - 1) (flow_down a ok ds) oldw) where
    lowered_are : Lowered a ok ws
    lowered_are = lowered a ok ds drawn_are oldw ws s.long.2 s.down down

    water_is : water_in cs ds ws a.dt (screen_at a.screen well ds a.dt) ≡ water_of a
    unfolding well_depth
    water_is = water_same a ok
        (flow-right a ok ds drawn_are oldc cs s.long.1 s.conductances reduced whole)
        (lowered_at a ok ws lowered_are)
        (flow_screen a ok ds drawn_are whole well e)

pub drawdowns-requires-clause-by_index : goal.drawdowns-requires-clause-by_index
unfolding depth
drawdowns-requires-clause-by_index c = let p = c.requires.workable in λ k h. (p.losses k h, p.depths k h, p.storages k h)

pub in_use-requires-clause-by_index : goal.in_use-requires-clause-by_index
in_use-requires-clause-by_index c =
    let p = c.requires.workable in
    table_le _ p c.drawdowns.new.depths (drawn_are _ p _ _ _ _ _ c.requires.scratch c.drawdowns.ensures)

pub down_flows-requires-clause-by_index : goal.down_flows-requires-clause-by_index
down_flows-requires-clause-by_index c =
    let p = c.requires.workable in
    let d = drawn_are _ p _ _ _ _ _ c.requires.scratch c.drawdowns.ensures in
    (depth_le _ p c.drawdowns.new.depths d, λ k h. table_le _ p c.drawdowns.new.depths d k (omega arith))

pub down_flows-requires-clause-by_index_2 : goal.down_flows-requires-clause-by_index_2
down_flows-requires-clause-by_index_2 c =
    let p = c.requires.workable in
    let d = drawn_are _ p _ _ _ _ _ c.requires.scratch c.drawdowns.ensures in
    λ k h. rw (flow-lower _ p c.drawdowns.new.depths d k h) (p.lowers k)

pub sweep-requires-clause-layers_bound : goal.sweep-requires-clause-layers_bound
sweep-requires-clause-layers_bound c =
    let p = c.requires.workable in
    (p.layers.1, omega (arith, p.columns), omega (arith, p.columns), well_le _ c.args.well p c.requires.well_value.0, p.dt)

pub sweep-requires-clause-by_index : goal.sweep-requires-clause-by_index
sweep-requires-clause-by_index c =
    let p = c.requires.workable in
    depth_le _ p c.drawdowns.new.depths (drawn_are _ p _ _ _ _ _ c.requires.scratch c.drawdowns.ensures)

pub sweep-requires-clause-sweepable : goal.sweep-requires-clause-sweepable
sweep-requires-clause-sweepable c =
    let loss_fits : SFits w64 c.args.well_loss = search rules in
    let inflow_fits : SFits w64 c.args.inflow = search rules in
    let p = c.requires.workable in
    let e = water_is _ p _ _ _ _ _ c.requires.scratch c.drawdowns.ensures _ _ c.told-losses _ c.requires.well_value.0 c.in_use.ensures c.down_flows.ensures in
    let pumped : to_z w64 (of_z w64 c.with_pumped-well_pumped.result) ≡ c.args.well_loss +ℤ pos (c.args.terms.rate * c.args.terms.dt) =
    back _ c.with_pumped-well_pumped.type_inv ∙ rw (to_z-of_z loss_fits) at c.with_pumped-well_pumped.ensures in
    sweepable _ p e pumped (to_z-of_z inflow_fits)

pub returns : goal.returns
returns c =
    let loss_fits : SFits w64 c.args.well_loss = search rules in
    let inflow_fits : SFits w64 c.args.inflow = search rules in
    let p = c.requires.workable in
    let s = c.requires.scratch in
    let d = drawn_are _ p _ _ _ _ _ s c.drawdowns.ensures in
    let e = water_is _ p _ _ _ _ _ s c.drawdowns.ensures _ _ c.told-losses _ c.requires.well_value.0 c.in_use.ensures c.down_flows.ensures in
    let w = lowered_are _ p _ _ _ _ _ s c.drawdowns.ensures _ _ c.told-losses _ c.requires.well_value.0 c.in_use.ensures c.down_flows.ensures in
    let pumped : to_z w64 (of_z w64 c.with_pumped-well_pumped.result) ≡ c.args.well_loss +ℤ pos (c.args.terms.rate * c.args.terms.dt) =
    back _ c.with_pumped-well_pumped.type_inv ∙ rw (to_z-of_z loss_fits) at c.with_pumped-well_pumped.ensures in
    let kept = before_made _ p c.args.work.now.before c.sweep.new.before c.told-losses s.long.3 s.before c.sweep.ensures.before_after in
    record {
      answer = swept_made _ p e pumped (to_z-of_z inflow_fits) c.sweep.ensures.value;
      losses = losses_made _ p c.sweep.new.losses e c.told-losses c.sweep.ensures.losses_after;
      kept = kept;
      scratch = scratch_again _ p d
          (conductances_again _ p c.drawdowns.new.depths d c.args.work.now.faces.conductances c.in_use.new.conductances s.long.1 s.conductances c.in_use.ensures)
          w c.told-losses kept;
    }
