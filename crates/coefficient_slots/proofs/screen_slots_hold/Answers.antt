-- `coefficient_slots::screen_slots_hold`: every slot before the loop's place holds what it may.
use Rattle.std.proofs.Common.{◌≡◌, sym, ◌∙◌, arith}
use Rattle.laws.specs.All.{all_none, all_more, all_fails}
use Rattle.coefficient_slots.specs.Held.{screen_array_holds}
use Rattle.coefficient_slots.proofs.screen_slots_hold.Goals as goal

pub loop-i-init : goal.loop-i-init
loop-i-init c = all_none _

pub returns-then-not-screen_slot_holds : goal.returns-then-not-screen_slot_holds
unfolding screen_array_holds
returns-then-not-screen_slot_holds c =
    sym (all_fails _ 20 c.loop-i.i (omega arith) (sym c.screen_slot_holds.ensures ∙ c.if-not-screen_slot_holds.true))

pub loop-i-preserved : goal.loop-i-preserved
loop-i-preserved c = all_more _ c.loop-i.i c.loop-i.invariant (sym c.screen_slot_holds.ensures ∙ c.if-not-screen_slot_holds.false)

pub returns : goal.returns
unfolding screen_array_holds
returns c =
    let e : c.loop-i.i ≡ 20 = omega arith in
    sym (rw e at c.loop-i.invariant)
