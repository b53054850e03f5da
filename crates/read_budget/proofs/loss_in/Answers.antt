-- `read_budget::loss_in` meets its contract: after p turns the first p places are added.
use Rattle.std.proofs.Common.{◌≡◌, ap, ◌∙◌, not, List, ℕ, arith, eqb, ℤ, ◌+ℤ◌, get_or, w64, SFits, to_z, of_z, rules}
use Rattle.std.proofs.lemmas.Int.{to_z-of_z}
use lib.IntN.{+ℤ_idl}
use Rattle.laws.specs.Signed.{room_fits, adding_start, adding_more, adding_done}
use Rattle.laws.specs.Lists.{ifℤ}
use Rattle.read_budget.specs.Counted.{slot_loss, counted_loss}
use Rattle.readings.specs.Readings.{set_of}
use Rattle.read_budget.proofs.loss_in.Goals as goal

-- what a turn adds
adds : (well : ℤ) (losses : List ℤ) (stored : ℕ) (set : List ℕ) (p : ℕ) (x y : ℤ)
    → x ≡ ifℤ (not (eqb (get_or set p 0) 0)) (to_z w64 (of_z w64 y)) → y ≡ slot_loss well losses stored p → SFits w64 x → SFits w64 y
    → to_z w64 (of_z w64 x) ≡ counted_loss well losses stored set p
unfolding counted_loss set_of
adds well losses stored set p x y a b f g = to_z-of_z w64 x f ∙ a ∙ ap (ifℤ (not (eqb (get_or set p 0) 0))) (to_z-of_z w64 y g ∙ b)

pub loop-p-init : goal.loop-p-init
loop-p-init c = rw (to_z-of_z w64 _ c.ranges.well) (adding_start _ c.args.places c.requires.room)

pub overflow_add-sum : goal.overflow_add-sum
overflow_add-sum c =
    let f : SFits w64 c.counted-sum.result = search rules in
    let g : SFits w64 c.loss_of.result = search rules in
    let is = adds (to_z w64 (of_z w64 c.args.well)) c.args.losses.now c.args.stored c.args.set.now c.loop-p.p _ _ c.counted-sum.ensures c.loss_of.ensures f g in
    let more = rw (← is) at (adding_more _ c.loop-p.invariant (omega arith)) in
    room_fits more.room (omega arith)

pub loop-p-preserved : goal.loop-p-preserved
loop-p-preserved c =
    let f : SFits w64 c.counted-sum.result = search rules in
    let g : SFits w64 c.loss_of.result = search rules in
    let is = adds (to_z w64 (of_z w64 c.args.well)) c.args.losses.now c.args.stored c.args.set.now c.loop-p.p _ _ c.counted-sum.ensures c.loss_of.ensures f g in
    let more = rw (← is) at (adding_more _ c.loop-p.invariant (omega arith)) in
    let fits : SFits w64 (to_z w64 c.loop-p.sum-bits +ℤ to_z w64 (of_z w64 c.counted-sum.result)) = room_fits more.room (omega arith) in
    rw (to_z-of_z w64 _ fits) more

pub returns : goal.returns
returns c = rw (to_z-of_z w64 _ c.ranges.well) at (adding_done _ c.loop-p.invariant (omega arith)) ∙ +ℤ_idl _
