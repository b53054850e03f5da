-- `validity_totals::loss_slots_hold`: every slot before the loop's place holds what it may.
use Rattle.std.proofs.Common.{SFits, to_z-of_z, rules, ◌≡◌, sym, ◌∙◌, arith, pos, get_or, w64}
use Rattle.laws.specs.All.{all_none, all_more, all_fails}
use Rattle.validity_totals.specs.Totals.{loss_slot_holds, loss_slots_hold}
use Rattle.validity_totals.proofs.loss_slots_hold.Goals as goal

pub loop-k-init : goal.loop-k-init
loop-k-init c = all_none _

pub returns-then-not-loss_slot_holds : goal.returns-then-not-loss_slot_holds
unfolding loss_slots_hold
returns-then-not-loss_slot_holds c =
    let r = c.args.rec.now in
    let k = c.loop-k.k in
    let fits : SFits w64 (get_or r.losses k (pos 0)) = search rules in
    let test : c.loss_slot_holds.result ≡ loss_slot_holds r.site.layers r.site.columns k (get_or r.losses k (pos 0)) = rw (to_z-of_z fits) at c.loss_slot_holds.ensures in
    sym (all_fails _ 1000 k (omega arith) (sym test ∙ c.if-not-loss_slot_holds.true))

pub loop-k-preserved : goal.loop-k-preserved
loop-k-preserved c =
    let r = c.args.rec.now in
    let k = c.loop-k.k in
    let fits : SFits w64 (get_or r.losses k (pos 0)) = search rules in
    let test : c.loss_slot_holds.result ≡ loss_slot_holds r.site.layers r.site.columns k (get_or r.losses k (pos 0)) = rw (to_z-of_z fits) at c.loss_slot_holds.ensures in
    all_more _ k c.loop-k.invariant (sym test ∙ c.if-not-loss_slot_holds.false)

pub returns : goal.returns
unfolding loss_slots_hold
returns c =
    let e : c.loop-k.k ≡ 1000 = omega arith in
    sym (rw e at c.loop-k.invariant)
