-- `site::layers_hold`: every layer before the loop's place is within its limits.
use Rattle.std.proofs.Common.{sym, arith}
use Rattle.laws.specs.All.{all_none, all_more, all_fails}
use Rattle.site.specs.Laws.{counts_hold_lem}
use Rattle.site.specs.Site.{layer_at}
use Rattle.site.proofs.Laws.{fails, holds}
use Rattle.site.proofs.layers_hold.Goals as goal

pub loop-i-init : goal.loop-i-init
loop-i-init c = ((counts_hold_lem _ c.requires).layers_most, all_none _)

pub returns-then-not-layer_holds : goal.returns-then-not-layer_holds
unfolding layer_at
returns-then-not-layer_holds c =
    sym (all_fails (layer_at c.args.site) _ c.loop-i.i (omega arith) (fails c.layer_holds.ensures c.if-not-layer_holds.true))

pub loop-i-preserved : goal.loop-i-preserved
unfolding layer_at
loop-i-preserved c =
    (c.loop-i.invariant.0, all_more (layer_at c.args.site) c.loop-i.i c.loop-i.invariant.1 (holds c.layer_holds.ensures c.if-not-layer_holds.false))
