-- A turn gives back one loss.
use Rattle.std.proofs.Common.{sym, pos, get_or, SFits, to_z-of_z, w64, rules}
use Rattle.laws.specs.Fill.{fill_none, fill_more}
use Rattle.step_judged.proofs.restore.Goals as goal

pub loop-k-init : goal.loop-k-init
loop-k-init c = sym (fill_none _ _)

pub loop-k-preserved : goal.loop-k-preserved
loop-k-preserved c =
    let fits : SFits w64 (get_or c.args.before.now c.loop-k.k (pos 0)) = search rules in
    fill_more (λ j. get_or c.args.before.now j (pos 0)) c.args.losses.now c.loop-k.k c.loop-k.invariant (to_z-of_z fits)
