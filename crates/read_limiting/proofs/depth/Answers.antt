-- `read_limiting::depth`: V and S that stand in the slot.
use Rattle.std.proofs.Common.{arith, rules, get_or}
use Rattle.std.proofs.lemmas.Int.{to_z-of_z}
use lib.IntN.{pos}
use mir.Syntax.{w64}
use mir.Val.{SFits}
use Rattle.step_drawdowns.specs.Drawdowns.{depth_at}
use Rattle.read_limiting.proofs.depth.Goals as goal

pub drawdown-requires : goal.drawdown-requires
unfolding depth_at
drawdown-requires c =
    let f : SFits w64 (get_or c.args.losses.now c.args.k (pos 0)) = search rules in
    rw (to_z-of_z w64 (get_or c.args.losses.now c.args.k (pos 0)) f) (c.requires.1.loss c.args.k (omega arith), c.requires.1.depth c.args.k (omega arith))

pub returns : goal.returns
unfolding depth_at
returns c =
    let f : SFits w64 (get_or c.args.losses.now c.args.k (pos 0)) = search rules in
    rw (to_z-of_z w64 (get_or c.args.losses.now c.args.k (pos 0)) f) at c.drawdown.ensures
