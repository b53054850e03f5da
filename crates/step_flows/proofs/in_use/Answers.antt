-- `step_flows::in_use` meets its contract: after k turns the first k slots are reduced.
use Rattle.std.proofs.Common.{refl, sym, map, arith, pos}
use Rattle.laws.specs.Fill.{fill_none}
use Rattle.step_flows.specs.Flows.{reduced_at}
use Rattle.laws.specs.Words.{words_more}
use Rattle.step_flows.proofs.in_use.Goals as goal

pub loop-k-init : goal.loop-k-init
loop-k-init c = (refl, sym (fill_none _ _))

pub loop-k-preserved : goal.loop-k-preserved
unfolding reduced_at
loop-k-preserved c =
    let at = c in
    let a = at.args in (
      omega arith,
      words_more (reduced_at a.thickness a.horizontal.now a.depths.now) (map pos a.conductances.now) at.loop-k.conductances at.loop-k.k at.loop-k.invariant.1 c.reduced.ensures,
    )
