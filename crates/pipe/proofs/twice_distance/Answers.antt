-- `pipe::twice_distance` meets its contract: the intake and the next screened layer lie above the layer's centre.
use Rattle.std.proofs.Common.{sym, ◌∙◌, arith}
use Rattle.laws.specs.Integer.{diff_le}
use Rattle.pipe.specs.Pipe.{twice_distance}
use Rattle.pipe.specs.Laws.{intake_small}
use Rattle.pipe.proofs.Laws.{intake_above, layer_above}
use Rattle.pipe.proofs.twice_distance.Goals as goal

pub overflow_mul-result : goal.overflow_mul-result
overflow_mul-result c = omega (arith, intake_small _ _ c.requires.0)

pub overflow_sub-result : goal.overflow_sub-result
overflow_sub-result c = omega (arith, intake_above _ _ c.requires.0, c.twice_centre-centre.ensures.0)

pub twice_centre-requires : goal.twice_centre-requires
twice_centre-requires c = (layer_above _ _ c.requires.0 _ (c.requires.1 ∙ c.in-Some.is)).0

pub overflow_sub-result-in-Some : goal.overflow_sub-result-in-Some
overflow_sub-result-in-Some c =
    let above = (layer_above _ _ c.requires.0 _ (c.requires.1 ∙ c.in-Some.is)).1 in
    omega (arith, above, c.twice_centre.ensures.0, c.twice_centre-centre.ensures.0)

pub returns-in-None : goal.returns-in-None
unfolding twice_distance
returns-in-None c =
    let centre = c.twice_centre-centre.ensures in
    rw (c.in-None.is, ← centre.0) (sym (diff_le _ _ (rw (← centre.0) at (intake_above _ _ c.requires.0))), omega (arith, centre.1))

pub returns-in-Some : goal.returns-in-Some
unfolding twice_distance
returns-in-Some c =
    let centre = c.twice_centre-centre.ensures in
    let above = (layer_above _ _ c.requires.0 _ (c.requires.1 ∙ c.in-Some.is)).1 in
    rw (c.in-Some.is, ← centre.0, ← c.twice_centre.ensures.0) (sym (diff_le _ _ (rw (← centre.0, ← c.twice_centre.ensures.0) at above)), omega (arith, centre.1))
