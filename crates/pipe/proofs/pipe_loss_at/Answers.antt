-- `pipe::pipe_loss_at` meets its contract.
use Rattle.std.proofs.Common.{◌≡◌, ap, ◌∙◌, arith, pos}
use Rattle.hydraulics.specs.Hydraulics.{millionths, pipe_loss}
use Rattle.pipe.specs.Pipe.{velocity_at, velocity_above, pipe_loss_at}
use Rattle.pipe.specs.Asked.{e_of}
use Rattle.pipe.specs.Laws.{layer_small, radius_small, friction_small}
use Rattle.pipe.proofs.Laws.{above_screened, velocity_of_above}
use Rattle.pipe.proofs.pipe_loss_at.Goals as goal

pub upward_from-up-requires : goal.upward_from-up-requires
upward_from-up-requires c = omega (arith, layer_small _ _ c.requires)

pub pipe_loss-requires : goal.pipe_loss-requires
pipe_loss-requires c = let h = c.requires in (friction_small _ _ h, omega (arith, c.twice_distance-distance.ensures.1), radius_small _ _ h)

pub velocity_at-above-requires : goal.velocity_at-above-requires
velocity_at-above-requires c = above_screened _ _ c.requires c.upward_from-up.ensures c.unwrap_or.ensures

pub returns : goal.returns
unfolding pipe_loss_at
returns c =
    let s = c.args.site in
    let e = e_of c.args.inflows.now in
    let above : c.velocity_at-above.result ≡ velocity_above s e c.args.layer c.upward_from-up.result
    = c.velocity_at-above.ensures ∙ ap (velocity_at s e) c.unwrap_or.ensures ∙ velocity_of_above s e c.args.layer c.upward_from-up.result in
    let loss : c.pipe_loss.result ≡ pipe_loss (millionths s.friction) (pos c.twice_distance-distance.result) s.well_radius c.velocity_at-v.result c.velocity_at-above.result = c.pipe_loss.ensures in
    loss ∙ rw (c.twice_distance-distance.ensures.0, c.velocity_at-v.ensures, above, c.upward_from-up.ensures)
