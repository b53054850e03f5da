-- `read_head_loss::losses_at` meets its contract: the three figures, each by its function.
use Rattle.std.proofs.Common.{ap₂, ◌∙◌, ℕ, arith, Float}
use Rattle.hydraulics.specs.Hydraulics.{screen_loss}
use Rattle.read_head_loss.specs.declared.Losses.{Losses}
use Rattle.read_head_loss.specs.HeadLoss.{losses_at}
use Rattle.pipe.specs.Asked.{e_of}
use Rattle.pipe.specs.Laws.{layer_small, thin, radius_small, coefficients_small}
use Rattle.read_head_loss.proofs.losses_at.Goals as goal

pub offset_bounds-inflows-layer : goal.offset_bounds-inflows-layer
offset_bounds-inflows-layer c = omega (arith, layer_small _ _ c.requires)

pub bounds-inflows-layer : goal.bounds-inflows-layer
bounds-inflows-layer c = layer_small _ _ c.requires

pub screen_law-law-requires : goal.screen_law-law-requires
screen_law-law-requires c = coefficients_small _ _ c.requires

pub offset_bounds-site-layer : goal.offset_bounds-site-layer
offset_bounds-site-layer c = omega (arith, layer_small _ _ c.requires)

pub bounds-site-layer : goal.bounds-site-layer
bounds-site-layer c = layer_small _ _ c.requires

pub wall_velocity-y-requires : goal.wall_velocity-y-requires
wall_velocity-y-requires c = (thin _ _ c.requires c.args.layer (omega arith), radius_small _ _ c.requires)

pub returns : goal.returns
unfolding losses_at
returns c =
    let e : ℕ → Float = e_of c.args.inflows.now in
    ap₂ {C = Losses} (λ x y. record { inflow = e c.args.layer; screen_loss = x; pipe_loss = y })
    (c.screen_loss.ensures ∙ ap₂ screen_loss c.screen_law-law.ensures c.wall_velocity-y.ensures)
    c.pipe_loss_at.ensures
