-- `pipe::velocity_at` meets its contract: v of E.
use Rattle.std.proofs.Common.{ap, ◌∙◌}
use Rattle.site.specs.Laws.{counts_hold_lem}
use Rattle.hydraulics.specs.Hydraulics.{velocity}
use Rattle.pipe.specs.Pipe.{velocity_at}
use Rattle.pipe.specs.Laws.{radius_small}
use Rattle.pipe.proofs.velocity_at.Goals as goal

pub added-requires : goal.added-requires
added-requires c = let h = c.requires in ((counts_hold_lem _ h.counts).layers_most, h.layer, h.screened)

pub velocity-requires : goal.velocity-requires
velocity-requires c = radius_small _ _ c.requires

pub returns : goal.returns
unfolding velocity_at
returns c = c.velocity.ensures ∙ ap (λ x. velocity x c.args.site.well_radius) c.added.ensures
