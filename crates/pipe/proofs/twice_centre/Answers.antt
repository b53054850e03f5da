-- `pipe::twice_centre` meets its contract.
use Rattle.std.proofs.Common.{ap, ◌+◌, ◌*◌, arith, get_or}
use Rattle.pipe.specs.Pipe.{twice_centre}
use Rattle.pipe.specs.Laws.{layer_small, thin}
use Rattle.pipe.proofs.twice_centre.Goals as goal

pub overflow_mul-result : goal.overflow_mul-result
overflow_mul-result c = omega (arith, c.layer_top.ensures.1, layer_small _ _ c.requires)

pub offset_bounds-site-layer : goal.offset_bounds-site-layer
offset_bounds-site-layer c = omega (arith, layer_small _ _ c.requires)

pub bounds-site-layer : goal.bounds-site-layer
bounds-site-layer c = omega (arith, layer_small _ _ c.requires)

pub overflow_add-result : goal.overflow_add-result
overflow_add-result c = omega (arith, c.layer_top.ensures.1, layer_small _ _ c.requires, thin _ _ c.requires c.args.layer (omega arith))

pub returns : goal.returns
unfolding twice_centre
returns c =
    let top = c.layer_top.ensures in
    (ap (λ d. 2 * d + get_or c.args.site.thickness c.args.layer 0) top.0, omega (arith, top.1, layer_small _ _ c.requires, thin _ _ c.requires c.args.layer (omega arith)))
