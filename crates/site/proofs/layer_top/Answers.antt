-- `site::layer_top` meets its contract: the depth is the sum of the layers above, at most 10^6 mm a layer.
use Rattle.std.proofs.Common.{◌≡◌, ◌∙◌, ◌<◌, ◌≤◌, ◌*◌, arith, rules, sum, take}
use Rattle.std.proofs.iter.runs.Made.{chains}
use Rattle.site.specs.Laws.{counts_hold_lem, numbers_hold_lem}
use Rattle.site.specs.Site.{layer_top}
use Rattle.site.proofs.Laws.{top_sum, top_most}
use Rattle.site.proofs.layer_top.Goals as goal

pub shared_ref_as_front-iter : goal.shared_ref_as_front-iter
shared_ref_as_front-iter c = let counts = counts_hold_lem _ c.requires.0 in omega arith

pub sum-requires-clause-fits : goal.sum-requires-clause-fits
sum-requires-clause-fits c =
    let counts = counts_hold_lem _ c.requires.0 in
    let most : layer_top c.args.site.thickness c.args.layer ≤ 1000000 * c.args.layer = top_most _ _ (λ i h. ((numbers_hold_lem _ c.requires.1).layer i (omega arith)).thickness_most) in
    let few : sum (take c.args.layer c.args.site.thickness) < 18446744073709551616 = rw (top_sum c.args.site.thickness c.args.layer) (omega arith) in
    search (rules, chains)

pub returns : goal.returns
returns c =
    let e : c.sum.result ≡ sum (take c.args.layer c.args.site.thickness) = search (rules, chains) in
    let depth : c.sum.result ≡ layer_top c.args.site.thickness c.args.layer = e ∙ top_sum c.args.site.thickness c.args.layer in
    (depth, rw depth (top_most _ _ (λ i h. ((numbers_hold_lem _ c.requires.1).layer i (omega arith)).thickness_most)))
