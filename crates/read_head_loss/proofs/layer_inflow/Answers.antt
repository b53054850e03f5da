-- `read_head_loss::layer_inflow` meets its contract.
use Rattle.std.proofs.Common.{◌≡◌, ◌*◌, rules, pos, get_or, w64, SFits}
use Rattle.std.proofs.lemmas.Int.{to_z-of_z}
use Rattle.step_drawdowns.specs.Drawdowns.{depth_of}
use Rattle.read_head_loss.specs.Slots.{layer_flow, inflow_at}
use Rattle.read_head_loss.proofs.layer_inflow.Goals as goal

pub crossing-requires-clause-dt_bound : goal.crossing-requires-clause-dt_bound
unfolding layer_flow
crossing-requires-clause-dt_bound c =
    let r = c.args.rec.now in
    let stands : SFits w64 (get_or r.losses (50 * c.args.i) (pos 0)) = search rules in
    rw (rw (to_z-of_z w64 _ stands) at c.drawdown-depth.ensures) c.requires.3.water

pub inflow-requires : goal.inflow-requires
unfolding layer_flow
inflow-requires c =
    let r = c.args.rec.now in
    let stands : SFits w64 (get_or r.losses (50 * c.args.i) (pos 0)) = search rules in
    let depth : pos c.drawdown-depth.result ≡ depth_of (get_or r.losses (50 * c.args.i) (pos 0)) (get_or r.storages (50 * c.args.i) 0) = rw (to_z-of_z w64 _ stands) at c.drawdown-depth.ensures in
    let fits : SFits w64 c.crossing.result = search rules in
    rw (to_z-of_z w64 _ fits, c.crossing.ensures, depth) (c.requires.3.water, c.requires.2)

pub returns : goal.returns
unfolding inflow_at layer_flow
returns c =
    let r = c.args.rec.now in
    let stands : SFits w64 (get_or r.losses (50 * c.args.i) (pos 0)) = search rules in
    let depth : pos c.drawdown-depth.result ≡ depth_of (get_or r.losses (50 * c.args.i) (pos 0)) (get_or r.storages (50 * c.args.i) 0) = rw (to_z-of_z w64 _ stands) at c.drawdown-depth.ensures in
    let fits : SFits w64 c.crossing.result = search rules in
    rw (to_z-of_z w64 _ fits, c.crossing.ensures, depth) at c.inflow.ensures
