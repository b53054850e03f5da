-- `geometry::series`: the sum so far and the terms that are left make up the whole sum.
use Rattle.std.proofs.Common.{◌≡◌, ◌+◌, ◌*◌, ◌-◌, ◌/◌, ◌^◌, ◌≤◌, div-le_self, arith}
use Rattle.std.proofs.Math.Nat.{div-le_of_le-mul}
use Rattle.geometry.specs.Geometry.{terms}
use Rattle.geometry.proofs.Laws.{one_more, none_left, product_at_most}
use Rattle.geometry.proofs.series.Goals as goal

pub loop-k-preserved : goal.loop-k-preserved
loop-k-preserved c =
    let p : c.loop-k.t * c.args.w ≤ 2 ^ 29 * 2 ^ 28 = product_at_most (2 ^ 29) (2 ^ 28) (omega arith) (omega arith) in
    let q : c.loop-k.t / (2 * c.loop-k.k + 1) ≤ c.loop-k.t = div-le_self _ _ in
    let e = one_more c.args.w c.loop-k.k c.loop-k.t (omega arith) in
    (div-le_of_le-mul (2 ^ 30) (omega arith), omega arith, omega arith)

pub returns : goal.returns
returns c =
    let e : terms (16 - c.loop-k.k) c.args.w c.loop-k.k c.loop-k.t ≡ 0 = none_left _ _ _ (omega arith) in
    (omega arith, omega arith)
