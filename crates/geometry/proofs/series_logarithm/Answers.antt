-- `geometry::series_logarithm`: z is at most 2^29 and above 0.
use Rattle.std.proofs.Common.{◌≡◌, ap, ℕ, ◌*◌, ◌^◌, ◌≤◌, ◌<◌, arith}
use Rattle.std.proofs.Math.Nat.{div-le_of_le-mul}
use Rattle.geometry.specs.Geometry.{ratio, series_logarithm, logarithm_of_three}
use Rattle.geometry.proofs.Laws.{ratio_small, series_above, series_most, square_at_most}
use Rattle.geometry.proofs.series_logarithm.Goals as goal

pub overflow_mul-z-2 : goal.overflow_mul-z-2
unfolding ratio
overflow_mul-z-2 c = record { fits = omega (arith, square_at_most (2 ^ 29) (ratio_small c.args.p c.args.q (omega arith) (omega arith))) }

pub series-requires : goal.series-requires
unfolding ratio
series-requires c =
    let h : ratio c.args.p c.args.q ≤ 2 ^ 29 = ratio_small c.args.p c.args.q (omega arith) (omega arith) in
    (h, div-le_of_le-mul (2 ^ 30) (omega (arith, square_at_most (2 ^ 29) h)))

bounds : {n p q : ℕ} → n ≡ series_logarithm p q → q < p → p ≤ 3 * q → p ≤ 4000000 → (0 < n) × (n ≤ logarithm_of_three)
bounds {n} {p} {q} e h near r = (omega (arith, series_above p q h r), omega (arith, series_most p q h near))

pub returns : goal.returns
unfolding series_logarithm ratio
returns c =
    let e : 2 * c.series.result ≡ series_logarithm c.args.p c.args.q = ap (λ n. 2 * n) c.series.ensures.0 in
    let within = bounds e (omega arith) (omega arith) (omega arith) in
    (e, within.0, within.1)
