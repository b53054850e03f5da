-- `geometry::logarithm`: past 3q the series goes on from there, where p is at most 3 times as large again.
use Rattle.std.proofs.Common.{◌≡◌, sym, ap, ◌∙◌, ◌+◌, arith}
use Rattle.geometry.specs.Geometry.{logarithm_of_three, logarithm}
use Rattle.geometry.proofs.Laws.{logarithm_near, logarithm_far}
use Rattle.geometry.proofs.logarithm.Goals as goal

pub returns-then-q-p : goal.returns-then-q-p
returns-then-q-p c =
    let p = c.args.p in
    let q = c.args.q in
    let far : logarithm_of_three + c.series_logarithm.result ≡ logarithm p q = ap (λ n. logarithm_of_three + n) c.series_logarithm.ensures.0 ∙ sym (logarithm_far p q (omega arith)) in
    (far, omega arith)

pub returns : goal.returns
returns c =
    let p = c.args.p in
    let q = c.args.q in
    let near : c.series_logarithm-2.result ≡ logarithm p q = c.series_logarithm-2.ensures.0 ∙ sym (logarithm_near p q (omega arith)) in
    (near, omega arith)
