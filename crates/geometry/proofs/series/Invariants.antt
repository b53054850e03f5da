-- `geometry::series`: the sum so far and the terms that are left make up the whole sum.
use Rattle.std.proofs.Common.{◌≡◌, ◌+◌, ◌*◌, ◌-◌, ◌^◌, ◌≤◌}
use Rattle.geometry.specs.Geometry.{terms}
use Rattle.geometry.proofs.series.Given as goal

abbrev pub invariant-loop-k : goal.invariant-loop-k
invariant-loop-k l = (l.t ≤ 2 ^ 29) × (l.sum ≤ l.k * 2 ^ 29) × (l.sum + terms (16 - l.k) l.w l.k l.t ≡ terms 16 l.w 0 l.z)
