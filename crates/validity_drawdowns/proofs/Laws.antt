-- What the comparison of 10 and 11 says of D.
use Rattle.std.proofs.Common.{◌≡◌, ℕ, ◌+◌, ◌*◌, ◌/◌, ◌^◌, ◌<◌, arith, leb, ltb, ℤ, pos, nat_abs, ◌≤ℤ◌, le-leb, leb-true, lt-ltb, ltb-true, to_z-of_z, Bool, ◌&&◌, List, [], ◌∷◌, refl, ap, ◌∙◌, get_or, zero-add}
use Rattle.std.proofs.Math.Nat.{le-div_iff_mul-le}
use Rattle.laws.specs.Integer.{natural}
use Rattle.laws.specs.Rows.{same_test}
use Rattle.validity_drawdowns.specs.Drawdowns.{deeper}

pub deeper_is : (limit storage : ℕ) (v : ℤ) → 0 < storage → pos 0 ≤ℤ v → leb ((limit + 1) * storage) (nat_abs v * 1000000) ≡ deeper limit storage v
unfolding deeper
deeper_is limit storage v some h = rw (natural h) (go (nat_abs v))
  where
    go : (n : ℕ) → leb ((limit + 1) * storage) (n * 1000000) ≡ ltb limit (n * 10 ^ 6 / storage)
    go n = same_test _ _
        (λ e. lt-ltb limit (n * 10 ^ 6 / storage) (omega (arith, (le-div_iff_mul-le {k = storage} {x = limit + 1} {y = n * 10 ^ 6} some).1 (leb-true _ _ e))))
        (λ e. le-leb ((limit + 1) * storage) (n * 1000000) ((le-div_iff_mul-le {k = storage} {x = limit + 1} {y = n * 10 ^ 6} some).0 (omega (arith, ltb-true limit (n * 10 ^ 6 / storage) e))))

pub ruleset depths = (deeper_is, to_z-of_z)
