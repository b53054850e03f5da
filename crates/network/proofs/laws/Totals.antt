-- The losses of a state in its limits, as natural numbers.
--     size_is      V of a place, which is not negative
--     all-lost     all places' losses and the inflow are together the pumped total
use Rattle.std.specs.Prelude.{◌≡◌, ℕ, ◌+◌, ◌<◌}
use Rattle.std.proofs.Common.{sym, ap₂, ◌∙◌, lt-ltb}
use Rattle.std.proofs.Math.Path.{ap}
use Rattle.std.proofs.Math.IntN.{pos, nat_abs, ◌+ℤ◌}
use Rattle.laws.specs.Integer.{natural}
use Rattle.laws.specs.Lists.{ifℤ, sumℕ, range}
use Rattle.laws.specs.Sums.{sumℤ_ext, sumℤ_pos, range-below}
use Rattle.network.specs.Network.{Network, State, is_place, loss_at, loss_in}
use Rattle.network.specs.Kept.{Kept}

unfoldable pub size : State → ℕ → ℕ
size s p = nat_abs (loss_at s.losses p)

module _ (N : Network) (s : State) (kept : Kept N s) where
  pub size_is : (p : ℕ) → p < N.places → loss_at s.losses p ≡ pos (size s p)
  unfolding size
  size_is p h = natural (kept.losses p h)

  pub all-lost : sumℕ (range 0 N.places) (size s) + nat_abs s.inflow ≡ s.pumped
  unfolding loss_in is_place ifℤ
  all-lost = ap nat_abs (sym (ap₂ ◌+ℤ◌ total (natural kept.inflow)) ∙ kept.budget)
    where
      total : loss_in N (is_place N) s.losses ≡ pos (sumℕ (range 0 N.places) (size s))
      total = sumℤ_ext (range 0 N.places) (λ p m. rw (lt-ltb p N.places (range-below N.places m)) (size_is p (range-below N.places m))) ∙ sumℤ_pos (range 0 N.places) (size s)
