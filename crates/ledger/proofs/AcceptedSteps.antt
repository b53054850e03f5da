-- The accepted steps of a run: laws only, nothing to believe.
--     Steps N s ts s'    the accepted steps ts lead from the state s to s'
--     conserved_over     they conserve water
--     one_more           one accepted step more; greatest_more: the largest D that the well has had is raised by it, or stays
use Rattle.std.proofs.Common.{◌≡◌, ℕ, ◌*◌, Bool, List, [], ◌∷◌, ◌++◌, ℤ, pos, ◌+ℤ◌, ◌-ℤ◌, neg_ℤ, sym, ap, ◌∙◌}
use lib.IntN.{+ℤ_idr, neg_ℤ-+ℤ}
use Rattle.laws.specs.Integer.{+ℤ_swap, regroup, larger_assoc, larger_comm}
use Rattle.laws.specs.Lists.{larger, ifℤ, sumℕ, sumℤ}
use Rattle.laws.specs.Sums.{ifℤ_add, ifℤ_pos, ifℕ_zero}
use Rattle.network.specs.Network.{Network, State, drawdown, flow, inward, loss_in, moved, refusal}
use Rattle.network.proofs.laws.Ends.{Inside}
use Rattle.network.proofs.laws.Conserve.{conserved}
use Rattle.ledger.specs.Ledger.{Accepted, pumped_by, net_into, greatest}

pub data Steps (N : Network) : State → List Accepted → State → Type 0 where
  none : {s : State} → Steps N s [] s
  more : {s s' : State} {rate dt : ℕ} {ts : List Accepted} → refusal N s rate dt ≡ 0 → Steps N (moved N s rate dt) ts s'
      → Steps N s (record { before = s; rate = rate; dt = dt } ∷ ts) s'

-- ---- conservation
module _ (N : Network) (A : ℕ → Bool) where
  -- what accepted steps add to the storage loss of a set
  unfoldable pub gained : List Accepted → ℤ
  gained ts = ifℤ (A 0) (pos (pumped_by ts)) -ℤ net_into N A ts

  gained_none : gained [] ≡ pos 0
  unfolding gained pumped_by net_into sumℕ sumℤ
  gained_none = rw (ifℤ_pos (A 0) 0, ifℕ_zero (A 0))

  gained_more : (t : Accepted) (ts : List Accepted)
      → gained (t ∷ ts) ≡ (ifℤ (A 0) (pos (t.rate * t.dt)) -ℤ inward N A (flow N t.before.losses t.dt)) +ℤ gained ts
  unfolding gained pumped_by net_into sumℕ sumℤ
  gained_more t ts =
      ap (λ z. z -ℤ net_into N A (t ∷ ts)) (ifℤ_add (A 0) (pos (t.rate * t.dt)) (pos (pumped_by ts)))
      ∙ apart (ifℤ (A 0) (pos (t.rate * t.dt))) (ifℤ (A 0) (pos (pumped_by ts))) (inward N A (flow N t.before.losses t.dt)) (net_into N A ts)
    where
      apart : (a b c d : ℤ) → (a +ℤ b) -ℤ (c +ℤ d) ≡ (a -ℤ c) +ℤ (b -ℤ d)
      apart a b c d = rw (neg_ℤ-+ℤ c d) (+ℤ_swap a b (neg_ℤ c) (neg_ℤ d))

  pub conserved_over : Inside N A → {s s' : State} {ts : List Accepted} → Steps N s ts s' → loss_in N A s'.losses ≡ loss_in N A s.losses +ℤ gained ts
  unfolding moved
  conserved_over inside (none {s}) = sym (rw gained_none (+ℤ_idr (loss_in N A s.losses)))
  conserved_over inside (more {s} {s'} {rate} {dt} {ts} e rest) =
      conserved_over inside rest
      ∙ ap (λ z. z +ℤ gained ts) (conserved N A inside s.losses rate dt)
      ∙ rw (gained_more (record { before = s; rate = rate; dt = dt }) ts)
      (turn (loss_in N A s.losses) (ifℤ (A 0) (pos (rate * dt))) (inward N A (flow N s.losses dt)) (gained ts))
    where
      turn : (a b c d : ℤ) → (a +ℤ b -ℤ c) +ℤ d ≡ a +ℤ ((b -ℤ c) +ℤ d)
      turn a b c d = simp regroup

-- ---- one accepted step more
module _ (N : Network) (rate dt : ℕ) where
  pub one_more : {s s' : State} {ts : List Accepted} → Steps N s ts s' → refusal N s' rate dt ≡ 0
      → Steps N s (ts ++ (record { before = s'; rate = rate; dt = dt } ∷ [])) (moved N s' rate dt)
  one_more none e = more e none
  one_more (more d rest) e = more d (one_more rest e)

  -- the largest D that the well has had is raised by it, or stays
  pub greatest_more : (s : State) (ts : List Accepted)
      → larger (greatest N ts) (drawdown N (moved N s rate dt).losses 0) ≡ greatest N (ts ++ (record { before = s; rate = rate; dt = dt } ∷ []))
  unfolding greatest
  greatest_more s [] = larger_comm _ _
  greatest_more s (t ∷ ts) = larger_assoc _ _ _ ∙ ap (larger (drawdown N (moved N t.before t.rate t.dt).losses 0)) (greatest_more s ts)
