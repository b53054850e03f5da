-- What refusal 14 asks of losses, totals, time and drawdowns, which a step moves, and what the laws of a step ask of a network. What 14 asks of the mark, which
-- a step raises (N1), is not among it: `validity` Laws has it as Marked.
use Rattle.std.specs.Prelude.{◌≡◌, false, ◌⊎◌, ℕ, ◌*◌, ◌≤◌, ◌<◌, pos, ◌+ℤ◌, ◌≤ℤ◌, length}
use mathlib.Core.List.{Memᴰ}
use Rattle.limits.specs.Limits.{total_limit, drawdown_limit}
use Rattle.geometry.specs.Geometry.{from_table}
use Rattle.network.specs.Network.{Rule, Face, Network, State, is_place, loss_at, storage_at, drawdown, loss_in, well_too_deep, table_too_deep}

-- p is in layer 1 or in the last column
abbrev pub OnTable : Network → ℕ → Type 0
OnTable N p = Memᴰ p N.table ⊎ (N.places ≤ p)

-- what is asked of a face by its rule: an unconfined one is within layer 1, or from it to the last column; one between layers 1 and 2 begins in layer 1,
-- and its C is the value at s = 0, where b_2 is above 0
abbrev pub OfUnconfined : Network → Face → Type 0
OfUnconfined N f = f.rule ≡ Rule.unconfined → OnTable N f.one × OnTable N f.two

abbrev pub OfTable : Network → Face → Type 0
OfTable N f = (a kv₁ b₂ kv₂ : ℕ) → f.rule ≡ Rule.table a kv₁ b₂ kv₂ → OnTable N f.one × (0 < b₂) × (f.conductance ≡ from_table a kv₁ b₂ kv₂ 0)

-- A network on which steps can be taken: the well is a place, every place stores water, the intake is no deeper than a D may be, and every face is as its
-- rule asks.
pub record Proper (N : Network) : Type 0 where
  pub well : 0 < N.places
  pub storages : (p : ℕ) → p < N.places → 0 < storage_at N p
  pub intake : 1000 * N.intake ≤ drawdown_limit
  pub unconfined : (f : Face) → Memᴰ f N.faces → OfUnconfined N f
  pub table : (f : Face) → Memᴰ f N.faces → OfTable N f

-- A state in its limits: one loss for each place; losses and inflow not negative, adding up to the pumped total; totals and every D within bounds.
pub record Kept (N : Network) (s : State) : Type 0 where
  pub listed : length s.losses ≡ N.places
  pub losses : (p : ℕ) → p < N.places → pos 0 ≤ℤ loss_at s.losses p
  pub inflow : pos 0 ≤ℤ s.inflow
  pub budget : loss_in N (is_place N) s.losses +ℤ s.inflow ≡ pos s.pumped
  pub pumped : s.pumped ≤ total_limit
  pub time : s.time ≤ total_limit
  pub well : well_too_deep N s.losses ≡ false
  pub table : table_too_deep N s.losses ≡ false
  pub depths : (p : ℕ) → p < N.places → drawdown N s.losses p ≤ℤ pos drawdown_limit
