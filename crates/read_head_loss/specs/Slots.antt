-- The inflow of a layer from what stands in its slots: inner definitions, for the contracts of this crate's functions.
-- What the reading says of places and faces stands in HeadLoss; the proof of `head_loss` joins the two.
use Rattle.std.specs.Prelude.{List, ℕ, ◌*◌, ◌≤◌, Float, ℤ, pos, neg_ℤ, nat_abs, get_or, replicate, ◌≤ℤ◌}
use Rattle.std.specs.Float.{binary64}
use Rattle.std.specs.Float.Ieee.{of_bits}
use Rattle.limits.specs.Limits.{total_limit, drawdown_limit}
use Rattle.network.specs.Network.{water}
use Rattle.step_drawdowns.specs.Drawdowns.{depth_of}
use Rattle.hydraulics.specs.Hydraulics.{inflow_of}

-- water from the well, at drawdown `well`, to a column that has lost v from the storage s
unfoldable pub layer_flow : ℕ → ℕ → ℤ → ℕ → ℕ → ℤ
layer_flow c well v s dt = water (pos c) (pos well) (depth_of v s) dt

-- a loss and a water within their limits
pub record Small (c well : ℕ) (v : ℤ) (s dt : ℕ) : Type 0 where
  pub loss : pos 0 ≤ℤ v
  pub depth : depth_of v s ≤ℤ pos drawdown_limit
  pub water : nat_abs (layer_flow c well v s dt) ≤ total_limit

-- what column 1 of layer i holds
unfoldable pub inflow_at : List ℕ → List ℕ → List ℤ → ℕ → ℕ → ℕ → Float
inflow_at screen storages losses well dt i =
    inflow_of (neg_ℤ (layer_flow (get_or screen i 0) well (get_or losses (50 * i) (pos 0)) (get_or storages (50 * i) 0) dt)) dt

-- e of each layer before any is filled in
unfoldable pub no_inflows : List Float
no_inflows = replicate 20 (of_bits binary64 0)

abbrev pub SmallAt : List ℕ → List ℕ → List ℤ → ℕ → ℕ → ℕ → Type 0
SmallAt screen storages losses well dt i = Small (get_or screen i 0) well (get_or losses (50 * i) (pos 0)) (get_or storages (50 * i) 0) dt
