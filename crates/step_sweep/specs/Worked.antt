-- One step by slots, all faces from the D at its start: the answer of `work_step`, and what it asks of the arrays that it is lent.
-- Slots are the record's, units the network's.
use Rattle.std.specs.Prelude.{◌≡◌, cond, ◌⊎◌, List, [], ◌∷◌, map, ℕ, ◌+◌, ◌*◌, ◌-◌, ◌%◌, ◌^◌, ◌≤◌, ◌<◌, ℤ, pos, neg_ℤ, nat_abs, ◌+ℤ◌, ◌≤ℤ◌, ltb, length, get_or, replicate}
use Rattle.laws.specs.Fill.{fill}
use Rattle.laws.specs.Lists.{ifℤ, sumℤ, range}
use Rattle.laws.specs.Sums.{Room}
use Rattle.limits.specs.Limits.{rate_limit, length_limit, total_limit, drawdown_limit}
use Rattle.network.specs.Network.{water}
use Rattle.step_drawdowns.specs.Drawdowns.{depth_of, depth_at}
use Rattle.step_flows.specs.Flows.{reduced_c, table_c, Tabled}
use Rattle.step_losses.specs.declared.Swept.{Swept}
use Rattle.step_losses.specs.Losses.{Water, left, upper, changed}
use Rattle.step_sweep.specs.declared.Terms.{Terms}

-- what a step is worked from
pub record Lent : Type 0 where
  pub layers : ℕ  -- how many
  pub columns : ℕ  -- m, how many
  pub thickness : ℕ  -- b_1, mm
  pub kv₁ : ℕ  -- Kv_1, nm/s
  pub b₂ : ℕ  -- b_2, mm
  pub kv₂ : ℕ  -- Kv_2, nm/s
  pub areas : List ℕ  -- A_j, mm², by column
  pub screen : List ℕ  -- C between the well and column 1, by layer
  pub horizontal : List ℕ  -- C between the cell and the next column
  pub vertical : List ℕ  -- C between the cell and the layer below; that of layer 1 is not in use
  pub storages : List ℕ  -- S of the cell
  pub losses : List ℤ  -- V of the cell
  pub well_storage : ℕ  -- S of the well
  pub well_loss : ℤ  -- V of the well
  pub inflow : ℤ  -- inflow total
  pub rate : ℕ
  pub dt : ℕ

-- from what `work_step` is given: the terms, V of the well and the inflow total, the areas, the arrays of the record that it reads, and the losses
abbrev pub lent : Terms → ℤ → ℤ → List ℕ → List ℕ → List ℕ → List ℕ → List ℕ → List ℤ → Lent
lent terms well_loss inflow areas screen horizontal vertical storages losses = record {
  layers = terms.layers;
  columns = terms.columns;
  thickness = terms.thickness;
  kv₁ = terms.kv1;
  b₂ = terms.b2;
  kv₂ = terms.kv2;
  areas = areas;
  screen = screen;
  horizontal = horizontal;
  vertical = vertical;
  storages = storages;
  losses = losses;
  well_storage = terms.well_storage;
  well_loss = well_loss;
  inflow = inflow;
  rate = terms.rate;
  dt = terms.dt;
}

-- how many slots the layers have
abbrev pub slot_count : Lent → ℕ
slot_count a = 50 * a.layers

-- ---- at the start of the step

-- D of the cell of slot k, and of the well
unfoldable pub depth : Lent → ℕ → ℤ
depth a k = depth_at a.losses a.storages k

unfoldable pub well_depth : Lent → ℤ
well_depth a = depth_of a.well_loss a.well_storage

-- C in use of the face between slot k and the next column: reduced in layer 1, of which the slots before the last column come first
unfoldable pub conductance : Lent → ℕ → ℤ
conductance a k =
    cond (ltb (k + 1) a.columns)
    (reduced_c a.thickness (get_or a.horizontal k 0) (depth a k) (depth a (k + 1)))
    (pos (get_or a.horizontal k 0))

-- C in use of the face between slot k and the layer below: between layers 1 and 2, in the same slots, by the water table
unfoldable pub lower_conductance : Lent → ℕ → ℤ
lower_conductance a k =
    cond (ltb (k + 1) a.columns)
    (table_c (get_or a.areas (k + 1) 0) a.thickness a.kv₁ a.b₂ a.kv₂ (depth a k))
    (pos (get_or a.vertical k 0))

-- ---- the water of each face

-- from slot k to the next column
unfoldable pub right : Lent → ℕ → ℤ
right a k = water (conductance a k) (depth a k) (depth a (k + 1)) a.dt

-- from slot k to the layer below, where there is one
unfoldable pub lower : Lent → ℕ → ℤ
lower a k = ifℤ (ltb (k + 50) (slot_count a)) (water (lower_conductance a k) (depth a k) (depth a (k + 50)) a.dt)

-- from the well to column 1 of layer i
unfoldable pub well_flow : Lent → ℕ → ℤ
well_flow a i = water (pos (get_or a.screen i 0)) (well_depth a) (depth a (50 * i)) a.dt

-- all of them
abbrev pub water_of : Lent → Water
water_of a = record { right = right a; lower = lower a; screen = well_flow a }

-- from column m−1 of layer i to the last column
unfoldable pub to_last : Lent → ℕ → ℤ
to_last a i = right a (50 * i + (a.columns - 2))

-- ---- after the step

-- V of slot k; nothing is stored from the last column on
unfoldable pub slot_after : Lent → ℕ → ℤ
slot_after a k = ifℤ (ltb (k % 50 + 1) a.columns) (changed (water_of a) a.losses k)

-- V of the well: ml/s × µs is nl
unfoldable pub well_after : Lent → ℤ
well_after a = a.well_loss +ℤ sumℤ (range 0 a.layers) (well_flow a) +ℤ pos (a.rate * a.dt)

-- the inflow total: water from the last column joins it
unfoldable pub inflow_after : Lent → ℤ
inflow_after a = a.inflow +ℤ sumℤ (range 0 a.layers) (λ i. neg_ℤ (to_last a i))

unfoldable pub worked_of : Lent → Swept
worked_of a = record { well_loss = well_after a; inflow = inflow_after a }

-- and of every cell in its slot
unfoldable pub losses_of : Lent → List ℤ
losses_of a = fill (slot_count a) (slot_after a) (replicate 1000 (pos 0))

-- a slot that no cell uses, in so many layers and columns
abbrev pub Unused : ℕ → ℕ → ℕ → Type 0
Unused layers columns k = (50 * layers ≤ k) ⊎ (columns ≤ k % 50 + 1)

-- ---- what is asked: every number in its limits, and every sum on the way between 0 and the largest total
pub record Workable (a : Lent) : Type 0 where
  pub layers : (2 ≤ a.layers) × (a.layers ≤ 20)
  pub columns : (2 ≤ a.columns) × (a.columns ≤ 50)
  pub thickness : (0 < a.thickness) × (2000 * a.thickness < 2 ^ 64)
  pub tabled : Tabled a.thickness a.kv₁ a.b₂ a.kv₂ a.areas (a.columns - 1)
  pub rate : a.rate ≤ rate_limit
  pub dt : a.dt ≤ length_limit
  pub storages : (k : ℕ) → k < slot_count a → get_or a.storages k 0 < 2 ^ 63
  pub well_storage : a.well_storage < 2 ^ 63
  pub losses : (k : ℕ) → k < slot_count a → pos 0 ≤ℤ get_or a.losses k (pos 0)
  pub depths : (k : ℕ) → k < slot_count a → depth a k ≤ℤ pos drawdown_limit
  pub table : (k : ℕ) → k < a.columns → depth a k ≤ℤ pos (1000 * a.thickness)
  pub well : (pos 0 ≤ℤ a.well_loss) × (well_depth a ≤ℤ pos drawdown_limit)
  pub rights : (k : ℕ) → k + 1 < slot_count a → nat_abs (right a k) ≤ total_limit
  pub lowers : (k : ℕ) → nat_abs (lower a k) ≤ total_limit
  pub screens : (i : ℕ) → i < a.layers → nat_abs (well_flow a i) ≤ total_limit
  pub cell_room : (k : ℕ) → k < slot_count a → k % 50 + 1 < a.columns
      → Room total_limit (get_or a.losses k (pos 0)) (right a k ∷ lower a k ∷ neg_ℤ (left (water_of a) k) ∷ neg_ℤ (upper (water_of a) k) ∷ [])
  pub well_room : Room total_limit a.well_loss (map (well_flow a) (range 0 a.layers))
  pub last_room : Room total_limit a.inflow (map (λ i. neg_ℤ (to_last a i)) (range 0 a.layers))
  -- nothing stands in the slots from the last column on
  pub idle : (k : ℕ) → k < slot_count a → a.columns ≤ k % 50 + 1 → (depth a k ≡ pos 0) × (lower a k ≡ pos 0)
  -- and nothing is lost where there is no cell
  pub unused : (k : ℕ) → k < 1000 → Unused a.layers a.columns k → get_or a.losses k (pos 0) ≡ pos 0

-- ---- what is asked of the arrays worked in, and holds of them again: a slot that no step fills holds 0, and horizontal C in use is C but in layer 1

pub record Scratch (layers columns : ℕ) (horizontal ds cs : List ℕ) (ws vs : List ℤ) : Type 0 where
  -- each list is whole, which a lent array does not say of itself
  pub long : (length ds ≡ 1000) × (length cs ≡ length horizontal) × (length ws ≡ 1000) × (length vs ≡ 1000)
  pub depths : (k : ℕ) → Unused layers columns k → get_or ds k 0 ≡ 0
  pub conductances : (k : ℕ) → columns ≤ k + 1 → get_or cs k 0 ≡ get_or horizontal k 0
  pub down : (k : ℕ) → Unused (layers - 1) columns k → get_or ws k (pos 0) ≡ pos 0
  pub before : (k : ℕ) → Unused layers columns k → get_or vs k (pos 0) ≡ pos 0

-- ---- what `work_step` gives: the answer, the losses after the step, the arrays worked in, and in `vs` what the losses were
pub record Worked (a : Lent) (swept : Swept) (after : List ℤ) (ds cs : List ℕ) (ws vs : List ℤ) : Type 0 where
  pub answer : swept ≡ worked_of a
  pub losses : after ≡ losses_of a
  pub kept : vs ≡ a.losses
  pub scratch : Scratch a.layers a.columns a.horizontal ds cs ws vs
