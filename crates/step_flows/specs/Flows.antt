-- The water of a step's faces by slot: what stands in slot k of each array, from what stands in the arrays that it is made from.
-- Slots are the record's, units the network's.
use Rattle.std.specs.Prelude.{cond, List, ℕ, ◌+◌, ◌*◌, ◌^◌, ◌≤◌, ◌<◌, ltb, ℤ, pos, get_or}
use Rattle.geometry.specs.Geometry.{from_table}
use Rattle.network.specs.Network.{Rule, in_use_by, water}

-- C in use of a horizontal face of layer 1, which is b₁ thick: the network's rule
unfoldable pub reduced_c : ℕ → ℕ → ℤ → ℤ → ℤ
reduced_c b₁ c Da Db = in_use_by b₁ c Rule.unconfined Da Db

unfoldable pub reduced_at : ℕ → List ℕ → List ℕ → ℕ → ℤ
reduced_at b₁ cs ds k = reduced_c b₁ (get_or cs k 0) (pos (get_or ds k 0)) (pos (get_or ds (k + 1) 0))

-- C in use of a face between layers 1 and 2 over area a, where layer 1 is at drawdown D: the network's rule, which asks for no C and for no other D
unfoldable pub table_c : ℕ → ℕ → ℕ → ℕ → ℕ → ℤ → ℤ
table_c a b₁ kv₁ b₂ kv₂ D = in_use_by b₁ 0 (Rule.table a kv₁ b₂ kv₂) D (pos 0)

-- what is asked of the numbers of layers 1 and 2 and of the areas of n columns: their limits, and that C at s = 0 fits a word
pub record Tabled (b₁ kv₁ b₂ kv₂ : ℕ) (areas : List ℕ) (n : ℕ) : Type 0 where
  pub thickness_most : b₁ ≤ 1000000
  pub kv₁_most : kv₁ ≤ 100000000
  pub b₂_least : 0 < b₂
  pub b₂_most : b₂ ≤ 1000000
  pub kv₂_most : kv₂ ≤ 100000000
  pub areas_most : (k : ℕ) → k < n → get_or areas (k + 1) 0 ≤ 2 ^ 44
  pub fits : (k : ℕ) → k < n → from_table (get_or areas (k + 1) 0) kv₁ b₂ kv₂ 0 < 2 ^ 64

-- the water from slot k to the slot that is `ahead` slots after it
unfoldable pub flow_at : List ℕ → List ℕ → ℕ → ℕ → ℕ → ℤ
flow_at cs ds ahead dt k = water (pos (get_or cs k 0)) (pos (get_or ds k 0)) (pos (get_or ds (k + ahead) 0)) dt

-- the water from slot k of layer 1 to layer 2
unfoldable pub table_flow_at : ℕ → ℕ → ℕ → ℕ → List ℕ → List ℕ → ℕ → ℕ → ℤ
table_flow_at b₁ kv₁ b₂ kv₂ areas ds dt k = water (table_c (get_or areas (k + 1) 0) b₁ kv₁ b₂ kv₂ (pos (get_or ds k 0))) (pos (get_or ds k 0)) (pos (get_or ds (k + 50) 0)) dt

-- the water from slot k to the layer below, in so many columns: the slots of layer 1 come first
unfoldable pub down_flow_at : ℕ → ℕ → ℕ → ℕ → List ℕ → List ℕ → List ℕ → ℕ → ℕ → ℕ → ℤ
down_flow_at b₁ kv₁ b₂ kv₂ areas cs ds stored dt k = cond (ltb k stored) (table_flow_at b₁ kv₁ b₂ kv₂ areas ds dt k) (flow_at cs ds 50 dt k)

-- the water from the well, at drawdown `well`, to column 1 of layer i
unfoldable pub screen_at : List ℕ → ℕ → List ℕ → ℕ → ℕ → ℤ
screen_at cs well ds dt i = water (pos (get_or cs i 0)) (pos well) (pos (get_or ds (50 * i) 0)) dt
