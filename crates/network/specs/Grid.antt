-- The grid of 01 as a network: layers of cylindrical columns around the well.
-- Layers count from 0 at the top (01's layer is one more). Columns count as in 01: column 0 is the well, columns 1 to m−1 store water,
-- and column m is the last, at constant head.
use Rattle.std.specs.Prelude.{Bool, cond, ℕ, zero, suc, ◌+◌, ◌*◌, ◌-◌, ltb}
use mathlib.Core.List.{List, [], ◌∷◌, ◌++◌, map, flat_map}
use Rattle.laws.specs.Lists.{range}
use Rattle.network.specs.Network.{Rule, Face, Network}

pub record Grid : Type 0 where
  pub layers : ℕ  -- how many
  pub columns : ℕ  -- m, how many
  pub screened : ℕ → Bool  -- of a layer
  pub across : ℕ → ℕ → ℕ  -- C of layer i between columns j and j+1; j = 0 is the well's, in a screened layer
  pub down : ℕ → ℕ → ℕ  -- C of column j between layers i and i+1; from layer 1 the value at s = 0 (N6)
  pub storage : ℕ → ℕ → ℕ  -- S of the cell of layer i, column j
  pub well_storage : ℕ  -- S of the well
  pub thickness : ℕ  -- b_1, mm
  pub area : ℕ → ℕ  -- A_j of column j, mm²
  pub kv₁ : ℕ  -- Kv_1, nm/s
  pub b₂ : ℕ  -- b_2, mm
  pub kv₂ : ℕ  -- Kv_2, nm/s
  pub intake : ℕ  -- p, mm

-- the stored columns 1 to m−1
unfoldable pub stored_columns : Grid → List ℕ
stored_columns G = range 1 (G.columns - 1)

-- the layers, and those that have one below
unfoldable pub layers_of : Grid → List ℕ
layers_of G = range 0 G.layers

unfoldable pub upper_layers : Grid → List ℕ
upper_layers G = range 0 (G.layers - 1)

-- how many places: the well and the cells of the stored columns
unfoldable pub place_count : Grid → ℕ
place_count G = 1 + G.layers * (G.columns - 1)

-- the number of a place, as in a set's bytes: well first, then cells by layer, then column; the last column has the first number that is no place
unfoldable pub place : Grid → ℕ → ℕ → ℕ
place G i zero = 0
place G i (suc r) = cond (ltb (suc r) G.columns) (1 + i * (G.columns - 1) + r) (place_count G)

-- a list with one entry for each place in that order: the well's, then f i j of each cell
unfoldable pub one_per_place : {A : Type 0} → Grid → A → (ℕ → ℕ → A) → List A
one_per_place G well f = well ∷ flat_map (λ i. map (f i) (stored_columns G)) (layers_of G)

-- what C in use goes by within layer i, and between layers i and i+1 of column j
unfoldable pub across_rule : ℕ → Rule
across_rule zero = Rule.unconfined
across_rule (suc i) = Rule.fixed

unfoldable pub down_rule : Grid → ℕ → ℕ → Rule
down_rule G zero j = Rule.table (G.area j) G.kv₁ G.b₂ G.kv₂
down_rule G (suc i) j = Rule.fixed

-- the face of layer i between columns j and j+1
unfoldable pub across_face : Grid → ℕ → ℕ → Face
across_face G i j = record { one = place G i j; two = place G i (suc j); conductance = G.across i j; rule = across_rule i }

-- the face of column j between layers i and i+1
unfoldable pub down_face : Grid → ℕ → ℕ → Face
down_face G i j = record { one = place G i j; two = place G (suc i) j; conductance = G.down i j; rule = down_rule G i j }

-- the well's face with a layer, if that is screened
unfoldable pub screen_faces : Grid → ℕ → List Face
screen_faces G i = cond (G.screened i) (across_face G i 0 ∷ []) []

-- every pair that a C rule joins
unfoldable pub faces_of : Grid → List Face
faces_of G =
    flat_map (λ i. screen_faces G i ++ map (across_face G i) (stored_columns G)) (layers_of G)
    ++ flat_map (λ i. map (down_face G i) (stored_columns G)) (upper_layers G)

-- the grid's places, faces and numbers as a network
unfoldable pub network_of : Grid → Network
network_of G = record {
  places = place_count G;
  faces = faces_of G;
  storages = one_per_place G G.well_storage G.storage;
  thickness = G.thickness;
  table = map (place G 0) (stored_columns G);
  intake = G.intake;
}
