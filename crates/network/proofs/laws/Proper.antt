-- The faces of a grid, one by one; a grid's network is proper.
use Rattle.std.proofs.Math.Path.{◌≡◌, subst}
use Rattle.std.specs.Prelude.{refl, Bool, cond, ◌⊎◌}
use Rattle.std.proofs.Common.{sym, ◌∙◌, true≢false, le_refl, arith}
use Rattle.std.proofs.Math.Bool.{true, false}
use Rattle.std.proofs.Math.Logic.{inl, inr, ⊎_elim}
use mathlib.Core.List.Memᴰ
use mathlib.Core.List.{List, [], ◌∷◌, ◌++◌, map, flat_map, Memᴰ}
use Prim.Native.Nat.{ℕ, zero, suc, ◌+◌, ◌*◌, ◌-◌, ◌≤◌, ◌<◌, zero-le}
use Rattle.std.proofs.Math.Decide.{dec_lt}
use Rattle.laws.specs.Sums.{mem_range, range_mem, range-below, mem_flat_map, flat_map_mem}
use Rattle.limits.specs.Limits.{drawdown_limit}
use Rattle.geometry.specs.Geometry.{from_table}
use Rattle.network.specs.Network.{Face, storage_at}
use Rattle.network.specs.Grid.{Grid, stored_columns, layers_of, upper_layers, place_count, place, one_per_place, across_rule, down_rule, across_face, down_face, screen_faces, faces_of, network_of}
use Rattle.network.specs.Kept.{OnTable, OfUnconfined, OfTable, Proper}
use Rattle.network.proofs.laws.Cells.{joined}
use Rattle.network.proofs.laws.Places.{place-last, by_place, get_or_one}

module _ (G : Grid) where
  abbrev layer_faces : ℕ → List Face
  layer_faces i = screen_faces G i ++ map (across_face G i) (stored_columns G)

  abbrev lower_faces : ℕ → List Face
  lower_faces i = map (down_face G i) (stored_columns G)

  -- the faces that there are

  pub across_mem : (i j : ℕ) → i < G.layers → j < G.columns → joined G i j ≡ true → Memᴰ (across_face G i j) (faces_of G)
  unfolding faces_of screen_faces stored_columns layers_of joined
  across_mem i j h k e = Memᴰ.append_left (flat_map lower_faces (upper_layers G)) (mem_flat_map layer_faces (mem_range G.layers zero-le (omega arith)) (go j k e))
    where
      go : (j : ℕ) → j < G.columns → joined G i j ≡ true → Memᴰ (across_face G i j) (layer_faces i)
      go zero k e = Memᴰ.append_left {s = screen_faces G i} (map (across_face G i) (stored_columns G)) (rw e (Memᴰ.head refl))
      go (suc r) k e = Memᴰ.append_right (screen_faces G i) (Memᴰ.map (across_face G i) (mem_range (G.columns - 1) (omega arith) (omega arith)))

  pub down_mem : (i j : ℕ) → suc i < G.layers → 0 < j → j < G.columns → Memᴰ (down_face G i j) (faces_of G)
  unfolding faces_of stored_columns upper_layers
  down_mem i j h u v =
      Memᴰ.append_right (flat_map layer_faces (layers_of G))
      (mem_flat_map lower_faces (mem_range (G.layers - 1) zero-le (omega arith)) (Memᴰ.map (down_face G i) (mem_range (G.columns - 1) u (omega arith))))

  -- columns of layer 1 and the last column
  pub on_table : (j : ℕ) → 0 < j → OnTable (network_of G) (place G 0 j)
  unfolding network_of stored_columns
  on_table zero h = absurd (omega arith)
  on_table (suc r) h = elim (dec_lt (suc r) G.columns) [
    | yes k ↦ inl (Memᴰ.map (place G 0) (mem_range (G.columns - 1) h (omega arith)))
    | no k ↦ inr (rw (place-last G 0 r (omega arith)) (le_refl (place_count G)))
  ]

  -- what is asked of a face, asked of each kind that the grid has
  every_face : (P : Face → Type 0) → ((i : ℕ) → i < G.layers → G.screened i ≡ true → P (across_face G i 0)) → ((i j : ℕ) → i < G.layers → 0 < j → j < G.columns → P (across_face G i j))
      → ((i j : ℕ) → suc i < G.layers → 0 < j → j < G.columns → P (down_face G i j)) → (f : Face) → Memᴰ f (faces_of G) → P f
  unfolding faces_of screen_faces stored_columns layers_of upper_layers
  every_face P at_well within lower f m = ⊎_elim across down (Memᴰ.append_cases (flat_map layer_faces (layers_of G)) m)
    where
      screen : (i : ℕ) → i < G.layers → (b : Bool) → G.screened i ≡ b → Memᴰ f (cond b (across_face G i 0 ∷ []) []) → P f
      screen i h true s k = subst P (sym (Memᴰ.eq_of_singleton k)) (at_well i h s)
      screen i h false s k = absurd (Memᴰ.not-nil k)

      row : (i : ℕ) → i < G.layers → Memᴰ f (map (across_face G i) (stored_columns G)) → P f
      row i h k = let r = Memᴰ.of_map (across_face G i) (stored_columns G) k in
          let b = range_mem 1 (G.columns - 1) r.1 in
          subst P r.2 (within i r.0 h (omega arith) (omega arith))

      across : Memᴰ f (flat_map layer_faces (layers_of G)) → P f
      across k = let r = flat_map_mem layer_faces (layers_of G) k in
          let h = range-below G.layers r.1 in
          ⊎_elim (screen r.0 h (G.screened r.0) refl) (row r.0 h) (Memᴰ.append_cases (screen_faces G r.0) r.2)

      down : Memᴰ f (flat_map lower_faces (upper_layers G)) → P f
      down k = let r = flat_map_mem lower_faces (upper_layers G) k in
          let c = Memᴰ.of_map (down_face G r.0) (stored_columns G) r.2 in
          let h = range-below (G.layers - 1) r.1 in
          let b = range_mem 1 (G.columns - 1) c.1 in
          subst P c.2 (lower r.0 c.0 (omega arith) (omega arith) (omega arith))

  -- where layer 1 is not screened, its faces alone are unconfined
  unconfined_faces : G.screened 0 ≡ false → (f : Face) → Memᴰ f (faces_of G) → OfUnconfined (network_of G) f
  unfolding across_face down_face across_rule down_rule
  unconfined_faces dry = every_face (OfUnconfined (network_of G)) well within down
    where
      well : (i : ℕ) → i < G.layers → G.screened i ≡ true → OfUnconfined (network_of G) (across_face G i 0)
      well zero h s e = absurd (true≢false (sym s ∙ dry))
      well (suc i) h s e = let z : ◌≡◌ {A = ℕ} 0 1 = cc in absurd (omega arith)

      within : (i j : ℕ) → i < G.layers → 0 < j → j < G.columns → OfUnconfined (network_of G) (across_face G i j)
      within zero j h u v e = (on_table j u, on_table (suc j) (omega arith))
      within (suc i) j h u v e = let z : ◌≡◌ {A = ℕ} 0 1 = cc in absurd (omega arith)

      down : (i j : ℕ) → suc i < G.layers → 0 < j → j < G.columns → OfUnconfined (network_of G) (down_face G i j)
      down zero j h u v e = let z : ◌≡◌ {A = ℕ} 0 1 = cc in absurd (omega arith)
      down (suc i) j h u v e = let z : ◌≡◌ {A = ℕ} 0 1 = cc in absurd (omega arith)

  -- the kept C between layers 1 and 2 is the value at s = 0
  abbrev pub KeptAtTable : Type 0
  KeptAtTable = (j : ℕ) → 0 < j → j < G.columns → G.down 0 j ≡ from_table (G.area j) G.kv₁ G.b₂ G.kv₂ 0

  table_faces : 0 < G.b₂ → KeptAtTable → (f : Face) → Memᴰ f (faces_of G) → OfTable (network_of G) f
  unfolding across_face down_face across_rule down_rule
  table_faces thick keeps = every_face (OfTable (network_of G)) (λ i h s. across i 0) (λ i j h u v. across i j) down
    where
      across : (i j : ℕ) → OfTable (network_of G) (across_face G i j)
      across zero j a kv₁ b₂ kv₂ e = let z : ◌≡◌ {A = ℕ} 0 1 = cc in absurd (omega arith)
      across (suc i) j a kv₁ b₂ kv₂ e = let z : ◌≡◌ {A = ℕ} 0 1 = cc in absurd (omega arith)

      down : (i j : ℕ) → suc i < G.layers → 0 < j → j < G.columns → OfTable (network_of G) (down_face G i j)
      down zero j h u v a kv₁ b₂ kv₂ e =
          let p : G.area j ≡ a = cc in
          let q : G.kv₁ ≡ kv₁ = cc in
          let r : G.b₂ ≡ b₂ = cc in
          let s : G.kv₂ ≡ kv₂ = cc in
          (on_table j u, omega arith, rw (← p, ← q, ← r, ← s) (keeps j u v))
      down (suc i) j h u v a kv₁ b₂ kv₂ e = let z : ◌≡◌ {A = ℕ} 0 1 = cc in absurd (omega arith)

  pub proper_grid : G.screened 0 ≡ false → 0 < G.well_storage → ((i j : ℕ) → i < G.layers → 0 < j → j < G.columns → 0 < G.storage i j) → 1000 * G.intake ≤ drawdown_limit
      → 0 < G.b₂ → KeptAtTable → Proper (network_of G)
  unfolding network_of storage_at place_count one_per_place
  proper_grid dry well cells intake thick keeps = record {
    well = omega arith;
    storages = by_place G (λ p. 0 < storage_at (network_of G) p) well (λ i r hi hr. rw (get_or_one G G.well_storage G.storage 0 i r hi hr) (cells i (suc r) hi (omega arith) hr));
    intake = intake;
    unconfined = unconfined_faces dry;
    table = table_faces thick keeps;
  }
