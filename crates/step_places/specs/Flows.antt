-- The water of a valid record's faces, by slot and by face, is the same: laws only, nothing to believe.
--     right_cell, lower_cell, left_cell, upper_cell     the four faces of a cell
--     from_well_lem, to_last_lem                                the well's face and the last column's with layer i
use Rattle.std.specs.Prelude.{◌≡◌, Bool, List, eqb, ltb, get_or}
use Rattle.std.proofs.Math.Path.{refl, sym, ap, ap₂}
use Rattle.std.proofs.Common.{◌∙◌, eqb-true, lt-ltb, le-ltb, le-leb, ltb-true, ne_eqb, eq-eqb}
use Rattle.std.proofs.Math.Bool.{true, false, cond}
use Prim.Native.Nat.{ℕ, zero, suc, ◌+◌, ◌*◌, ◌-◌, ◌/◌, ◌%◌, ◌≤◌, ◌<◌}
use native.Mathlib.Omega.{arith}
use Rattle.std.proofs.Math.IntN.{ℤ, pos}
use Rattle.std.proofs.lemmas.Bool.{lt-leb}
use Rattle.laws.specs.Lists.{ifℤ}
use Rattle.laws.specs.Rows.{same_test}
use Rattle.network.specs.Network.{Network, drawdown, in_use_by, in_use, water, crossing, flow}
use Rattle.network.specs.Grid.{place, across_rule, down_rule, across_face, down_face, network_of}
use Rattle.network.proofs.laws.Cells.{joined}
use Rattle.site.specs.Site.{is_screened}
use Rattle.record.specs.declared.Record.{Record}
use Rattle.record.specs.Record.{slot, across_in, grid_of, state_of}
use Rattle.coefficient_cells.specs.Laws.{areas_of_lem}
use Rattle.validity.specs.Laws.{Valid, valid_limits}
use Rattle.step_flows.specs.Flows.{reduced_c, table_c}
use Rattle.step_losses.specs.Losses.{left, upper}
use Rattle.step_sweep.specs.Worked.{Lent, depth, well_depth, conductance, lower_conductance, right, lower, well_flow, water_of, to_last}
use Rattle.slot_places.specs.Screen.{water_none, screen_water}
use Rattle.slot_places.specs.Slots.{slot_at, counted, across_past, down_past, depth-column}
use Rattle.step_sweep.specs.Laws.{reduced_none}
use Rattle.step_places.specs.Terms.{lent_of}

cond_same : {A : Type 0} (t : Bool) (x : A) → cond t x x ≡ x
cond_same true x = refl
cond_same false x = refl

if_same : (t : Bool) {a b : ℤ} → (t ≡ true → a ≡ b) → ifℤ t a ≡ ifℤ t b
unfolding ifℤ
if_same true h = h refl
if_same false h = refl

module _ (r : Record) (v : Valid r) (rate dt : ℕ) where
  abbrev N : Network
  N = network_of (grid_of r)

  abbrev vs : List ℤ
  vs = (state_of r).losses

  abbrev a : Lent
  a = lent_of r rate dt

  -- D of a slot, as a step sees it
  depth_of_lem : (i j : ℕ) → i < r.site.layers → j < r.site.columns → depth a (50 * i + j) ≡ drawdown N vs (place (grid_of r) i (suc j))
  unfolding depth
  depth_of_lem = depth-column r v

  module _ (k : ℕ) (h : k < 1000) (past : r.site.columns ≤ k % 50 + 1) where
    pub right_past : right a k ≡ pos 0
    unfolding right conductance
    right_past = rw (across_past r v k h past, reduced_none, cond_same (ltb (k + 1) r.site.columns) (pos 0)) (water_none (depth a k) (depth a (k + 1)) dt)

    pub lower_past : lower a k ≡ pos 0
    unfolding lower lower_conductance ifℤ
    lower_past =
        rw (le-ltb (k + 1) r.site.columns (omega (arith, (counted r v).columns_most)), down_past r v k h past, water_none)
        (none (ltb (k + 50) (50 * r.site.layers)))
      where
        none : (t : Bool) → ifℤ t (pos 0) ≡ pos 0
        none t = elim t as (λ t. ifℤ t (pos 0) ≡ pos 0) [ true ↦ refl | false ↦ refl ]

  -- ---- water

  abbrev b₁ : ℕ
  b₁ = get_or r.site.thickness 0 0

  -- the slots before the last column are those of layer 1
  first-row : (i j : ℕ) → suc j < r.site.columns → ltb (50 * i + j + 1) r.site.columns ≡ eqb i 0
  first-row i j hj = same_test _ _ (λ e. eq-eqb i 0 (omega (arith, ltb-true (50 * i + j + 1) r.site.columns e, (counted r v).columns_most)))
      (λ e. lt-ltb (50 * i + j + 1) r.site.columns (omega (arith, eqb-true i 0 e)))

  in_use_cell : (i j : ℕ) (Da Db : ℤ) → suc j < r.site.columns
      → cond (ltb (50 * i + j + 1) r.site.columns) (reduced_c b₁ (get_or r.horizontal (50 * i + j) 0) Da Db) (pos (get_or r.horizontal (50 * i + j) 0))
      ≡ in_use N (across_face (grid_of r) i (suc j)) Da Db
  unfolding in_use in_use_by reduced_c network_of grid_of across_face across_rule across_in
  in_use_cell i j Da Db hj =
      ap (λ t. cond t (reduced_c b₁ (get_or r.horizontal (50 * i + j) 0) Da Db) (pos (get_or r.horizontal (50 * i + j) 0))) (first-row i j hj)
      ∙ ap (λ n. cond (eqb i 0) (reduced_c b₁ (get_or r.horizontal n 0) Da Db) (pos (get_or r.horizontal n 0))) (sym (slot_at i j))
      ∙ by_layer i (get_or r.horizontal (slot i (suc j)) 0)
    where
      by_layer : (i c : ℕ) → cond (eqb i 0) (reduced_c b₁ c Da Db) (pos c) ≡ in_use_by b₁ c (across_rule i) Da Db
      by_layer zero c = refl
      by_layer (suc i) c = rw (ne_eqb (suc i) 0 (λ e. absurd (omega arith)))

  in_use-lower : (i j : ℕ) (Da Db : ℤ) → suc j < r.site.columns
      → cond (ltb (50 * i + j + 1) r.site.columns) (table_c (get_or a.areas (50 * i + j + 1) 0) b₁ a.kv₁ a.b₂ a.kv₂ Da) (pos (get_or r.vertical (50 * i + j) 0))
      ≡ in_use N (down_face (grid_of r) i (suc j)) Da Db
  unfolding in_use in_use_by table_c network_of grid_of down_face down_rule
  in_use-lower i j Da Db hj =
      ap (λ t. cond t (table_c (get_or a.areas (50 * i + j + 1) 0) b₁ a.kv₁ a.b₂ a.kv₂ Da) (pos (get_or r.vertical (50 * i + j) 0))) (first-row i j hj)
      ∙ ap (λ n. cond (eqb i 0) (table_c (get_or a.areas (50 * i + j + 1) 0) b₁ a.kv₁ a.b₂ a.kv₂ Da) (pos (get_or r.vertical n 0))) (sym (slot_at i j))
      ∙ by_layer i (get_or r.vertical (slot i (suc j)) 0)
    where
      by_layer : (i c : ℕ) → cond (eqb i 0) (table_c (get_or a.areas (50 * i + j + 1) 0) b₁ a.kv₁ a.b₂ a.kv₂ Da) (pos c) ≡ in_use_by b₁ c (down_rule (grid_of r) i (suc j)) Da Db
      by_layer zero c =
          let column : 50 * 0 + j + 1 ≡ suc j = omega arith in
          rw (column, (areas_of_lem r.site (valid_limits r v)).at (suc j) hj)
      by_layer (suc i) c = rw (ne_eqb (suc i) 0 (λ e. absurd (omega arith)))

  pub right_cell : (i j : ℕ) → i < r.site.layers → suc j < r.site.columns → right a (50 * i + j) ≡ flow N vs dt (across_face (grid_of r) i (suc j))
  unfolding right conductance flow crossing across_face
  right_cell i j hi hj =
      ap (λ c. water c (depth a (50 * i + j)) (depth a (50 * i + j + 1)) dt) (in_use_cell i j (depth a (50 * i + j)) (depth a (50 * i + j + 1)) hj)
      ∙ ap₂ (λ x y. water (in_use N (across_face (grid_of r) i (suc j)) x y) x y dt) (depth_of_lem i j hi (omega arith))
      (ap (depth a) next ∙ depth_of_lem i (suc j) hi hj)
    where
      next : 50 * i + j + 1 ≡ 50 * i + suc j
      next = omega arith

  pub lower_cell : (i j : ℕ) → i < r.site.layers → suc j < r.site.columns → lower a (50 * i + j) ≡ ifℤ (ltb (suc i) r.site.layers) (flow N vs dt (down_face (grid_of r) i (suc j)))
  unfolding lower lower_conductance flow crossing down_face
  lower_cell i j hi hj =
      ap (λ t. ifℤ t (lower_water (depth a (50 * i + j)) (depth a (50 * i + j + 50)))) below
      ∙ if_same (ltb (suc i) r.site.layers) (λ e.
      ap (λ c. water c (depth a (50 * i + j)) (depth a (50 * i + j + 50)) dt) (in_use-lower i j (depth a (50 * i + j)) (depth a (50 * i + j + 50)) hj)
      ∙ ap₂ (λ x y. water (in_use N (down_face (grid_of r) i (suc j)) x y) x y dt) (depth_of_lem i j hi (omega arith))
      (ap (depth a) next ∙ depth_of_lem (suc i) j (ltb-true _ _ e) (omega arith)))
    where
      lower_water : ℤ → ℤ → ℤ
      lower_water x y = water (lower_conductance a (50 * i + j)) x y dt

      next : 50 * i + j + 50 ≡ 50 * suc i + j
      next = omega arith

      below : ltb (50 * i + j + 50) (50 * r.site.layers) ≡ ltb (suc i) r.site.layers
      below = same_test _ _ (λ e. lt-ltb (suc i) r.site.layers (omega (arith, ltb-true (50 * i + j + 50) (50 * r.site.layers) e)))
          (λ e. lt-ltb (50 * i + j + 50) (50 * r.site.layers) (omega (arith, ltb-true (suc i) r.site.layers e, (counted r v).columns_most)))

  -- the well has a face where the layer is screened, and layer 1 is not
  pub from_well_lem : (i : ℕ) → i < r.site.layers → well_flow a i ≡ ifℤ (is_screened r.site.screened i) (flow N vs dt (across_face (grid_of r) i 0))
  unfolding well_flow well_depth depth
  from_well_lem = screen_water r v dt

  pub left_cell : (i j : ℕ) → i < r.site.layers → suc j < r.site.columns → left (water_of a) (50 * i + j) ≡ ifℤ (joined (grid_of r) i j) (flow N vs dt (across_face (grid_of r) i j))
  unfolding ifℤ left joined grid_of
  left_cell i zero hi hj = ap (λ t. cond t (well_flow a ((50 * i + 0) / 50)) (right a (50 * i + 0 - 1))) (eq-eqb ((50 * i + 0) % 50) 0 (omega arith)) ∙ ap (well_flow a) layer ∙ from_well_lem i hi
    where
      layer : (50 * i + 0) / 50 ≡ i
      layer = omega arith
  left_cell i (suc j) hi hj = ap (λ t. cond t (well_flow a ((50 * i + suc j) / 50)) (right a (50 * i + suc j - 1))) (ne_eqb ((50 * i + suc j) % 50) 0 (omega (arith, (counted r v).columns_most))) ∙ ap (right a) before ∙ right_cell i j hi (omega arith)
    where
      before : 50 * i + suc j - 1 ≡ 50 * i + j
      before = omega arith

  pub upper_cell : (i j : ℕ) → i < r.site.layers → suc j < r.site.columns → upper (water_of a) (50 * i + j) ≡ ifℤ (ltb 0 i) (flow N vs dt (down_face (grid_of r) (i - 1) (suc j)))
  unfolding ifℤ upper
  upper_cell zero j hi hj = ap (λ t. ifℤ t (lower a (50 * 0 + j - 50))) (lt-leb 50 (50 * 0 + j) (omega (arith, (counted r v).columns_most)))
  upper_cell (suc i) j hi hj =
      ap₂ ifℤ (le-leb 50 (50 * suc i + j) (omega arith) ∙ sym (lt-ltb 0 (suc i) (omega arith))) (ap (lower a) above ∙ lower_cell i j (omega arith) hj ∙ rw (lt-ltb (suc i) r.site.layers hi) (ap (λ n. flow N vs dt (down_face (grid_of r) n (suc j))) one_less))
    where
      above : 50 * suc i + j - 50 ≡ 50 * i + j
      above = omega arith

      one_less : i ≡ suc i - 1
      one_less = omega arith

  pub to_last_lem : (i : ℕ) → i < r.site.layers → to_last a i ≡ flow N vs dt (across_face (grid_of r) i (r.site.columns - 1))
  unfolding to_last
  to_last_lem i hi = right_cell i (r.site.columns - 2) hi (omega (arith, (counted r v).columns_least)) ∙ ap (λ n. flow N vs dt (across_face (grid_of r) i n)) last
    where
      last : suc (r.site.columns - 2) ≡ r.site.columns - 1
      last = omega (arith, (counted r v).columns_least)
