-- What the record at the start is, for the proofs of this and other crates: laws only, nothing to believe.
--     start_network        its network is the scenario's
--     start_state          its state is that of a network at rest
--     screen_at_lem, ..        the coefficients of a grid that a record of slots (slotted) holds; slotted_unused: the slots that none uses
use Rattle.std.proofs.Common.{◌≡◌, ◌||◌, ℤ, refl, ap, ap₂, sym, ◌∙◌, zero-add, add_comm, arith, Bool, true, false, cond, List, [], ◌∷◌, ◌++◌, map, ℕ, zero, suc, ◌+◌, ◌*◌, ◌-◌, ◌/◌, ◌%◌, ◌≤◌, ◌<◌, add-one, lt-ltb, eq-eqb, eqb, pos, get_or, replicate}
use mathlib.Core.List.{flat_map}
use Rattle.laws.specs.Fill.{get_or_same}
use Rattle.laws.specs.Ranges.{map-range_ext, flat_map-range_ext, map-range_same, flat_map-range_same}
use Rattle.laws.specs.Lists.{range, all_below}
use Rattle.laws.specs.Rows.{all_from}
use Rattle.laws.specs.Sums.{get_or-map-range}
use Rattle.limits.specs.Limits.{layer_places, column_places, cell_places}
use Rattle.network.specs.Network.{Rule, Face, Network, at_rest}
use Rattle.network.specs.Grid.{Grid, stored_columns, layers_of, upper_layers, place_count, place, one_per_place, across_rule, down_rule, across_face, down_face, screen_faces, faces_of, network_of}
use Rattle.geometry.specs.Geometry.{well_storage}
use Rattle.site.specs.declared.Site.{Site}
use Rattle.site.specs.Columns.{area_at}
use Rattle.site.specs.Laws.{counts_hold_lem}
use Rattle.site.specs.Limited.{Counts}
use Rattle.site.specs.Site.{is_screened, counts_hold}
use Rattle.record.specs.declared.Record.{Record}
use Rattle.record.specs.Record.{slot, slots, layer_slots, is_cell, has_below, has_screen, across_in, grid_of, state_of}
use Rattle.coefficient_slots.specs.Slots.{used_slot, zero_unused, coefficients_unused}
use Rattle.coefficient_cells.specs.Cells.{across_of, down_of, storage_of}
use Rattle.coefficients.specs.Coefficients.{scenario_grid, start_record}

-- ---- what stands in a slot
get_or-slot : (f : ℕ → ℕ → ℕ) (k : ℕ) → k < cell_places → get_or (slots f) k 0 ≡ f (k / column_places) (k % column_places + 1)
unfolding slots
get_or-slot f k h =
    get_or-map-range (λ k. f (k / column_places) (k % column_places + 1)) 0 0 cell_places k h ∙ ap (λ (m : ℕ). f (m / column_places) (m % column_places + 1)) (zero-add k)

get_or-slots : (f : ℕ → ℕ → ℕ) (i j : ℕ) → i < layer_places → 1 ≤ j → j ≤ column_places → get_or (slots f) (slot i j) 0 ≡ f i j
unfolding slot
get_or-slots f i j h one k = get_or-slot f (column_places * i + (j - 1)) (omega arith) ∙ ap₂ f (omega arith) (omega arith)

get_or-layer_slots : (f : ℕ → ℕ) (i : ℕ) → i < layer_places → get_or (layer_slots f) i 0 ≡ f i
unfolding layer_slots
get_or-layer_slots f i h = get_or-map-range f 0 0 layer_places i h ∙ ap f (zero-add i)

-- ---- the record at the start, but with what `put` makes of each coefficient, by whether its slot is used
unfoldable pub slotted : (Bool → ℕ → ℕ) → Site → Record
slotted put s = record {
  site = s;
  screen = layer_slots (λ i. put (has_screen s i) (across_of s i 0));
  horizontal = slots (λ i j. put (is_cell s i j) (across_of s i j));
  vertical = slots (λ i j. put (has_below s i j) (down_of s i j));
  storages = slots (λ i j. put (is_cell s i j) (storage_of s i j));
  losses = replicate cell_places (pos 0);
  well_storage = well_storage s.water_area;
  well_loss = pos 0;
  pumped = 0;
  inflow = pos 0;
  time = 0;
  mark = pos 0;
}

pub start_slotted : (s : Site) → start_record s ≡ slotted (λ used n. cond used n 0) s
unfolding start_record slotted
start_slotted s = refl

module _ (put : Bool → ℕ → ℕ) (s : Site) (counts : Counts s) where
  pub screen_at_lem : (i : ℕ) → i < s.layers → is_screened s.screened i ≡ true → (grid_of (slotted put s)).across i 0 ≡ put true (across_of s i 0)
  unfolding grid_of slotted across_in has_screen
  screen_at_lem i h e = get_or-layer_slots (λ i. put (has_screen s i) (across_of s i 0)) i (omega (arith, counts.layers_most)) ∙ rw (lt-ltb i s.layers h, e)

  pub across_at : (i j : ℕ) → i < s.layers → 1 ≤ j → j < s.columns → (grid_of (slotted put s)).across i j ≡ put true (across_of s i j)
  unfolding grid_of slotted across_in is_cell
  across_at i zero h one k = absurd (omega arith)
  across_at i (suc j) h one k =
      get_or-slots (λ i j. put (is_cell s i j) (across_of s i j)) i (suc j) (omega (arith, counts.layers_most)) one (omega (arith, counts.columns_most))
      ∙ rw (lt-ltb i s.layers h, lt-ltb (suc j) s.columns k)

  pub down_at : (i j : ℕ) → suc i < s.layers → 1 ≤ j → j < s.columns → (grid_of (slotted put s)).down i j ≡ put true (down_of s i j)
  unfolding grid_of slotted has_below
  down_at i j h one k =
      get_or-slots (λ i j. put (has_below s i j) (down_of s i j)) i j (omega (arith, counts.layers_most)) one (omega (arith, counts.columns_most))
      ∙ rw (lt-ltb (suc i) s.layers h, lt-ltb j s.columns k)

  pub storage_at_lem : (i j : ℕ) → i < s.layers → 1 ≤ j → j < s.columns → (grid_of (slotted put s)).storage i j ≡ put true (storage_of s i j)
  unfolding grid_of slotted is_cell
  storage_at_lem i j h one k =
      get_or-slots (λ i j. put (is_cell s i j) (storage_of s i j)) i j (omega (arith, counts.layers_most)) one (omega (arith, counts.columns_most))
      ∙ rw (lt-ltb i s.layers h, lt-ltb j s.columns k)

-- where an unused slot gets 0, it is 0 in every slot that no face or cell uses
module _ (put : Bool → ℕ → ℕ) (s : Site) (spare : (n : ℕ) → put false n ≡ 0) where
  spared : (b : Bool) (n : ℕ) → (b || eqb (put b n) 0) ≡ true
  spared true n = refl
  spared false n = eq-eqb (put false n) 0 (spare n)

  slots_spared : (used : ℕ → ℕ → Bool) (value : ℕ → ℕ → ℕ) → zero_unused used (slots (λ i j. put (used i j) (value i j))) ≡ true
  unfolding zero_unused
  slots_spared used value =
      all_from _ cell_places (λ k h.
      ap (λ (x : ℕ). used_slot used k || eqb x 0) (get_or-slot (λ i j. put (used i j) (value i j)) k h)
      ∙ spared (used_slot used k) (value (k / column_places) (k % column_places + 1)))

  screen_spared : all_below layer_places (λ i. has_screen s i || eqb (get_or (layer_slots (λ i. put (has_screen s i) (across_of s i 0))) i 0) 0) ≡ true
  screen_spared =
      all_from _ layer_places (λ i h.
      ap (λ (x : ℕ). has_screen s i || eqb x 0) (get_or-layer_slots (λ i. put (has_screen s i) (across_of s i 0)) i h)
      ∙ spared (has_screen s i) (across_of s i 0))

  pub slotted_unused : coefficients_unused (slotted put s) ≡ true
  unfolding coefficients_unused slotted
  slotted_unused = rw (screen_spared, slots_spared (is_cell s) (across_of s), slots_spared (has_below s) (down_of s), slots_spared (is_cell s) (storage_of s))

-- ---- two grids that differ at most where no face or cell is have the same network
face_same : {one one' two two' c c' : ℕ} (rule : Rule) → one ≡ one' → two ≡ two' → c ≡ c'
    → ◌≡◌ {A = Face} (record { one = one; two = two; conductance = c; rule = rule }) (record { one = one'; two = two'; conductance = c'; rule = rule })
face_same rule p q r = rw (p, q, r)

network_from_lem : (places thickness intake : ℕ) {fs fs' : List Face} {vs vs' ts ts' : List ℕ} → fs ≡ fs' → vs ≡ vs' → ts ≡ ts'
    → ◌≡◌ {A = Network}
    (record { places = places; faces = fs; storages = vs; thickness = thickness; table = ts; intake = intake })
    (record { places = places; faces = fs'; storages = vs'; thickness = thickness; table = ts'; intake = intake })
network_from_lem places thickness intake p q r = rw (p, q, r)

module _ (layers columns : ℕ) (screened : ℕ → Bool) (well thickness : ℕ) (area : ℕ → ℕ) (kv₁ b₂ kv₂ intake : ℕ) where
  abbrev grid_with : (ℕ → ℕ → ℕ) → (ℕ → ℕ → ℕ) → (ℕ → ℕ → ℕ) → Grid
  grid_with across down storage = record {
    layers = layers;
    columns = columns;
    screened = screened;
    across = across;
    down = down;
    storage = storage;
    well_storage = well;
    thickness = thickness;
    area = area;
    kv₁ = kv₁;
    b₂ = b₂;
    kv₂ = kv₂;
    intake = intake;
  }

  module _
      (a d v a' d' v' : ℕ → ℕ → ℕ)
      (screen-same : (i : ℕ) → i < layers → screened i ≡ true → a i 0 ≡ a' i 0)
      (across-same : (i j : ℕ) → i < layers → 1 ≤ j → j < columns → a i j ≡ a' i j)
      (down-same : (i j : ℕ) → suc i < layers → 1 ≤ j → j < columns → d i j ≡ d' i j)
      (storage-same : (i j : ℕ) → i < layers → 1 ≤ j → j < columns → v i j ≡ v' i j)
    where
      place_same : (i j : ℕ) → place (grid_with a d v) i j ≡ place (grid_with a' d' v') i j
      unfolding place place_count
      place_same i zero = refl
      place_same i (suc j) = refl

      across_face_lem : (i j : ℕ) → a i j ≡ a' i j → across_face (grid_with a d v) i j ≡ across_face (grid_with a' d' v') i j
      unfolding across_face
      across_face_lem i j e = face_same (across_rule i) (place_same i j) (place_same i (suc j)) e

      down_rule_lem : (i j : ℕ) → down_rule (grid_with a d v) i j ≡ down_rule (grid_with a' d' v') i j
      unfolding down_rule
      down_rule_lem zero j = refl
      down_rule_lem (suc i) j = refl

      down_face_lem : (i j : ℕ) → d i j ≡ d' i j → down_face (grid_with a d v) i j ≡ down_face (grid_with a' d' v') i j
      unfolding down_face
      down_face_lem i j e = rw (down_rule_lem i j) (face_same (down_rule (grid_with a' d' v') i j) (place_same i j) (place_same (suc i) j) e)

      screen_faces_lem : (i : ℕ) → i < layers → screen_faces (grid_with a d v) i ≡ screen_faces (grid_with a' d' v') i
      unfolding screen_faces
      screen_faces_lem i h = by_test (screened i) (λ e. ap (λ (f : Face). f ∷ []) (across_face_lem i 0 (screen-same i h e)))
        where
          by_test : {l m : List Face} (t : Bool) → (t ≡ true → l ≡ m) → cond t l [] ≡ cond t m []
          by_test true f = f refl
          by_test false f = refl

      faces_same : faces_of (grid_with a d v) ≡ faces_of (grid_with a' d' v')
      unfolding faces_of stored_columns layers_of upper_layers
      faces_same =
          ap₂ ◌++◌
          (flat_map-range_ext _ _ 0 layers (λ i low h.
          ap₂ ◌++◌ (screen_faces_lem i (omega arith)) (map-range_ext _ _ 1 (columns - 1) (λ j one k. across_face_lem i j (across-same i j (omega arith) one (omega arith))))))
          (flat_map-range_ext _ _ 0 (layers - 1) (λ i low h. map-range_ext _ _ 1 (columns - 1) (λ j one k. down_face_lem i j (down-same i j (omega arith) one (omega arith)))))

      network_same : network_of (grid_with a d v) ≡ network_of (grid_with a' d' v')
      unfolding network_of place_count one_per_place stored_columns layers_of
      network_same =
          network_from_lem (1 + layers * (columns - 1)) thickness intake faces_same
          (ap (λ (l : List ℕ). well ∷ l) (flat_map-range_ext _ _ 0 layers (λ i low h. map-range_ext _ _ 1 (columns - 1) (λ j one k. storage-same i j (omega arith) one (omega arith)))))
          (map-range_ext _ _ 1 (columns - 1) (λ j one k. place_same 0 j))

module _ (s : Site) (counts : counts_hold s ≡ true) where
  -- the record's network is the scenario's
  pub start_network : network_of (grid_of (start_record s)) ≡ network_of (scenario_grid s)
  unfolding grid_of scenario_grid slotted
  start_network =
      let known = counts_hold_lem s counts in
      let put : Bool → ℕ → ℕ = λ used n. cond used n 0 in
      let G = grid_of (slotted put s) in
      rw (start_slotted s)
      (network_same s.layers s.columns (is_screened s.screened) (well_storage s.water_area) (get_or s.thickness 0 0)
      (area_at s) (get_or s.kv 0 0) (get_or s.thickness 1 0) (get_or s.kv 1 0) s.intake
      G.across G.down G.storage (across_of s) (down_of s) (storage_of s)
      (screen_at_lem put s known) (across_at put s known) (down_at put s known) (storage_at_lem put s known))

  -- nothing has moved yet
  pub start_state : state_of (start_record s) ≡ at_rest (network_of (scenario_grid s))
  unfolding state_of start_record grid_of scenario_grid at_rest network_of one_per_place stored_columns layers_of place_count
  start_state = ap (λ (l : List ℤ). record { losses = l; pumped = 0; inflow = pos 0; time = 0 }) still
    where
      still : pos 0 ∷ flat_map (λ i. map (λ j. get_or (replicate cell_places (pos 0)) (slot i j) (pos 0)) (range 1 (s.columns - 1))) (range 0 s.layers)
          ≡ replicate (1 + s.layers * (s.columns - 1)) (pos 0)
      still =
          ap (λ (l : List ℤ). pos 0 ∷ l)
          (flat_map-range_same (pos 0) _ 0 s.layers (s.columns - 1)
          (λ i. map-range_same (pos 0) _ 1 (s.columns - 1) (λ j. get_or_same cell_places (slot i j) (pos 0))))
          ∙ ap (λ (n : ℕ). replicate n (pos 0)) (sym (add_comm 1 (s.layers * (s.columns - 1)) ∙ add-one (s.layers * (s.columns - 1))))
