-- What the functions of this crate need of the ends of a face and of a valid record.
--     layer_in to next_cell       which ends are joined, from the numbers of a site
--     slot_in to at_top           slots and C in use, by the kinds of the ends
--     across_rule_lem to fits_from       the face that leads from one end to another; then its water in a step that 7 and 8 allow
use mathlib.Core.Path.{◌≡◌, refl, sym, ap, ap₂, ◌∙◌}
use mathlib.Core.Bool.{Bool, true, false, cond, ◌&&◌, ◌||◌, and-false, true≢false}
use mathlib.Core.Logic.{⊎_elim}
use mathlib.Core.List.{List}
use Prim.Native.Nat.{ℕ, zero, suc, ◌+◌, ◌*◌, ◌-◌, ◌≤◌, ◌<◌, zero-le}
use native.Mathlib.Nat.{le_trans, zero-mul, zero-div}
use native.Mathlib.Numerals.{add-one}
use native.Mathlib.Omega.{arith}
use lib.Dec.{eqb, leb, ltb}
use lib.IntN.{ℤ, pos, nat_abs}
use lib.ListN.{get_or, get_or-eq_default}
use lib.Signed.{◌≤ℤ◌, lt_z}
use borrow.Author.Tests.{leb-true, ltb-true, le-leb, eq-eqb, ne_eqb}
use mir.Syntax.{w64}
use mir.Val.{SFits, to_z, of_z}
use mir.Facts.{to_z-of_z}
use Rattle.laws.specs.All.{and_left, and_right}
use Rattle.laws.specs.Integer.{pos_≤ℤ, ≤ℤ_pos, not_past}
use Rattle.laws.specs.Number.{below_or_not}
use Rattle.laws.specs.Rows.{both_hold, three_hold, four_hold}
use Rattle.laws.specs.Signed.{small_fits}
use Rattle.laws.specs.Sums.{none_at}
use Rattle.limits.specs.Limits.{length_limit, total_limit, drawdown_limit}
use Rattle.network.specs.Network.{Rule, Face, Network, loss_at, drawdown, in_use_by, in_use, water, crossing, flow, stable, table_too_deep}
use Rattle.network.specs.Grid.{Grid, place, across_rule, down_rule, across_face, down_face, network_of}
use Rattle.network.specs.Kept.{OnTable}
use Rattle.network.proofs.laws.Bounds.{face_fits}
use Rattle.network.proofs.laws.Places.{place_well}
use Rattle.network.proofs.laws.Proper.{on_table}
use Rattle.site.specs.declared.Site.{Site}
use Rattle.site.specs.Columns.{area_at}
use Rattle.site.specs.Laws.{numbers_hold_lem}
use Rattle.site.specs.Limited.{Counts, LayerNumbers}
use Rattle.site.specs.Site.{is_screened}
use Rattle.record.specs.declared.Record.{Record}
use Rattle.record.specs.Record.{slot, across_in, grid_of, state_of}
use Rattle.coefficient_cells.specs.Worked.{InLimits}
use Rattle.validity.specs.Laws.{Valid, valid_proper, valid_limits, table_fits}
use Rattle.step_flows.specs.Flows.{reduced_c, table_c}
use Rattle.slot_places.specs.Screen.{fixed_below}
use Rattle.slot_places.specs.Slots.{counted, dry}
use Rattle.readings.specs.declared.Place.{Place}
use Rattle.readings.specs.declared.Place.TheVariants.{Well, Cell}
use Rattle.readings.specs.Readings.{is_layer, is_stored, number_of, leads, face_from}
use Rattle.read_drawdown.specs.Ends.{End}
use Rattle.read_drawdown.specs.Ends.End.{well, cell}
use Rattle.read_flow.specs.Ends.{in_slots, conductance_from, rule_from, in_use_from, InLayer, TableFits}
use Rattle.read_flow.specs.Laws.{Led, screen, across, down, face_listed}

-- ---- which ends are joined, from the numbers of a site

pub layer_in : (i n : ℕ) → (leb 1 i && leb i n) ≡ true → (1 ≤ i) × (i ≤ n)
layer_in i n e = (leb-true _ _ (and_left (leb 1 i) (leb i n) e), leb-true _ _ (and_right (leb 1 i) (leb i n) e))

-- layer i and column j are a stored cell's
abbrev pub in_grid : Site → ℕ → ℕ → Bool
in_grid s i j = leb 1 i && leb i s.layers && (leb 1 j && ltb j s.columns)

pub in_grid_lem : (s : Site) (i j : ℕ) → in_grid s i j ≡ true → (i ≤ s.layers) × (j < s.columns)
in_grid_lem s i j e =
    let tests = three_hold (leb 1 i) (leb i s.layers) (leb 1 j && ltb j s.columns) e in
    (leb-true _ _ tests.1, ltb-true _ _ (and_right (leb 1 j) (ltb j s.columns) tests.2))

module _ (q : Record) (s : Site) (e : q.site ≡ s) where
  pub to_well : (a : Place) → false ≡ leads (grid_of q) a Well
  unfolding leads
  to_well Well = refl
  to_well (Cell i j) = refl

  pub no_layer : (a : Place) (k l : ℕ) → (leb 1 k && leb k s.layers) ≡ false → false ≡ leads (grid_of q) a (Cell k l)
  unfolding leads is_layer grid_of
  no_layer Well k l h = rw (e, h)
  no_layer (Cell i j) k l h = rw (e, h, and-false)

  module _ (k l : ℕ) (layer : (leb 1 k && leb k s.layers) ≡ true) where
    pub from_well_lem : (eqb (get_or s.screened (k - 1) 0) 1 && eqb l 1) ≡ leads (grid_of q) Well (Cell k l)
    unfolding leads is_layer is_screened grid_of
    from_well_lem = rw (e, layer)

    middle : (x y z w : Bool) → y ≡ true → (x && z && w) ≡ (x && y && z && w)
    middle true y z w h = rw h
    middle false y z w h = refl

    from_cell : (i j : ℕ) → (in_grid s i j && (eqb k i && eqb l (suc j) || eqb k (suc i) && eqb l j)) ≡ leads (grid_of q) (Cell i j) (Cell k l)
    unfolding leads is_layer is_stored grid_of
    from_cell i j = rw e (middle (leb 1 i && leb i s.layers) (leb 1 k && leb k s.layers) (leb 1 j && ltb j s.columns) (eqb k i && eqb l (suc j) || eqb k (suc i) && eqb l j) layer)

    pub no_cell : (i j : ℕ) → in_grid s i j ≡ false → false ≡ leads (grid_of q) (Cell i j) (Cell k l)
    no_cell i j h = rw (← from_cell i j, h)

    pub next_cell : (i j : ℕ) → in_grid s i j ≡ true → (eqb k i && eqb l (j + 1) || eqb k (i + 1) && eqb l j) ≡ leads (grid_of q) (Cell i j) (Cell k l)
    next_cell i j h = rw (← from_cell i j, h, add-one j, add-one i)

-- ---- slots and C in use, by the kinds of the ends

pub slot_in : (i j : ℕ) → in_slots (Cell i j) ≡ true → (1 ≤ i) × (i ≤ 20) × (1 ≤ j) × (j ≤ 50)
unfolding in_slots
slot_in i j e =
    let tests = four_hold (leb 1 i) (leb i 20) (leb 1 j) (leb j 50) e in
    (leb-true _ _ tests.0, leb-true _ _ tests.1, leb-true _ _ tests.2, leb-true _ _ tests.3)

module _ (s : Site) (screen horizontal vertical : List ℕ) (Da Db : ℤ) where
  pub none_to_well : (a : Place) → pos 0 ≡ in_use_from s screen horizontal vertical a Well Da Db
  unfolding in_use_from in_use_by rule_from conductance_from
  none_to_well Well = refl
  none_to_well (Cell i j) = refl

  -- between cells, of which the first is that of slot n
  module _ {a b : Place} {i j k l n : ℕ} (from : a ≡ Cell i j) (to : b ≡ Cell k l) (at : n ≡ slot (i - 1) j) where
    pub down_in : (k ≡ i → ⊥) → 1 < i → pos (get_or vertical n 0) ≡ in_use_from s screen horizontal vertical a b Da Db
    unfolding in_use_from in_use_by rule_from conductance_from
    down_in h u = rw (from, to, at, ne_eqb k i h, ne_eqb i 1 (λ e. absurd (omega arith)))

    pub table_in : (k ≡ i → ⊥) → i ≡ 1
        → table_c (area_at s j) (get_or s.thickness 0 0) (get_or s.kv 0 0) (get_or s.thickness 1 0) (get_or s.kv 1 0) Da ≡ in_use_from s screen horizontal vertical a b Da Db
    unfolding in_use_from in_use_by rule_from table_c
    table_in h e = rw (from, to, ne_eqb k i h, eq-eqb i 1 e)

    pub across_in_lem : k ≡ i → (i ≡ 1 → ⊥) → pos (get_or horizontal n 0) ≡ in_use_from s screen horizontal vertical a b Da Db
    unfolding in_use_from in_use_by rule_from conductance_from
    across_in_lem e f = rw (from, to, at, ne_eqb i 1 f, eq-eqb k i e)

    pub reduced_in : k ≡ i → i ≡ 1 → reduced_c (get_or s.thickness 0 0) (get_or horizontal n 0) Da Db ≡ in_use_from s screen horizontal vertical a b Da Db
    unfolding in_use_from in_use_by rule_from reduced_c conductance_from
    reduced_in e f = rw (from, to, at, eq-eqb i 1 f, eq-eqb k i e)

-- a cell of layer 1
pub at_top : {a : Place} {i j : ℕ} → a ≡ Cell i j → i ≡ 1 → a ≡ Cell 1 j
at_top from e = rw e at from

-- ---- the ends of a face

ends : (G : Grid) {a b : Place} → 1 ≤ G.columns → Led G a b → End G a × End G b
ends G h (screen {k} {l} k₁ k₂ s e) = (well, cell k l k₁ k₂ (omega arith) (omega arith))
ends G h (across {i} {j} {k} {l} i₁ i₂ j₁ j₂ e f) = (cell i j i₁ i₂ j₁ (omega arith), cell k l (omega arith) (omega arith) (omega arith) (omega arith))
ends G h (down {i} {j} {k} {l} i₁ i₂ j₁ j₂ e f) = (cell i j i₁ (omega arith) j₁ (omega arith), cell k l (omega arith) (omega arith) (omega arith) (omega arith))

module _ (r : Record) (v : Valid r) where
  abbrev G : Grid
  G = grid_of r

  abbrev N : Network
  N = network_of (grid_of r)

  abbrev vs : List ℤ
  vs = (state_of r).losses

  -- how many there are
  counts : Counts r.site
  counts = counted r v

  in_slots_lem : {e : Place} → End G e → in_slots e ≡ true
  unfolding in_slots grid_of
  in_slots_lem well = refl
  in_slots_lem (cell i j i₁ i₂ j₁ j₂) =
      both_hold (both_hold (both_hold (le-leb 1 i i₁) (le-leb i 20 (omega (arith, counts.layers_most)))) (le-leb 1 j j₁)) (le-leb j 50 (omega (arith, counts.columns_most)))

  -- D past the places
  depth_outside : (p : ℕ) → N.places ≤ p → drawdown N vs p ≡ pos 0
  unfolding drawdown loss_at
  depth_outside p h = rw (get_or-eq_default vs (pos 0) {n = p} (rw v.kept.listed h), zero-mul, zero-div)

  shallow : (p : ℕ) → drawdown N vs p ≤ℤ pos drawdown_limit
  shallow p = ⊎_elim (v.kept.depths p) (λ h. rw (depth_outside p h) (pos_≤ℤ zero-le)) (below_or_not p N.places)

  in_layer : (p : ℕ) → OnTable N p → drawdown N vs p ≤ℤ pos (1000 * N.thickness)
  unfolding table_too_deep
  in_layer p o = ⊎_elim (λ m. not_past (none_at (λ q. lt_z (pos (1000 * N.thickness)) (drawdown N vs q)) v.kept.table m))
      (λ h. rw (depth_outside p h) (pos_≤ℤ zero-le))
      o

  dry_top : G.screened 0 ≡ false
  unfolding grid_of
  dry_top = dry r v

  top_layer : LayerNumbers r.site 0
  top_layer = (numbers_hold_lem r.site v.numbers).layer 0 (omega (arith, counts.layers_least))

  -- ---- the face that leads from a to b

  across_rule_lem : (i : ℕ) → 1 ≤ i → across_rule (i - 1) ≡ cond (eqb i 1) Rule.unconfined Rule.fixed
  unfolding across_rule
  across_rule_lem zero h = absurd (omega arith)
  across_rule_lem (suc zero) h = refl
  across_rule_lem (suc (suc i)) h = let e : suc (suc i) - 1 ≡ suc i = omega arith in rw (e, ne_eqb (suc (suc i)) 1 (λ q. absurd (omega arith)))

  down_rule_lem : (i j : ℕ) → 1 ≤ i → down_rule G (i - 1) j ≡ cond (eqb i 1) (Rule.table (area_at r.site j) (get_or r.site.kv 0 0) (get_or r.site.thickness 1 0) (get_or r.site.kv 1 0)) Rule.fixed
  unfolding down_rule grid_of
  down_rule_lem zero j h = absurd (omega arith)
  down_rule_lem (suc zero) j h = refl
  down_rule_lem (suc (suc i)) j h = let e : suc (suc i) - 1 ≡ suc i = omega arith in rw (e, ne_eqb (suc (suc i)) 1 (λ q. absurd (omega arith)))

  one_is : {a b : Place} → Led G a b → (face_from G a b).one ≡ number_of G a
  unfolding face_from across_face down_face number_of
  one_is (screen {k} k₁ k₂ s e) = place_well G (k - 1)
  one_is (across {i} {j} {k} i₁ i₂ j₁ j₂ e f) = rw (eq-eqb k i e)
  one_is (down {i} {j} {k} i₁ i₂ j₁ j₂ e f) = rw (ne_eqb k i (λ q. absurd (omega arith)))

  two_is : {a b : Place} → Led G a b → (face_from G a b).two ≡ number_of G b
  unfolding face_from across_face down_face number_of
  two_is (screen {k} k₁ k₂ s e) = ap (place G (k - 1)) (sym e)
  two_is (across {i} {j} {k} i₁ i₂ j₁ j₂ e f) = rw (eq-eqb k i e) (ap₂ (place G) (ap (λ n. n - 1) (sym e)) (sym f))
  two_is (down {i} {j} {k} i₁ i₂ j₁ j₂ e f) = rw (ne_eqb k i (λ q. absurd (omega arith))) (ap₂ (place G) (omega arith) (sym f))

  conductance_is : {a b : Place} → Led G a b → conductance_from r.screen r.horizontal r.vertical a b ≡ (face_from G a b).conductance
  unfolding conductance_from face_from across_face down_face grid_of across_in
  conductance_is (screen k₁ k₂ s e) = refl
  conductance_is (across {i} {j} {k} i₁ i₂ j₁ j₂ e f) = rw (eq-eqb k i e) (stored j j₁)
    where
      stored : (j : ℕ) → 1 ≤ j → get_or r.horizontal (slot (i - 1) j) 0 ≡ across_in r.screen r.horizontal (i - 1) j
      stored zero h = absurd (omega arith)
      stored (suc j) h = refl
  conductance_is (down {i} {j} {k} i₁ i₂ j₁ j₂ e f) = rw (ne_eqb k i (λ q. absurd (omega arith)))

  rule_is : {a b : Place} → Led G a b → (face_from G a b).rule ≡ rule_from r.site a b
  unfolding face_from across_face down_face rule_from
  rule_is (screen {k} k₁ k₂ s e) = fixed_below (k - 1) (λ q. true≢false (sym s ∙ ap G.screened q ∙ dry_top))
  rule_is (across {i} {j} {k} i₁ i₂ j₁ j₂ e f) = rw (eq-eqb k i e) (across_rule_lem i i₁)
  rule_is (down {i} {j} {k} i₁ i₂ j₁ j₂ e f) = rw (ne_eqb k i (λ q. absurd (omega arith))) (down_rule_lem i j i₁)

  -- an end in layer 1 is at a drawdown within it
  top_end : {e : Place} → End G e → (j : ℕ) → e ≡ Cell 1 j → OnTable N (number_of G e)
  unfolding number_of
  top_end well j q = let z : ◌≡◌ {A = ℕ} 0 1 = cc in absurd (omega arith)
  top_end (cell i k i₁ i₂ k₁ k₂) j q = let one : i ≡ 1 = cc in rw one (on_table G k k₁)

  -- and C at s = 0 of the column that it is in fits a word, where a face leads from it
  fits_from : {a b : Place} → Led G a b → TableFits r.site a
  unfolding grid_of
  fits_from (screen k₁ k₂ s e) j q = let z : ◌≡◌ {A = ℕ} 0 1 = cc in absurd (omega arith)
  fits_from (across {j = m} i₁ i₂ j₁ j₂ e f) j q = let here : m ≡ j = cc in rw (← here) (j₂, table_fits r v m j₁ j₂)
  fits_from (down {j = m} i₁ i₂ j₁ j₂ e f) j q = let here : m ≡ j = cc in rw (← here) (j₂, table_fits r v m j₁ j₂)

  pub joined-ends : {a b : Place} → Led G a b → End G a × End G b
  unfolding grid_of
  joined-ends l = ends G (omega (arith, counts.columns_least)) l

  -- ---- its water in dt, from D at its ends

  module _ {a b : Place} (l : Led G a b) (dt : ℕ) (short : dt ≤ length_limit) (st : stable N dt ≡ true) where
    abbrev f : Face
    f = face_from G a b

    pub flow_small : nat_abs (flow N vs dt f) ≤ total_limit
    unfolding network_of
    flow_small = le_trans (face_fits N (valid_proper r v) (state_of r) v.kept dt st f (face_listed G l)) v.kept.pumped

    pub flow_fits : (x : ℤ) → x ≡ flow N vs dt f → SFits w64 x
    flow_fits x e = small_fits x {n = total_limit} (rw e flow_small) (omega arith)

    module _ (here next : ℕ) (eh : pos here ≡ drawdown N vs (number_of G a)) (en : pos next ≡ drawdown N vs (number_of G b)) where
      -- what `in_use` asks
      end_within : {e : Place} {n : ℕ} → End G e → pos n ≡ drawdown N vs (number_of G e) → InLayer r.site e n
      unfolding network_of grid_of
      end_within {e} h q j at = ≤ℤ_pos (rw q (in_layer (number_of G e) (top_end h j at)))

      pub in_use_asks : (InLimits r.site × (in_slots a ≡ true) × (in_slots b ≡ true) × InLayer r.site a here × InLayer r.site b next) × TableFits r.site a
      in_use_asks = ((valid_limits r v, in_slots_lem (joined-ends l).0, in_slots_lem (joined-ends l).1, end_within (joined-ends l).0 eh, end_within (joined-ends l).1 en), fits_from l)

      module _ (c : ℕ) (ec : pos c ≡ in_use_from r.site r.screen r.horizontal r.vertical a b (pos here) (pos next)) where
        in_use_is : pos c ≡ in_use N f (pos here) (pos next)
        unfolding in_use_from in_use network_of grid_of
        in_use_is = ec ∙ rw (rule_is l, ← conductance_is l)

        water_is : water (pos c) (pos here) (pos next) dt ≡ flow N vs dt f
        unfolding flow crossing
        water_is =
            ap (λ c. water c (pos here) (pos next) dt) in_use_is
            ∙ ap₂ (λ x y. water (in_use N f x y) x y dt) (eh ∙ ap (drawdown N vs) (sym (one_is l))) (en ∙ ap (drawdown N vs) (sym (two_is l)))

        pub crossing_asks : ((here ≤ drawdown_limit) × (next ≤ drawdown_limit) × (dt ≤ length_limit)) × (nat_abs (water (pos c) (pos here) (pos next) dt) ≤ total_limit)
        crossing_asks = ((≤ℤ_pos (rw eh (shallow (number_of G a))), ≤ℤ_pos (rw en (shallow (number_of G b))), short), rw water_is flow_small)

        -- the answer as the machine holds it
        pub crossing_back : (x : ℤ) → x ≡ water (pos c) (pos here) (pos next) dt → to_z w64 (of_z w64 x) ≡ flow N vs dt f
        crossing_back x q = to_z-of_z (flow_fits x (q ∙ water_is)) ∙ q ∙ water_is
