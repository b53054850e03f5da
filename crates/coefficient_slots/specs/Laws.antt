-- What the tests of the coefficients say, of faces and cells and of slots, for the proofs of this and other crates: laws only, nothing to believe.
--     columns_at           a test of every stored column, at one of them; columns_from: the other way
--     coefficients_hold_lem    Coefficients: the limits of each C and S of a grid; hold_coefficients: the other way
--     used_slot_lem            the slot of a cell is used; by_slot: every used slot is a cell's
--     coefficients_ext     grids whose C and S pass the limits alike (Alike) pass the test alike
--     unused_slots         UnusedSlots: what the test of unused slots says of each slot
--     slots-coefficients   the test of a record's slots is that of its coefficients and of its unused slots
use Rattle.std.proofs.Common.{◌≡◌, Bool, ◌||◌, get_or, refl, sym, ap, ap₂, subst, ◌∙◌, arith, true, false, cond, ◌&&◌, List, [], ◌∷◌, ◌++◌, map, ℕ, zero, suc, ◌+◌, ◌-◌, ◌/◌, ◌%◌, ◌≤◌, ◌<◌, zero-le, leb-true, ltb-true, lt-ltb, le-leb, leb, ltb, eqb}
use mathlib.Core.List.{flat_map}
use Rattle.std.proofs.Math.Bool.{and-true}
use Rattle.std.proofs.lemmas.Bool.{false≢true}
use Rattle.laws.specs.Lists.{all_below, every, range}
use Rattle.laws.specs.All.{all_at, and_left, and_right}
use Rattle.laws.specs.Every.{every_append}
use Rattle.laws.specs.Rows.{both_hold, same_test, four_hold, all_from, all_ext, every_map, every-flat_map, range_at, range_from}
use Rattle.limits.specs.Limits.{conductance_limit, storage_limit, between}
use Rattle.network.specs.Network.{Face}
use Rattle.network.specs.Grid.{Grid, layers_of, stored_columns, upper_layers, across_face, down_face, screen_faces, faces_of}
use Rattle.site.specs.Laws.{Within, within, counts_hold_lem}
use Rattle.site.specs.Site.{is_screened, counts_hold}
use Rattle.record.specs.declared.Record.{Record}
use Rattle.record.specs.Record.{slot, is_cell, has_below, has_screen, across_in, grid_of}
use Rattle.coefficient_slots.specs.Slots.{conductances_hold, storages_hold, coefficients_hold, used_slot, zero_unused, coefficients_unused}
use Rattle.coefficient_slots.specs.Held.{inside, slot_holds, array_holds, screen_slot_holds, screen_array_holds, slots_hold}

-- ---- the limits of each C and S
pub record Coefficients (G : Grid) : Type 0 where
  pub screen : (i : ℕ) → i < G.layers → G.screened i ≡ true → G.across i 0 ≤ conductance_limit
  pub across : (i j : ℕ) → i < G.layers → 1 ≤ j → j < G.columns → G.across i j ≤ conductance_limit
  pub down : (i j : ℕ) → suc i < G.layers → 1 ≤ j → j < G.columns → G.down i j ≤ conductance_limit
  pub storage : (i j : ℕ) → i < G.layers → 1 ≤ j → j < G.columns → Within 1 storage_limit (G.storage i j)

between_from : {lo hi n : ℕ} → Within lo hi n → between lo hi n ≡ true
between_from w = both_hold (le-leb _ _ w.least) (le-leb _ _ w.most)

module _ (G : Grid) where
  -- a test of each stored column
  pub columns_at : (p : ℕ → Bool) (j : ℕ) → every p (stored_columns G) ≡ true → 1 ≤ j → j < G.columns → p j ≡ true
  unfolding stored_columns
  columns_at p j e one k = range_at p 1 (G.columns - 1) j e one (omega arith)

  pub columns_from : (p : ℕ → Bool) → ((j : ℕ) → 1 ≤ j → j < G.columns → p j ≡ true) → every p (stored_columns G) ≡ true
  unfolding stored_columns
  columns_from p h = range_from p 1 (G.columns - 1) (λ j one k. h j one (omega arith))

  small : Face → Bool
  small f = leb f.conductance conductance_limit

  -- the faces of a layer's row, and those below it
  row_small : ℕ → Bool
  row_small i = every small (screen_faces G i ++ map (across_face G i) (stored_columns G))

  below_small : ℕ → Bool
  below_small i = every small (map (down_face G i) (stored_columns G))

  parts : conductances_hold G ≡ (every row_small (layers_of G) && every below_small (upper_layers G))
  unfolding conductances_hold faces_of small row_small below_small
  parts =
      every_append small (flat_map (λ i. screen_faces G i ++ map (across_face G i) (stored_columns G)) (layers_of G)) (flat_map (λ i. map (down_face G i) (stored_columns G)) (upper_layers G))
      ∙ ap₂ ◌&&◌ (every-flat_map small (λ i. screen_faces G i ++ map (across_face G i) (stored_columns G)) (layers_of G))
      (every-flat_map small (λ i. map (down_face G i) (stored_columns G)) (upper_layers G))

  screen_small : ℕ → Bool
  screen_small i = cond (G.screened i) (leb (G.across i 0) conductance_limit) true

  screen_small_lem : (i : ℕ) → every small (screen_faces G i) ≡ screen_small i
  unfolding every small screen_faces across_face screen_small
  screen_small_lem i = by_test (G.screened i)
    where
      by_test : (t : Bool) → every small (cond t (across_face G i 0 ∷ []) []) ≡ cond t (leb (G.across i 0) conductance_limit) true
      by_test true = and-true (leb (G.across i 0) conductance_limit)
      by_test false = refl

  row_small_lem : (i : ℕ) → row_small i ≡ (screen_small i && every (λ j. leb (G.across i j) conductance_limit) (stored_columns G))
  unfolding row_small small across_face
  row_small_lem i = every_append small (screen_faces G i) (map (across_face G i) (stored_columns G)) ∙ ap₂ ◌&&◌ (screen_small_lem i) (every_map small (across_face G i) (stored_columns G))

  below_small_lem : (i : ℕ) → below_small i ≡ every (λ j. leb (G.down i j) conductance_limit) (stored_columns G)
  unfolding below_small small down_face
  below_small_lem i = every_map small (down_face G i) (stored_columns G)

  screen_at_lem : (i : ℕ) → screen_small i ≡ true → G.screened i ≡ true → G.across i 0 ≤ conductance_limit
  unfolding screen_small
  screen_at_lem i e s = leb-true _ _ (rw s at e)

  screen_from : (i : ℕ) → (G.screened i ≡ true → G.across i 0 ≤ conductance_limit) → screen_small i ≡ true
  unfolding screen_small
  screen_from i h = by_test (G.screened i) (λ s. le-leb _ _ (h s))
    where
      by_test : (t : Bool) {u : Bool} → (t ≡ true → u ≡ true) → cond t u true ≡ true
      by_test true f = f refl
      by_test false f = refl

  pub coefficients_hold_lem : coefficients_hold G ≡ true → Coefficients G
  unfolding coefficients_hold storages_hold layers_of upper_layers
  coefficients_hold_lem e =
      let faces : (every row_small (range 0 G.layers) && every below_small (range 0 (G.layers - 1))) ≡ true = sym parts ∙ and_left (conductances_hold G) (storages_hold G) e in
      let rows = and_left (every row_small (range 0 G.layers)) (every below_small (range 0 (G.layers - 1))) faces in
      let belows = and_right (every row_small (range 0 G.layers)) (every below_small (range 0 (G.layers - 1))) faces in
      let row : (i : ℕ) → i < G.layers → (screen_small i && every (λ j. leb (G.across i j) conductance_limit) (stored_columns G)) ≡ true =
      λ i h. sym (row_small_lem i) ∙ range_at row_small 0 G.layers i rows (omega arith) (omega arith) in
      record {
        screen = λ i h s. screen_at_lem i (and_left (screen_small i) (every (λ j. leb (G.across i j) conductance_limit) (stored_columns G)) (row i h)) s;
        across = λ i j h one k. leb-true _ _ (columns_at (λ j. leb (G.across i j) conductance_limit) j (and_right (screen_small i) (every (λ j. leb (G.across i j) conductance_limit) (stored_columns G)) (row i h)) one k);
        down = λ i j h one k. leb-true _ _ (columns_at (λ j. leb (G.down i j) conductance_limit) j (sym (below_small_lem i) ∙ range_at below_small 0 (G.layers - 1) i belows (omega arith) (omega arith)) one k);
        storage = λ i j h one k. within 1 storage_limit (G.storage i j) (columns_at (λ j. between 1 storage_limit (G.storage i j)) j (range_at (λ i. every (λ j. between 1 storage_limit (G.storage i j)) (stored_columns G)) 0 G.layers i (and_right (conductances_hold G) (storages_hold G) e) (omega arith) (omega arith)) one k);
      }

  pub hold_coefficients : Coefficients G → coefficients_hold G ≡ true
  unfolding coefficients_hold storages_hold layers_of upper_layers
  hold_coefficients c =
      both_hold (parts ∙ both_hold
      (range_from row_small 0 G.layers (λ i a b. row_small_lem i ∙ both_hold (screen_from i (λ s. c.screen i (omega arith) s)) (columns_from (λ j. leb (G.across i j) conductance_limit) (λ j one k. le-leb _ _ (c.across i j (omega arith) one k)))))
      (range_from below_small 0 (G.layers - 1) (λ i a b. below_small_lem i ∙ columns_from (λ j. leb (G.down i j) conductance_limit) (λ j one k. le-leb _ _ (c.down i j (omega arith) one k)))))
      (range_from (λ i. every (λ j. between 1 storage_limit (G.storage i j)) (stored_columns G)) 0 G.layers (λ i a b. columns_from (λ j. between 1 storage_limit (G.storage i j)) (λ j one k. between_from (c.storage i j (omega arith) one k))))

-- ---- grids that are alike to the tests
pub record Alike (G H : Grid) : Type 0 where
  pub layers : G.layers ≡ H.layers
  pub columns : G.columns ≡ H.columns
  pub screened : (i : ℕ) → i < G.layers → G.screened i ≡ H.screened i
  pub screen : (i : ℕ) → i < G.layers → G.screened i ≡ true → leb (G.across i 0) conductance_limit ≡ leb (H.across i 0) conductance_limit
  pub across : (i j : ℕ) → i < G.layers → 1 ≤ j → j < G.columns → leb (G.across i j) conductance_limit ≡ leb (H.across i j) conductance_limit
  pub down : (i j : ℕ) → suc i < G.layers → 1 ≤ j → j < G.columns → leb (G.down i j) conductance_limit ≡ leb (H.down i j) conductance_limit
  pub storage : (i j : ℕ) → i < G.layers → 1 ≤ j → j < G.columns → between 1 storage_limit (G.storage i j) ≡ between 1 storage_limit (H.storage i j)

pub coefficients_ext : (G H : Grid) → Alike G H → coefficients_hold G ≡ coefficients_hold H
coefficients_ext G H a = same_test (coefficients_hold G) (coefficients_hold H) forth back
  where
    forth : coefficients_hold G ≡ true → coefficients_hold H ≡ true
    forth e =
        let c = coefficients_hold_lem G e in
        hold_coefficients H (record {
          screen = λ i h s. let g : i < G.layers = omega (arith, a.layers) in
              let t : G.screened i ≡ true = a.screened i g ∙ s in
              leb-true _ _ (sym (a.screen i g t) ∙ le-leb _ _ (c.screen i g t));
          across = λ i j h one k. let g : i < G.layers = omega (arith, a.layers) in
              let m : j < G.columns = omega (arith, a.columns) in
              leb-true _ _ (sym (a.across i j g one m) ∙ le-leb _ _ (c.across i j g one m));
          down = λ i j h one k. let g : suc i < G.layers = omega (arith, a.layers) in
              let m : j < G.columns = omega (arith, a.columns) in
              leb-true _ _ (sym (a.down i j g one m) ∙ le-leb _ _ (c.down i j g one m));
          storage = λ i j h one k. let g : i < G.layers = omega (arith, a.layers) in
              let m : j < G.columns = omega (arith, a.columns) in
              within 1 storage_limit (H.storage i j) (sym (a.storage i j g one m) ∙ between_from (c.storage i j g one m));
        })

    back : coefficients_hold H ≡ true → coefficients_hold G ≡ true
    back e =
        let c = coefficients_hold_lem H e in
        hold_coefficients G (record {
          screen = λ i h s. leb-true _ _ (a.screen i h s ∙ le-leb _ _ (c.screen i (omega (arith, a.layers)) (sym (a.screened i h) ∙ s)));
          across = λ i j h one k. leb-true _ _ (a.across i j h one k ∙ le-leb _ _ (c.across i j (omega (arith, a.layers)) one (omega (arith, a.columns))));
          down = λ i j h one k. leb-true _ _ (a.down i j h one k ∙ le-leb _ _ (c.down i j (omega (arith, a.layers)) one (omega (arith, a.columns))));
          storage = λ i j h one k. within 1 storage_limit (G.storage i j) (a.storage i j h one k ∙ between_from (c.storage i j (omega (arith, a.layers)) one (omega (arith, a.columns))));
        })

-- ---- a test of a slot by whether it is used: what it says of a used slot and of one that is not
pub used_held : (u b z : Bool) → cond u b z ≡ true → u ≡ true → b ≡ true
used_held true b z e q = e
used_held false b z e q = absurd (false≢true q)

unused_held : (u b z : Bool) → cond u b z ≡ true → (u || z) ≡ true
unused_held true b z e = refl
unused_held false b z e = e

pub held_from : (u b z : Bool) → (u ≡ true → b ≡ true) → (u || z) ≡ true → cond u b z ≡ true
held_from true b z f e = f refl
held_from false b z f e = e

-- slot i j, and back to layer and column
slot_layer : (i j : ℕ) → 1 ≤ j → j ≤ 50 → slot i j / 50 ≡ i
unfolding slot
slot_layer i j a b = omega arith

slot-column : (i j : ℕ) → 1 ≤ j → j ≤ 50 → slot i j % 50 + 1 ≡ j
unfolding slot
slot-column i j a b = omega arith

slot_of : (k : ℕ) → slot (k / 50) (k % 50 + 1) ≡ k
unfolding slot
slot_of k = omega arith

pub slot-below : (i j : ℕ) → i < 20 → j ≤ 50 → slot i j < 1000
unfolding slot
slot-below i j a b = omega arith

-- the slot of a cell is used, and what holds at the slot of each cell holds at every used slot
pub used_slot_lem : (n m i j : ℕ) → i < n → 1 ≤ j → j < m → m ≤ 50 → used_slot (inside n m) (slot i j) ≡ true
used_slot_lem n m i j h one k wide = rw (slot_layer i j one (omega arith), slot-column i j one (omega arith), lt-ltb _ _ h) (lt-ltb _ _ k)

pub by_slot : (n m : ℕ) (P : ℕ → Type 0) → ((i j : ℕ) → i < n → 1 ≤ j → j < m → P (slot i j)) → (k : ℕ) → used_slot (inside n m) k ≡ true → P k
by_slot n m P f k u =
    subst P (slot_of k)
    (f (k / 50) (k % 50 + 1) (ltb-true _ _ (and_left (ltb (k / 50) n) (ltb (k % 50 + 1) m) u)) (omega arith) (ltb-true _ _ (and_right (ltb (k / 50) n) (ltb (k % 50 + 1) m) u)))

-- an array by cell
module _ (n m : ℕ) (layers : n ≤ 20) (columns : m ≤ 50) (lo hi : ℕ) (l : List ℕ) where
  array_at : array_holds n m lo hi l ≡ true → (i j : ℕ) → i < n → 1 ≤ j → j < m → between lo hi (get_or l (slot i j) 0) ≡ true
  unfolding array_holds slot_holds
  array_at e i j h one k =
      used_held (used_slot (inside n m) (slot i j)) _ _ (all_at _ 1000 (slot i j) e (slot-below i j (omega arith) (omega arith))) (used_slot_lem n m i j h one k columns)

  array_unused : array_holds n m lo hi l ≡ true → zero_unused (inside n m) l ≡ true
  unfolding array_holds slot_holds zero_unused
  array_unused e = all_from _ 1000 (λ k h. unused_held (used_slot (inside n m) k) _ _ (all_at _ 1000 k e h))

  array_from : ((i j : ℕ) → i < n → 1 ≤ j → j < m → between lo hi (get_or l (slot i j) 0) ≡ true) → zero_unused (inside n m) l ≡ true → array_holds n m lo hi l ≡ true
  unfolding array_holds slot_holds zero_unused
  array_from f z =
      all_from _ 1000 (λ k h. held_from (used_slot (inside n m) k) (between lo hi (get_or l k 0)) (eqb (get_or l k 0) 0)
      (by_slot n m (λ k. between lo hi (get_or l k 0) ≡ true) f k)
      (all_at _ 1000 k z h))

-- the layers above the deepest are those that have one below
above_deepest : (n i : ℕ) → 1 ≤ n → ltb i (n - 1) ≡ ltb (suc i) n
above_deepest n i h =
    same_test (ltb i (n - 1)) (ltb (suc i) n) (λ e. lt-ltb (suc i) n (omega (arith, ltb-true i (n - 1) e))) (λ e. lt-ltb i (n - 1) (omega (arith, ltb-true (suc i) n e)))

-- ---- the test of a record's slots
module _ (r : Record) (counts : counts_hold r.site ≡ true) where
  few : r.site.layers ≤ 20
  few = (counts_hold_lem r.site counts).layers_most

  fewer : r.site.layers - 1 ≤ 20
  fewer = omega (arith, few)

  some_layer : 1 ≤ r.site.layers
  some_layer = omega (arith, (counts_hold_lem r.site counts).layers_least)

  narrow : r.site.columns ≤ 50
  narrow = (counts_hold_lem r.site counts).columns_most

  across_in_lem : (i j : ℕ) → 1 ≤ j → across_in r.screen r.horizontal i j ≡ get_or r.horizontal (slot i j) 0
  unfolding across_in
  across_in_lem i zero h = absurd (omega arith)
  across_in_lem i (suc j) h = refl

  vertical_unused : zero_unused (inside (r.site.layers - 1) r.site.columns) r.vertical ≡ zero_unused (has_below r.site) r.vertical
  unfolding zero_unused has_below
  vertical_unused =
      all_ext _ _ 1000 (λ k h. ap (λ t. t && ltb (k % 50 + 1) r.site.columns || eqb (get_or r.vertical k 0) 0) (above_deepest r.site.layers (k / 50) some_layer))

  slots_grid : slots_hold r ≡ true → Coefficients (grid_of r)
  unfolding slots_hold screen_array_holds screen_slot_holds grid_of across_in is_screened
  slots_grid e =
      let tests = four_hold (screen_array_holds r.site.layers r.site.screened r.screen) (array_holds r.site.layers r.site.columns 0 conductance_limit r.horizontal)
      (array_holds (r.site.layers - 1) r.site.columns 0 conductance_limit r.vertical) (array_holds r.site.layers r.site.columns 1 storage_limit r.storages) e in
      record {
        screen = λ i h s. leb-true _ _ (used_held (ltb i r.site.layers && eqb (get_or r.site.screened i 0) 1) _ _ (all_at _ 20 i tests.0 (omega (arith, few))) (both_hold (lt-ltb _ _ h) s));
        across = λ i j h one k. rw (across_in_lem i j one) (within 0 conductance_limit _ (array_at r.site.layers r.site.columns few narrow 0 conductance_limit r.horizontal tests.1 i j h one k)).most;
        down = λ i j h one k. (within 0 conductance_limit _ (array_at (r.site.layers - 1) r.site.columns fewer narrow 0 conductance_limit r.vertical tests.2 i j (omega arith) one k)).most;
        storage = λ i j h one k. within 1 storage_limit _ (array_at r.site.layers r.site.columns few narrow 1 storage_limit r.storages tests.3 i j h one k);
      }

  slots_unused : slots_hold r ≡ true → coefficients_unused r ≡ true
  unfolding slots_hold screen_array_holds screen_slot_holds coefficients_unused has_screen is_screened is_cell
  slots_unused e =
      let tests = four_hold (screen_array_holds r.site.layers r.site.screened r.screen) (array_holds r.site.layers r.site.columns 0 conductance_limit r.horizontal)
      (array_holds (r.site.layers - 1) r.site.columns 0 conductance_limit r.vertical) (array_holds r.site.layers r.site.columns 1 storage_limit r.storages) e in
      both_hold (both_hold (both_hold
      (all_from _ 20 (λ i h. unused_held (ltb i r.site.layers && eqb (get_or r.site.screened i 0) 1) _ _ (all_at _ 20 i tests.0 h)))
      (array_unused r.site.layers r.site.columns few narrow 0 conductance_limit r.horizontal tests.1))
      (sym vertical_unused ∙ array_unused (r.site.layers - 1) r.site.columns fewer narrow 0 conductance_limit r.vertical tests.2))
      (array_unused r.site.layers r.site.columns few narrow 1 storage_limit r.storages tests.3)

  slots_from : Coefficients (grid_of r) → coefficients_unused r ≡ true → slots_hold r ≡ true
  unfolding slots_hold screen_array_holds screen_slot_holds coefficients_unused grid_of across_in has_screen is_screened is_cell
  slots_from c u =
      let zero = four_hold (all_below 20 (λ i. has_screen r.site i || eqb (get_or r.screen i 0) 0)) (zero_unused (is_cell r.site) r.horizontal) (zero_unused (has_below r.site) r.vertical) (zero_unused (is_cell r.site) r.storages) u in
      both_hold (both_hold (both_hold
      (all_from _ 20 (λ i h. held_from (ltb i r.site.layers && eqb (get_or r.site.screened i 0) 1) _ _
      (λ used. le-leb _ _ (c.screen i (ltb-true _ _ (and_left (ltb i r.site.layers) (eqb (get_or r.site.screened i 0) 1) used)) (and_right (ltb i r.site.layers) (eqb (get_or r.site.screened i 0) 1) used)))
      (all_at _ 20 i zero.0 h)))
      (array_from r.site.layers r.site.columns few narrow 0 conductance_limit r.horizontal (λ i j h one k. between_from (record { least = zero-le; most = rw (across_in_lem i j one) at (c.across i j h one k) })) zero.1))
      (array_from (r.site.layers - 1) r.site.columns fewer narrow 0 conductance_limit r.vertical (λ i j h one k. between_from (record { least = zero-le; most = c.down i j (omega arith) one k })) (vertical_unused ∙ zero.2)))
      (array_from r.site.layers r.site.columns few narrow 1 storage_limit r.storages (λ i j h one k. between_from (c.storage i j h one k)) zero.3)

  pub slots-coefficients : slots_hold r ≡ (coefficients_hold (grid_of r) && coefficients_unused r)
  slots-coefficients =
      same_test _ (coefficients_hold (grid_of r) && coefficients_unused r)
      (λ e. both_hold (hold_coefficients (grid_of r) (slots_grid e)) (slots_unused e))
      (λ e. slots_from (coefficients_hold_lem (grid_of r) (and_left (coefficients_hold (grid_of r)) (coefficients_unused r) e)) (and_right (coefficients_hold (grid_of r)) (coefficients_unused r) e))

-- ---- the slots that no face or cell uses
pub record UnusedSlots (r : Record) : Type 0 where
  pub screen : (i : ℕ) → i < 20 → (has_screen r.site i || eqb (get_or r.screen i 0) 0) ≡ true
  pub across : (k : ℕ) → k < 1000 → (used_slot (is_cell r.site) k || eqb (get_or r.horizontal k 0) 0) ≡ true
  pub down : (k : ℕ) → k < 1000 → (used_slot (has_below r.site) k || eqb (get_or r.vertical k 0) 0) ≡ true
  pub storage : (k : ℕ) → k < 1000 → (used_slot (is_cell r.site) k || eqb (get_or r.storages k 0) 0) ≡ true

pub unused_slots : (r : Record) → coefficients_unused r ≡ true → UnusedSlots r
unfolding coefficients_unused zero_unused
unused_slots r e =
    let tests = four_hold (all_below 20 (λ i. has_screen r.site i || eqb (get_or r.screen i 0) 0)) (zero_unused (is_cell r.site) r.horizontal) (zero_unused (has_below r.site) r.vertical) (zero_unused (is_cell r.site) r.storages) e in
    record {
      screen = λ i h. all_at (λ i. has_screen r.site i || eqb (get_or r.screen i 0) 0) 20 i tests.0 h;
      across = λ k h. all_at (λ k. used_slot (is_cell r.site) k || eqb (get_or r.horizontal k 0) 0) 1000 k tests.1 h;
      down = λ k h. all_at (λ k. used_slot (has_below r.site) k || eqb (get_or r.vertical k 0) 0) 1000 k tests.2 h;
      storage = λ k h. all_at (λ k. used_slot (is_cell r.site) k || eqb (get_or r.storages k 0) 0) 1000 k tests.3 h;
    }
