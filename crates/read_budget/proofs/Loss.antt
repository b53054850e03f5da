-- The loss of a set of a valid record, by its slots and by its places.
--     cells_few                        a grid has few cells; slot-below, of_well, of_cell: the slot of a place
--     loss_asks, loss_room             what `loss_in` requires
--     loss-sum                         what it gives is the loss of the set
--     every_cell_lem                       the set of every cell
use mathlib.Core.Path.{◌≡◌, refl, sym, ap, ap₂, ◌∙◌}
use mathlib.Core.Bool.{Bool, true, false, not}
use mathlib.Core.List.{List, map}
use Prim.Native.Nat.{ℕ, zero, suc, ◌+◌, ◌*◌, ◌-◌, ◌/◌, ◌%◌, ◌≤◌, ◌<◌}
use native.Mathlib.Nat.{mod-lt, div-lt_iff_lt-mul, mul-le-mul, mul-le-mul_right}
use native.Mathlib.Omega.{arith}
use borrow.Author.Tests.{lt-ltb, eq-eqb, ne_eqb}
use lib.Arith.{digits_div, digits_mod}
use lib.Dec.{eqb, ltb}
use lib.IntN.{ℤ, pos}
use lib.ListN.{length, get_or, get_or-replicate}
use lib.Signed.{≤ℤ_refl}
use Rattle.std.specs.Prelude.{Ok, Err}
use Rattle.laws.specs.Integer.{plus, minus}
use Rattle.laws.specs.Refusal.First.{none, hit, skip}
use Rattle.laws.specs.Lists.{ifℕ, ifℤ, sumℤ, range}
use Rattle.laws.specs.Sums.{ifℕ_le, ifℤ_pos, sumℕ_le, sumℕ_zero, sumℕ-map, sumℤ_ext, range-below, Room}
use Rattle.limits.specs.Limits.{total_limit}
use Rattle.refusals.specs.declared.Refusal.{Refusal}
use Rattle.refusals.specs.Refusals.{refusal, given}
use Rattle.network.specs.Network.{Network, State, loss_at, loss_in}
use Rattle.network.specs.Grid.{place, place_count, one_per_place, network_of}
use Rattle.network.specs.Kept.{Kept}
use Rattle.network.proofs.laws.Places.{place_cell, by_place}
use Rattle.site.specs.Laws.{counts_hold_lem}
use Rattle.site.specs.Limited.{Counts}
use Rattle.record.specs.declared.Record.{Record}
use Rattle.record.specs.Record.{grid_of, state_of}
use Rattle.validity.specs.Laws.{Valid, valid_record}
use Rattle.validity.specs.Validity.{valid}
use Rattle.slot_places.specs.Slots.{loss_cell}
use Rattle.readings.specs.declared.Totals.{Totals}
use Rattle.read_budget.specs.Counted.{slot_loss, counted_loss, every_cell}
use Rattle.readings.specs.Readings.{totals_in, set_of, budget_of, loss_of}
use Rattle.network.proofs.laws.Totals.{size, size_is, all-lost}
use Rattle.readings.specs.Laws.{answered}

-- ---- the number of cells, and the slot of a place
pub cells_few : {layers columns : ℕ} → layers ≤ 20 → columns ≤ 50 → layers * (columns - 1) ≤ 980
cells_few {columns = columns} h k = let stored : columns - 1 ≤ 49 = omega arith in mul-le-mul h stored

pub slot-below : (stored p : ℕ) → 0 < stored → stored ≤ 50 → p < 1 + 20 * stored → 0 < p → 50 * ((p - 1) / stored) + (p - 1) % stored < 1000
slot-below stored p some h k one =
    omega (arith, mod-lt (p - 1) some, (div-lt_iff_lt-mul {k = stored} {x = p - 1} {y = 20} some).1 (omega arith))

module _ (well : ℤ) (l : List ℤ) (stored : ℕ) where
  pub of_well : (p : ℕ) → p ≡ 0 → well ≡ slot_loss well l stored p
  unfolding slot_loss
  of_well p e = rw e

  pub of_cell : (p : ℕ) → 0 < p → get_or l (50 * ((p - 1) / stored) + (p - 1) % stored) (pos 0) ≡ slot_loss well l stored p
  unfolding slot_loss
  of_cell zero h = absurd (omega arith)
  of_cell (suc q) h = ap (λ n. get_or l (50 * (n / stored) + n % stored) (pos 0)) (omega arith)

-- ---- the loss of a set
module _ (N : Network) (s : State) (kept : Kept N s) where
  abbrev V-of : ℕ → ℕ
  V-of = size s

  -- the losses of any set's places can be added one by one
  pub set_room : (t : ℕ → Bool) (g : ℕ → ℤ) → ((p : ℕ) → p < N.places → g p ≡ ifℤ (t p) (loss_at s.losses p)) → Room total_limit (pos 0) (map g (range 0 N.places))
  set_room t g e = record {
    natural = ≤ℤ_refl (pos 0);
    falls = rw (sumℕ-map g (range 0 N.places) minus) (omega (arith, sumℕ_zero (range 0 N.places) (λ p m. ap minus (is p (range-below N.places m)))));
    rises = rw (sumℕ-map g (range 0 N.places) plus) (omega (arith, all-lost N s kept, kept.pumped, sumℕ_le (range 0 N.places) {g = λ p. plus (g p)} {h = V-of} (λ p m. rw (ap plus (is p (range-below N.places m))) (ifℕ_le (t p) (V-of p)))));
  }
    where
      is : (p : ℕ) → p < N.places → g p ≡ pos (ifℕ (t p) (V-of p))
      is p h = e p h ∙ ap (ifℤ (t p)) (size_is N s kept p h) ∙ ifℤ_pos (t p) (V-of p)

module _ (r : Record) (v : Valid r) where
  abbrev N : Network
  N = network_of (grid_of r)

  abbrev vs : List ℤ
  vs = (state_of r).losses

  abbrev stored : ℕ
  stored = r.site.columns - 1

  counted : Counts r.site
  counted = counts_hold_lem r.site v.counts

  well_place : slot_loss r.well_loss r.losses stored 0 ≡ loss_at vs 0
  unfolding slot_loss loss_at state_of one_per_place
  well_place = refl

  cell_place : (i j : ℕ) → i < r.site.layers → suc j < r.site.columns → slot_loss r.well_loss r.losses stored (place (grid_of r) i (suc j)) ≡ loss_at vs (place (grid_of r) i (suc j))
  unfolding slot_loss grid_of
  cell_place i j hi hj =
      ap (slot_loss r.well_loss r.losses stored) (place_cell (grid_of r) i j hj ∙ number)
      ∙ ap (λ n. get_or r.losses n (pos 0)) (ap₂ (λ a b. 50 * a + b) (digits_div i {m = stored} {r = j} (omega arith)) (digits_mod i {m = stored} {r = j} (omega arith)))
      ∙ sym (loss_cell r v i j hi hj)
    where
      number : 1 + i * stored + j ≡ suc (i * stored + j)
      number = omega arith

  -- V of every place by its slot
  slot-place : (p : ℕ) → p < place_count (grid_of r) → slot_loss r.well_loss r.losses stored p ≡ loss_at vs p
  unfolding grid_of
  slot-place = by_place (grid_of r) (λ p. slot_loss r.well_loss r.losses stored p ≡ loss_at vs p) well_place cell_place

  module _ (bytes : List ℕ) (n : ℕ) (e : n ≡ 1 + r.site.layers * stored) where
    count_is : n ≡ N.places
    unfolding network_of grid_of place_count
    count_is = e

    counted_is : (p : ℕ) → p < N.places → counted_loss r.well_loss r.losses stored bytes p ≡ ifℤ (set_of bytes p) (loss_at vs p)
    unfolding counted_loss network_of
    counted_is p h = ap (ifℤ (set_of bytes p)) (slot-place p h)

    pub loss_asks : n ≤ length bytes → (0 < stored) × (stored ≤ 50) × (n ≤ 1 + 20 * stored) × (n ≤ length bytes)
    loss_asks h = (omega (arith, counted.columns_least), omega (arith, counted.columns_most), omega (arith, mul-le-mul_right stored counted.layers_most), h)

    pub loss_room : Room total_limit (pos 0) (map (counted_loss r.well_loss r.losses stored bytes) (range 0 n))
    loss_room = rw count_is (set_room N (state_of r) v.kept (set_of bytes) _ counted_is)

    pub loss-sum : (t : ℕ → Bool) → ((p : ℕ) → p < n → set_of bytes p ≡ t p) → sumℤ (range 0 n) (counted_loss r.well_loss r.losses stored bytes) ≡ loss_in N t vs
    unfolding loss_in
    loss-sum t h = rw count_is (sumℤ_ext (range 0 N.places) (λ p m. let b = range-below N.places m in counted_is p b ∙ ap (λ x. ifℤ x (loss_at vs p)) (h p (rw count_is b))))

-- ---- the set of every cell
every-length : length every_cell ≡ 981
unfolding every_cell
every-length = refl

pub every_cell_lem : (p : ℕ) → p < 981 → set_of every_cell p ≡ ltb 0 p
unfolding set_of every_cell
every_cell_lem zero h = refl
every_cell_lem (suc q) h = rw (get_or-replicate {A = ℕ} 980 q 1 0 (omega arith), lt-ltb 0 (suc q) (omega arith))

-- ---- the answers of `storage_loss` and `budget`
pub loss_14 : (r : Record) (bytes : List ℕ) → valid r ≡ false → Err Refusal.Record ≡ loss_of r bytes
unfolding loss_of given refusal
loss_14 r bytes e = answered _ (hit (ap not e)) refl

pub count_asks : (r : Record) → valid r ≡ true → (r.site.layers ≤ 20) × (1 ≤ r.site.columns) × (r.site.columns ≤ 50)
count_asks r ok = let c = counts_hold_lem r.site (valid_record r ok).counts in omega (arith, c.layers_most, c.columns_least, c.columns_most)

pub budget_14 : (r : Record) → valid r ≡ false → Err Refusal.Record ≡ budget_of r
unfolding budget_of given refusal
budget_14 r e = answered _ (hit (ap not e)) refl

module _ (r : Record) (ok : valid r ≡ true) (n : ℕ) (e : n ≡ 1 + r.site.layers * (r.site.columns - 1)) where
  module _ (bytes : List ℕ) where
    length_test : eqb (length bytes) (place_count (grid_of r)) ≡ eqb (length bytes) n
    unfolding place_count grid_of
    length_test = rw e

    pub loss_13 : (length bytes ≡ n → ⊥) → Err Refusal.LentLength ≡ loss_of r bytes
    unfolding loss_of given refusal
    loss_13 h = answered _ (skip (ap not ok) (hit (ap not (length_test ∙ ne_eqb (length bytes) n h)))) refl

    pub loss-given : {x : ℤ} → length bytes ≡ n → x ≡ sumℤ (range 0 n) (counted_loss r.well_loss r.losses (r.site.columns - 1) bytes) → Ok x ≡ loss_of r bytes
    unfolding loss_of given
    loss-given h q = answered _ (skip (ap not ok) (skip (ap not (length_test ∙ eq-eqb (length bytes) n h)) none)) (ap Ok (q ∙ loss-sum r (valid_record r ok) bytes n e (set_of bytes) (λ p b. refl)))

  places_few : n ≤ 981
  places_few = let c = counts_hold_lem r.site (valid_record r ok).counts in omega (arith, cells_few c.layers_most c.columns_most)

  pub cells_listed : n ≤ length every_cell
  cells_listed = omega (arith, every-length, places_few)

  pub budget_given : {w x i m : ℤ} → w ≡ r.well_loss → x ≡ sumℤ (range 0 n) (counted_loss r.well_loss r.losses (r.site.columns - 1) every_cell) → i ≡ r.inflow → m ≡ r.mark
      → Ok (record { pumped = r.pumped; well_loss = w; cell_loss = x; inflow = i; mark = m }) ≡ budget_of r
  unfolding budget_of given totals_in state_of loss_at one_per_place
  budget_given p q o m = answered _ (skip (ap not ok) none)
      (ap Ok (rw (p, o, m) (ap {B = Totals} (λ z. record { pumped = r.pumped; well_loss = r.well_loss; cell_loss = z; inflow = r.inflow; mark = r.mark })
      (q ∙ loss-sum r (valid_record r ok) every_cell n e (λ p. ltb 0 p) (λ p h. every_cell_lem p (omega (arith, places_few)))))))
