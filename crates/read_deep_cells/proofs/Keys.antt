-- The codes in the order of their keys are the codes of the definition: laws only, nothing to believe.
--     shallow          no D is above the limit
--     same_codes       the slots whose D is deeper are those of the deep cells
--     arranged         the list that `arrange` makes is the definition's
use mathlib.Core.Path.{◌≡◌, refl, sym, ap, ap₂, ◌∙◌}
use mathlib.Core.Bool.{Bool, true, false, not, ◌&&◌}
use mathlib.Core.Logic.{◌⊎◌, inl, inr, ⊎_elim}
use mathlib.Core.List.{List, Memᴰ}
use Prim.Native.Nat.{ℕ, suc, ◌+◌, ◌*◌, ◌-◌, ◌/◌, ◌%◌, ◌≤◌, ◌<◌}
use native.Mathlib.Numerals.{add-one}
use native.Mathlib.Omega.{arith}
use lib.Dec.{eqb, leb}
use lib.IntN.{pos, nat_abs}
use lib.ListN.{get_or, replicate, get_or-map}
use lib.Signed.{lt_z}
use borrow.Author.Tests.{eqb-true, eq-eqb, le-ltb, le-leb, leb-true, ltb-true}
use Rattle.limits.specs.Limits.{drawdown_limit}
use Rattle.laws.specs.All.{and_left, and_right}
use Rattle.laws.specs.Fill.{get_or-fill_rest, get_or_same}
use Rattle.laws.specs.Integer.{≤ℤ_pos}
use Rattle.laws.specs.Lists.{range, ifℕ, sumℕ}
use Rattle.laws.specs.Number.{below_or_not}
use Rattle.laws.specs.Rows.{both_hold}
use Rattle.laws.specs.Sums.{sumℕ_ext, sumℕ_zero, sumℕ_one, sumℕ-map, range-below}
use Rattle.network.specs.Network.{drawdown}
use Rattle.network.specs.Grid.{place, network_of}
use Rattle.network.proofs.laws.Places.{place-below}
use Rattle.record.specs.declared.Record.{Record}
use Rattle.record.specs.Record.{grid_of, state_of}
use Rattle.validity.specs.Validity.{valid}
use Rattle.validity.specs.Laws.{valid_record}
use Rattle.slot_places.specs.Depths.{Depths}
use Rattle.slot_places.specs.Drawdowns.{depth-place, depth_unused}
use Rattle.readings.specs.Readings.{is_deeper, deep_codes}
use Rattle.read_deep_cells.specs.Codes.{code_of, key_by, key_of, below, deep_at, Shallow, Arrangement}
use Rattle.read_deep_cells.specs.Order.{depth_of_code, may_precede, in_order}
use Rattle.read_deep_cells.proofs.Ordered.{order_map, order_from, order_rising}
use Rattle.read_deep_cells.proofs.Slots.{sum_below, below_ext, deep_slot, stored, not-stored, codes, counted}
use Rattle.read_deep_cells.proofs.Deep.{may_precede_lem, code_depth, code_depth_lem, only_list}

-- of two keys the smaller has the greater D, or the same D and a smaller code
key_order : (L x y a b : ℕ) → x ≤ L → y ≤ L → a < 10000 → b < 10000 → (L - x) * 10000 + a ≤ (L - y) * 10000 + b → (y < x) ⊎ ((x ≡ y) × (a ≤ b))
key_order L x y a b hx hy ha hb h = ⊎_elim (λ lt. inl lt) (λ le. inr (omega arith, omega arith)) (below_or_not y x)

-- no D of a record that 14 lets pass is above the limit
module _ (r : Record) (ok : valid r ≡ true) (ds : List ℕ) (e : Depths r ds) where
  -- D of a slot that has a cell
  in_slot : (k : ℕ) → k < 50 * r.site.layers → k % 50 + 1 < r.site.columns
      → pos (get_or ds k 0) ≡ drawdown (network_of (grid_of r)) (state_of r).losses (place (grid_of r) (k / 50) (suc (k % 50)))
  in_slot k h b = ap (λ n. pos (get_or ds n 0)) whole ∙ depth-place r (valid_record r ok) ds e (k / 50) (k % 50) (omega arith) (omega arith)
    where
      whole : k ≡ 50 * (k / 50) + k % 50
      whole = omega arith

  used : (k : ℕ) → k < 50 * r.site.layers → k % 50 + 1 < r.site.columns → get_or ds k 0 ≤ drawdown_limit
  unfolding grid_of network_of
  used k h b = ≤ℤ_pos (rw (in_slot k h b) ((valid_record r ok).kept.depths (place (grid_of r) (k / 50) (suc (k % 50))) (place-below (grid_of r) (k / 50) (k % 50) (omega arith) (omega arith))))

  past : (k : ℕ) → 50 * r.site.layers ≤ k → get_or ds k 0 ≡ 0
  past k h = ap nat_abs (sym (get_or-map pos ds k 0) ∙ ap (λ l. get_or l k (pos 0)) e ∙ get_or-fill_rest _ (replicate 1000 (pos 0)) (50 * r.site.layers) k (pos 0) h ∙ get_or_same 1000 k (pos 0))

  pub shallow : Shallow ds
  shallow k = ⊎_elim
      (λ h. ⊎_elim (used k h) (λ b. omega (arith, depth_unused r (valid_record r ok) ds e k h b)) (below_or_not (k % 50 + 1) r.site.columns))
      (λ h. omega (arith, past k h))
      (below_or_not k (50 * r.site.layers))

module _ (r : Record) (D : ℕ) (ok : valid r ≡ true) (ds : List ℕ) (e : Depths r ds) where
  abbrev n : ℕ
  n = 50 * r.site.layers

  few : n ≤ 1000
  few = omega (arith, (counted r D ok).layers_most)

  same_slot : (k : ℕ) → k < n → deep_at D ds k ≡ deep_slot r D k
  unfolding deep_at is_deeper
  same_slot k h = ⊎_elim
      (λ lt. ap (lt_z (pos D)) (in_slot r ok ds e k h lt) ∙ rw (stored r (k % 50 + 1) (omega arith) lt, add-one (k % 50)))
      (λ le. le-ltb D (get_or ds k 0) (omega (arith, depth_unused r (valid_record r ok) ds e k h le)) ∙ rw (not-stored r (k % 50 + 1) le))
      (below_or_not (k % 50 + 1) r.site.columns)

  pub same_codes : below (deep_at D ds) code_of n ≡ codes r D
  unfolding codes
  same_codes = below_ext (deep_at D ds) (deep_slot r D) code_of n same_slot

  -- ---- a key

  left_code : (k : ℕ) → k < n → key_of ds k % 10000 ≡ code_of k
  unfolding key_by key_of code_of
  left_code k h = omega (arith, few)

  -- a deep slot has a cell, whose D its key holds
  slot-depth : (k : ℕ) → k < n → deep_at D ds k ≡ true → depth_of_code r (code_of k) ≡ pos (get_or ds k 0)
  unfolding depth_of_code code_of deep_at
  slot-depth k h t = ⊎_elim
      (λ lt. ap₂ (λ i j. drawdown (network_of (grid_of r)) (state_of r).losses (place (grid_of r) i j)) layer column ∙ sym (in_slot r ok ds e k h lt))
      (λ le. absurd (omega (arith, depth_unused r (valid_record r ok) ds e k h le, ltb-true D (get_or ds k 0) t)))
      (below_or_not (k % 50 + 1) r.site.columns)
    where
      layer : ((k / 50 + 1) * 100 + k % 50 + 1) / 100 - 1 ≡ k / 50
      layer = omega arith

      column : ((k / 50 + 1) * 100 + k % 50 + 1) % 100 ≡ suc (k % 50)
      column = omega arith

  is_key : ℕ → Bool
  is_key x = eqb x ((drawdown_limit - code_depth r ok (x % 10000)) * 10000 + x % 10000) && leb (code_depth r ok (x % 10000)) drawdown_limit

  is_key_lem : (k : ℕ) → k < n → deep_at D ds k ≡ true → is_key (key_of ds k) ≡ true
  unfolding is_key key_by key_of
  is_key_lem k h t = rw (left_code k h, held) (both_hold (eq-eqb (key_of ds k) (key_of ds k) refl) (le-leb (get_or ds k 0) drawdown_limit (shallow r ok ds e k)))
    where
      held : code_depth r ok (code_of k) ≡ get_or ds k 0
      held = ap nat_abs (sym (code_depth_lem r ok (code_of k)) ∙ slot-depth k h t)

  -- ---- keys in rising order

  module _ {l : List ℕ} (a : Arrangement D ds n l) where
    no_other : sumℕ a.keys (λ x. ifℕ (not (is_key x)) 1) ≡ 0
    unfolding ifℕ
    no_other =
        a.same (λ x. ifℕ (not (is_key x)) 1)
        ∙ sum_below (deep_at D ds) (key_of ds) (λ x. ifℕ (not (is_key x)) 1) n
        ∙ sumℕ_zero (range 0 n) (λ k m. by_test (key_of ds k) (deep_at D ds k) (λ t. is_key_lem k (range-below n m) t))
      where
        by_test : (x : ℕ) (t : Bool) → (t ≡ true → is_key x ≡ true) → ifℕ t (ifℕ (not (is_key x)) 1) ≡ 0
        by_test x true h = rw (h refl)
        by_test x false h = refl

    each_key : (x : ℕ) → Memᴰ x a.keys → is_key x ≡ true
    unfolding ifℕ
    each_key x m = by_test (is_key x) (omega (arith, no_other, sumℕ_one (λ x. ifℕ (not (is_key x)) 1) m))
      where
        by_test : (t : Bool) → ifℕ (not t) 1 ≤ 0 → t ≡ true
        by_test true h = refl
        by_test false h = absurd (omega arith)

    key_parts : (x : ℕ) → Memᴰ x a.keys → (x ≡ (drawdown_limit - code_depth r ok (x % 10000)) * 10000 + x % 10000) × (code_depth r ok (x % 10000) ≤ drawdown_limit)
    unfolding is_key
    key_parts x m =
        let t = each_key x m in
        let whole = eqb x ((drawdown_limit - code_depth r ok (x % 10000)) * 10000 + x % 10000) in
        let within = leb (code_depth r ok (x % 10000)) drawdown_limit in
        (eqb-true _ _ (and_left whole within t), leb-true _ _ (and_right whole within t))

    in_order_lem : in_order (may_precede r) l ≡ true
    in_order_lem = ap (in_order (may_precede r)) a.codes ∙ order_map (may_precede r) (λ x. x % 10000) a.keys
        (order_from (λ x y. may_precede r (x % 10000) (y % 10000)) leb a.keys (order_rising a.keys a.rising) (λ x y mx my h.
        let p = key_parts x mx in
        let q = key_parts y my in
        may_precede_lem r (x % 10000) (y % 10000) (code_depth r ok (x % 10000)) (code_depth r ok (y % 10000)) (code_depth_lem r ok (x % 10000)) (code_depth_lem r ok (y % 10000))
        (key_order drawdown_limit (code_depth r ok (x % 10000)) (code_depth r ok (y % 10000)) (x % 10000) (y % 10000) p.1 q.1 (omega arith) (omega arith) (omega (arith, p.0, q.0, leb-true x y h)))))

    sums : (g : ℕ → ℕ) → sumℕ l g ≡ sumℕ (codes r D) g
    sums g =
        ap (λ m. sumℕ m g) a.codes
        ∙ sumℕ-map (λ x. x % 10000) a.keys g
        ∙ a.same (λ x. g (x % 10000))
        ∙ sum_below (deep_at D ds) (key_of ds) (λ x. g (x % 10000)) n
        ∙ sumℕ_ext (range 0 n) (λ k m. ap (λ c. ifℕ (deep_at D ds k) (g c)) (left_code k (range-below n m)))
        ∙ sym (sum_below (deep_at D ds) code_of g n)
        ∙ ap (λ m. sumℕ m g) same_codes

    pub arranged : l ≡ deep_codes r D
    arranged = only_list r ok D l in_order_lem sums
