-- Which faces the reading finds: laws only, nothing to believe.
--     Led             two ends that a C rule joins, in this order: the well's face, one across, one down; led: from the test
--     face_listed     the face that leads from one end to the other is among the grid's
--     one_way         no face leads back
use Rattle.std.specs.Prelude.{◌≡◌, Bool, ◌&&◌, ◌||◌, leb, ltb}
use Rattle.std.proofs.Math.Path.{refl}
use Rattle.std.proofs.Common.{arith}
use Rattle.std.proofs.Math.Bool.{true, false, and-false}
use Rattle.std.proofs.lemmas.Bool.{false≢true}
use mathlib.Core.List.Memᴰ
use mathlib.Core.List.{map, flat_map, Memᴰ}
use Prim.Native.Nat.{ℕ, zero, suc, ◌-◌, ◌≤◌, ◌<◌, zero-le}
use Rattle.std.proofs.Math.Dec.{eqb}
use borrow.Author.Tests.{eqb-true, leb-true, ltb-true, eq-eqb, ne_eqb}
use Rattle.laws.specs.All.{and_left, and_right}
use Rattle.laws.specs.Rows.{four_hold}
use Rattle.laws.specs.Sums.{mem_range, mem_flat_map}
use Rattle.network.specs.Grid.{Grid, stored_columns, layers_of, upper_layers, across_face, down_face, screen_faces, faces_of}
use Rattle.network.proofs.laws.Cells.{joined}
use Rattle.network.proofs.laws.Proper.{across_mem, down_mem}
use Rattle.readings.specs.declared.Place.{Place}
use Rattle.readings.specs.declared.Place.TheVariants.{Well, Cell}
use Rattle.readings.specs.Readings.{is_layer, is_stored, leads, face_from}

pub data Led (G : Grid) : Place → Place → Type 0 where
  screen : {k l : ℕ} → 1 ≤ k → k ≤ G.layers → G.screened (k - 1) ≡ true → l ≡ 1 → Led G Well (Cell k l)
  across : {i j k l : ℕ} → 1 ≤ i → i ≤ G.layers → 1 ≤ j → j < G.columns → k ≡ i → l ≡ suc j → Led G (Cell i j) (Cell k l)
  down : {i j k l : ℕ} → 1 ≤ i → i < G.layers → 1 ≤ j → j < G.columns → k ≡ suc i → l ≡ j → Led G (Cell i j) (Cell k l)

module _ (G : Grid) where
  pub led : (a b : Place) → leads G a b ≡ true → Led G a b
  unfolding leads is_layer is_stored
  led Well Well e = absurd (false≢true e)
  led (Cell i j) Well e = absurd (false≢true e)
  led Well (Cell k l) e =
      let tests = four_hold (leb 1 k) (leb k G.layers) (G.screened (k - 1)) (eqb l 1) e in
      screen (leb-true _ _ tests.0) (leb-true _ _ tests.1) tests.2 (eqb-true _ _ tests.3)
  led (Cell i j) (Cell k l) e =
      let tests = four_hold (is_layer G i) (is_layer G k) (is_stored G j) (eqb k i && eqb l (suc j) || eqb k (suc i) && eqb l j) e in
      go (eqb k i && eqb l (suc j)) refl tests.3 (leb-true _ _ (and_left (leb 1 i) (leb i G.layers) tests.0)) (leb-true _ _ (and_right (leb 1 i) (leb i G.layers) tests.0))
      (leb-true _ _ (and_right (leb 1 k) (leb k G.layers) tests.1)) (leb-true _ _ (and_left (leb 1 j) (ltb j G.columns) tests.2)) (ltb-true _ _ (and_right (leb 1 j) (ltb j G.columns) tests.2))
    where
      go : (t : Bool) → (eqb k i && eqb l (suc j)) ≡ t → (t || eqb k (suc i) && eqb l j) ≡ true → 1 ≤ i → i ≤ G.layers → k ≤ G.layers → 1 ≤ j → j < G.columns → Led G (Cell i j) (Cell k l)
      go true q e i₁ i₂ k₂ j₁ j₂ = across i₁ i₂ j₁ j₂ (eqb-true _ _ (and_left (eqb k i) (eqb l (suc j)) q)) (eqb-true _ _ (and_right (eqb k i) (eqb l (suc j)) q))
      go false q e i₁ i₂ k₂ j₁ j₂ =
          let below : k ≡ suc i = eqb-true _ _ (and_left (eqb k (suc i)) (eqb l j) e) in
          down i₁ (omega arith) j₁ j₂ below (eqb-true _ _ (and_right (eqb k (suc i)) (eqb l j) e))

  pub face_listed : {a b : Place} → Led G a b → Memᴰ (face_from G a b) (faces_of G)
  unfolding face_from joined faces_of screen_faces layers_of
  face_listed (screen {k} {l} k₁ k₂ s e) = Memᴰ.append_left (flat_map (λ i. map (down_face G i) (stored_columns G)) (upper_layers G))
      (mem_flat_map _ (mem_range G.layers zero-le (omega arith)) (Memᴰ.append_left {s = screen_faces G (k - 1)} (map (across_face G (k - 1)) (stored_columns G)) (rw s (Memᴰ.head refl))))
  face_listed (across {i} {j} {k} i₁ i₂ j₁ j₂ e f) = rw (eq-eqb k i e) (across_mem G (i - 1) j (omega arith) j₂ (stored j j₁))
    where
      stored : (j : ℕ) → 1 ≤ j → joined G (i - 1) j ≡ true
      stored zero h = absurd (omega arith)
      stored (suc j) h = refl
  face_listed (down {i} {j} {k} i₁ i₂ j₁ j₂ e f) = rw (ne_eqb k i (λ q. absurd (omega arith))) (down_mem G (i - 1) j (omega arith) j₁ j₂)

  pub one_way : {a b : Place} → Led G a b → leads G b a ≡ false
  unfolding leads
  one_way (screen k₁ k₂ s e) = refl
  one_way (across {i} {j} {k} {l} i₁ i₂ j₁ j₂ e f) = rw (ne_eqb j (suc l) (λ q. absurd (omega arith)), ne_eqb i (suc k) (λ q. absurd (omega arith)), and-false, and-false)
  one_way (down {i} {j} {k} {l} i₁ i₂ j₁ j₂ e f) = rw (ne_eqb i k (λ q. absurd (omega arith)), ne_eqb i (suc k) (λ q. absurd (omega arith)), and-false)
