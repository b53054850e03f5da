-- Sums over a grid's list of faces, place by place: a cell's right, left, lower and upper face, the well's faces with the screened layers, the
-- last column's face in each layer. Each law has two weights, one for a face's end one and one for its end two, so that it serves the water of a
-- step and the sum of C.
use Rattle.std.specs.Prelude.{◌≡◌, Bool, cond, ◌&&◌, ltb, ℤ, neg_ℤ, ◌+ℤ◌, ◌-ℤ◌}
use Rattle.std.proofs.Math.Path.{refl, sym, ap₂}
use Rattle.std.proofs.Common.{ap, ◌∙◌, lt-ltb, le-ltb, eq-eqb, ne_eqb}
use Rattle.std.proofs.Math.Bool.{true, false}
use mathlib.Core.List.{[], ◌∷◌, ◌++◌, map, flat_map}
use Prim.Native.Nat.{ℕ, zero, suc, ◌+◌, ◌-◌, ◌≤◌, ◌<◌, zero-le}
use Rattle.std.proofs.Math.Decide.{dec_lt, ℕ_discrete}
use Rattle.std.proofs.Math.Nat.{add-zero, zero-add}
use native.Mathlib.Omega.{arith}
use Rattle.std.proofs.Math.Dec.{eqb, eqb-suc-suc, eqb-zero-suc}
use Rattle.std.proofs.Math.IntN.{pos}
use Rattle.laws.specs.Integer.{plus, minus, parts, diff_add}
use Rattle.laws.specs.Lists.{ifℕ, ifℤ, sumℕ, sumℤ}
use Rattle.laws.specs.Sums.{ifℕ_zero, ifℤ_diff, ifℤ_less, sumℕ_ext, sumℕ_zero, sumℕ_add, sumℕ_append, sumℕ-map, sumℕ-flat_map, sumℤ_diff, sumℕ_pick, range_mem, range-below}
use Rattle.network.specs.Network.{Face, is_place, outflow, toward, inward, conductance_sum}
use Rattle.network.specs.Grid.{Grid, stored_columns, layers_of, upper_layers, place_count, place, across_face, down_face, screen_faces, faces_of, network_of}
use Rattle.network.proofs.laws.Ends.{ends, leaving, entering, outflow_parts}
use Rattle.network.proofs.laws.Places.{place_well, place_is, off_well, place-stored}

-- whether layer i has a face between columns j and j+1: with the well only if it is screened
unfoldable pub joined : Grid → ℕ → ℕ → Bool
joined G i zero = G.screened i
joined G i (suc r) = true

-- two numbers added and two subtracted, as a difference of natural numbers
four_parts : (t u v : Bool) (a b c d : ℤ) → a -ℤ ifℤ t b +ℤ ifℤ u c -ℤ ifℤ v d
    ≡ pos (plus a + ifℕ t (minus b) + ifℕ u (plus c) + ifℕ v (minus d)) -ℤ pos (minus a + ifℕ t (plus b) + ifℕ u (minus c) + ifℕ v (plus d))
four_parts t u v a b c d =
    ap₂ ◌+ℤ◌ (ap₂ ◌+ℤ◌ (ap₂ ◌+ℤ◌ (parts a) (ifℤ_less t b _ _ (parts b)) ∙ diff_add (plus a) (minus a) _ _) (ifℤ_diff u c _ _ (parts c)) ∙ diff_add _ _ (ifℕ u (plus c)) (ifℕ u (minus c))) (ifℤ_less v d _ _ (parts d))
    ∙ diff_add _ _ (ifℕ v (minus d)) (ifℕ v (plus d))

module _ (G : Grid) where
  -- the faces of each layer from the well outward, then those between each layer and the next
  spread : (t : Face → ℕ) → sumℕ (faces_of G) t
      ≡ sumℕ (layers_of G) (λ i. ifℕ (G.screened i) (t (across_face G i 0)) + sumℕ (stored_columns G) (λ j. t (across_face G i j)))
      + sumℕ (upper_layers G) (λ i. sumℕ (stored_columns G) (λ j. t (down_face G i j)))
  unfolding faces_of screen_faces sumℕ ifℕ
  spread t =
      sumℕ_append (flat_map (λ i. screen_faces G i ++ map (across_face G i) (stored_columns G)) (layers_of G)) (flat_map (λ i. map (down_face G i) (stored_columns G)) (upper_layers G)) t
      ∙ ap₂ ◌+◌
      (sumℕ-flat_map (λ i. screen_faces G i ++ map (across_face G i) (stored_columns G)) (layers_of G) t
      ∙ sumℕ_ext (layers_of G) (λ i m. sumℕ_append (screen_faces G i) (map (across_face G i) (stored_columns G)) t ∙ ap₂ ◌+◌ (screen i (G.screened i)) (sumℕ-map (across_face G i) (stored_columns G) t)))
      (sumℕ-flat_map (λ i. map (down_face G i) (stored_columns G)) (upper_layers G) t ∙ sumℕ_ext (upper_layers G) (λ i m. sumℕ-map (down_face G i) (stored_columns G) t))
    where
      screen : (i : ℕ) (b : Bool) → sumℕ (cond b (across_face G i 0 ∷ []) []) t ≡ ifℕ b (t (across_face G i 0))
      screen i true = add-zero (t (across_face G i 0))
      screen i false = refl

  -- the face of layer i that leads to column r+1 from the side of the well
  left : (h : Face → ℕ) (i r : ℕ) → suc r < G.columns
      → ifℕ (G.screened i) (ifℕ (eqb (suc r) 1) (h (across_face G i 0))) + sumℕ (stored_columns G) (λ j. ifℕ (eqb (suc r) (suc j)) (h (across_face G i j))) ≡ ifℕ (joined G i r) (h (across_face G i r))
  unfolding ifℕ joined stored_columns
  left h i zero k = omega (arith, sumℕ_zero (stored_columns G) {g = λ j. ifℕ (eqb 1 (suc j)) (h (across_face G i j))} (λ j m. rw (ne_eqb 1 (suc j) (omega (arith, range_mem 1 (G.columns - 1) m)))))
  left h i (suc r) k =
      rw (ne_eqb (suc (suc r)) 1 (omega arith), ifℕ_zero (G.screened i), zero-add)
      (sumℕ_ext (stored_columns G) (λ j m. rw (eqb-suc-suc (suc r) j)) ∙ sumℕ_pick (λ j. h (across_face G i j)) 1 (G.columns - 1) (suc r) (omega arith) (omega arith))

  -- a layer's face with the next below, and with the next above
  lower : (x : ℕ → ℕ) (i₀ : ℕ) → sumℕ (upper_layers G) (λ i. ifℕ (eqb i₀ i) (x i)) ≡ ifℕ (ltb (suc i₀) G.layers) (x i₀)
  unfolding ifℕ upper_layers
  lower x i₀ = elim (dec_lt (suc i₀) G.layers) [
    | yes k ↦ rw (lt-ltb (suc i₀) G.layers k) (sumℕ_pick x 0 (G.layers - 1) i₀ zero-le (omega arith))
    | no k ↦ rw (le-ltb (suc i₀) G.layers (omega arith)) (sumℕ_zero (upper_layers G) (λ i m. rw (ne_eqb i₀ i (omega (arith, range-below (G.layers - 1) m)))))
  ]

  upper : (x : ℕ → ℕ) (i₀ : ℕ) → i₀ < G.layers → sumℕ (upper_layers G) (λ i. ifℕ (eqb i₀ (suc i)) (x i)) ≡ ifℕ (ltb 0 i₀) (x (i₀ - 1))
  unfolding ifℕ upper_layers
  upper x zero k = sumℕ_zero (upper_layers G) (λ i m. rw (eqb-zero-suc i))
  upper x (suc a) k =
      rw (lt-ltb 0 (suc a) (omega arith), one_less)
      (sumℕ_ext (upper_layers G) (λ i m. rw (eqb-suc-suc a i)) ∙ sumℕ_pick x 0 (G.layers - 1) a zero-le (omega arith))
    where
      one_less : suc a - 1 ≡ a
      one_less = omega arith

  module _ (g h : Face → ℕ) (i₀ r₀ : ℕ) (hi : i₀ < G.layers) (hr : suc r₀ < G.columns) where
    abbrev here : ℕ
    here = place G i₀ (suc r₀)

    at_across : (i j : ℕ) → ends g h here (across_face G i j) ≡ ifℕ (eqb i₀ i && eqb (suc r₀) j) (g (across_face G i j)) + ifℕ (eqb i₀ i && eqb (suc r₀) (suc j)) (h (across_face G i j))
    unfolding ends across_face
    at_across i j = rw (place_is G i₀ r₀ hi hr i j, place_is G i₀ r₀ hi hr i (suc j))

    at_down : (i j : ℕ) → ends g h here (down_face G i j) ≡ ifℕ (eqb i₀ i && eqb (suc r₀) j) (g (down_face G i j)) + ifℕ (eqb i₀ (suc i) && eqb (suc r₀) j) (h (down_face G i j))
    unfolding ends down_face
    at_down i j = rw (place_is G i₀ r₀ hi hr i j, place_is G i₀ r₀ hi hr (suc i) j)

    -- the one term of a row of cells, in its layer
    in_row : (t : Bool) (x : ℕ → ℕ) → sumℕ (stored_columns G) (λ j. ifℕ (t && eqb (suc r₀) j) (x j)) ≡ ifℕ t (x (suc r₀))
    unfolding ifℕ stored_columns
    in_row true x = sumℕ_pick x 1 (G.columns - 1) (suc r₀) (omega arith) (omega arith)
    in_row false x = sumℕ_zero (stored_columns G) (λ j m. refl)

    in_layer : (i : ℕ) → ifℕ (G.screened i) (ends g h here (across_face G i 0)) + sumℕ (stored_columns G) (λ j. ends g h here (across_face G i j))
        ≡ ifℕ (eqb i₀ i) (g (across_face G i (suc r₀)) + ifℕ (joined G i r₀) (h (across_face G i r₀)))
    unfolding ifℕ
    in_layer i =
        ap₂ ◌+◌ (ap (ifℕ (G.screened i)) (at_across i 0)) (sumℕ_ext (stored_columns G) (λ j m. at_across i j) ∙ sumℕ_add (stored_columns G) _ _ ∙ ap₂ ◌+◌ (in_row (eqb i₀ i) (λ j. g (across_face G i j))) refl)
        ∙ go (eqb i₀ i)
      where
        go : (t : Bool) → ifℕ (G.screened i) (ifℕ (t && eqb (suc r₀) 0) (g (across_face G i 0)) + ifℕ (t && eqb (suc r₀) 1) (h (across_face G i 0)))
            + (ifℕ t (g (across_face G i (suc r₀))) + sumℕ (stored_columns G) (λ j. ifℕ (t && eqb (suc r₀) (suc j)) (h (across_face G i j))))
            ≡ ifℕ t (g (across_face G i (suc r₀)) + ifℕ (joined G i r₀) (h (across_face G i r₀)))
        go true = rw (ne_eqb (suc r₀) 0 (omega arith), zero-add) (omega (arith, left h i r₀ hr))
        go false = rw (ifℕ_zero (G.screened i), zero-add, zero-add) (sumℕ_zero (stored_columns G) (λ j m. refl))

    between : (i : ℕ) → sumℕ (stored_columns G) (λ j. ends g h here (down_face G i j)) ≡ ifℕ (eqb i₀ i) (g (down_face G i (suc r₀))) + ifℕ (eqb i₀ (suc i)) (h (down_face G i (suc r₀)))
    between i =
        sumℕ_ext (stored_columns G) (λ j m. at_down i j)
        ∙ sumℕ_add (stored_columns G) _ _
        ∙ ap₂ ◌+◌ (in_row (eqb i₀ i) (λ j. g (down_face G i j))) (in_row (eqb i₀ (suc i)) (λ j. h (down_face G i j)))

    -- a cell has its right face and, where there is one, its left, its lower and its upper; it is the end one of its right and lower face
    pub cell : sumℕ (faces_of G) (ends g h (place G i₀ (suc r₀)))
        ≡ g (across_face G i₀ (suc r₀))
        + ifℕ (joined G i₀ r₀) (h (across_face G i₀ r₀))
        + ifℕ (ltb (suc i₀) G.layers) (g (down_face G i₀ (suc r₀)))
        + ifℕ (ltb 0 i₀) (h (down_face G (i₀ - 1) (suc r₀)))
    unfolding layers_of
    cell =
        spread (ends g h here)
        ∙ ap₂ ◌+◌
        (sumℕ_ext (layers_of G) (λ i m. in_layer i) ∙ sumℕ_pick (λ i. g (across_face G i (suc r₀)) + ifℕ (joined G i r₀) (h (across_face G i r₀))) 0 G.layers i₀ zero-le (omega arith))
        (sumℕ_ext (upper_layers G) (λ i m. between i) ∙ sumℕ_add (upper_layers G) _ _ ∙ ap₂ ◌+◌ (lower (λ i. g (down_face G i (suc r₀))) i₀) (upper (λ i. h (down_face G i (suc r₀))) i₀ hi))
        ∙ omega arith

  -- the well is the end one of its faces with the screened layers
  pub well : (g h : Face → ℕ) → sumℕ (faces_of G) (ends g h 0) ≡ sumℕ (layers_of G) (λ i. ifℕ (G.screened i) (g (across_face G i 0)))
  unfolding ends across_face down_face ifℕ stored_columns
  well g h =
      spread (ends g h 0)
      ∙ ap₂ ◌+◌
      (sumℕ_ext (layers_of G) (λ i m. ap₂ ◌+◌ (ap (ifℕ (G.screened i)) (at_well i)) (sumℕ_zero (stored_columns G) (λ j k. off_across i j (range_mem 1 (G.columns - 1) k).0)) ∙ add-zero (ifℕ (G.screened i) (g (across_face G i 0)))))
      (sumℕ_zero (upper_layers G) (λ i m. sumℕ_zero (stored_columns G) (λ j k. off_down i j (range_mem 1 (G.columns - 1) k).0)))
      ∙ add-zero (sumℕ (layers_of G) (λ i. ifℕ (G.screened i) (g (across_face G i 0))))
    where
      at_well : (i : ℕ) → ends g h 0 (across_face G i 0) ≡ g (across_face G i 0)
      at_well i = rw (eq-eqb (place G i 0) 0 (place_well G i), off_well G i 1 (omega arith)) (add-zero (g (across_face G i 0)))

      off_across : (i j : ℕ) → 0 < j → ends g h 0 (across_face G i j) ≡ 0
      off_across i j k = rw (off_well G i j k, off_well G i (suc j) (omega arith))

      off_down : (i j : ℕ) → 0 < j → ends g h 0 (down_face G i j) ≡ 0
      off_down i j k = rw (off_well G i j k, off_well G (suc i) j k)

  -- what the faces bring into the set of all places, they bring from the last column; u is a part of it
  pub last : (u : ℤ → ℕ) → u (pos 0) ≡ 0 → 1 < G.columns → (w : Face → ℤ)
      → sumℕ (faces_of G) (λ f. u (toward (ltb f.one (place_count G)) (ltb f.two (place_count G)) (w f))) ≡ sumℕ (layers_of G) (λ i. u (neg_ℤ (w (across_face G i (G.columns - 1)))))
  unfolding across_face down_face ifℕ toward stored_columns layers_of upper_layers
  last u none wide w =
      spread brings
      ∙ ap₂ ◌+◌
      (sumℕ_ext (layers_of G) (λ i m. ap₂ ◌+◌ (ap (ifℕ (G.screened i)) (at_well i (range-below G.layers m)) ∙ ifℕ_zero (G.screened i)) (in_layer i (range-below G.layers m)) ∙ zero-add (u (neg_ℤ (w (across_face G i (G.columns - 1)))))))
      (sumℕ_zero (upper_layers G) (λ i m. sumℕ_zero (stored_columns G) (λ j k. within i j (range-below (G.layers - 1) m) (range_mem 1 (G.columns - 1) k))))
      ∙ add-zero (sumℕ (layers_of G) (λ i. u (neg_ℤ (w (across_face G i (G.columns - 1))))))
    where
      brings : Face → ℕ
      brings f = u (toward (ltb f.one (place_count G)) (ltb f.two (place_count G)) (w f))

      at_well : (i : ℕ) → i < G.layers → brings (across_face G i 0) ≡ 0
      at_well i h = rw (place-stored G wide i 0 h, place-stored G wide i 1 h, lt-ltb 0 G.columns (omega arith), lt-ltb 1 G.columns wide) none

      within : (i j : ℕ) → i < G.layers - 1 → (1 ≤ j) × (j < 1 + (G.columns - 1)) → brings (down_face G i j) ≡ 0
      within i j h k = rw (place-stored G wide i j (omega arith), place-stored G wide (suc i) j (omega arith), lt-ltb j G.columns (omega arith)) none

      across : (i j : ℕ) → i < G.layers → (1 ≤ j) × (j < 1 + (G.columns - 1)) → brings (across_face G i j) ≡ ifℕ (eqb (G.columns - 1) j) (u (neg_ℤ (w (across_face G i j))))
      across i j h k = rw (place-stored G wide i j h, place-stored G wide i (suc j) h, lt-ltb j G.columns (omega arith)) (elim (ℕ_discrete (G.columns - 1) j) [
        | yes e ↦ rw (eq-eqb (G.columns - 1) j e, le-ltb (suc j) G.columns (omega arith))
        | no e ↦ rw (ne_eqb (G.columns - 1) j e, lt-ltb (suc j) G.columns (omega arith)) none
      ])

      in_layer : (i : ℕ) → i < G.layers → sumℕ (stored_columns G) (λ j. brings (across_face G i j)) ≡ u (neg_ℤ (w (across_face G i (G.columns - 1))))
      in_layer i h =
          sumℕ_ext (stored_columns G) (λ j m. across i j h (range_mem 1 (G.columns - 1) m))
          ∙ sumℕ_pick (λ j. u (neg_ℤ (w (across_face G i j)))) 1 (G.columns - 1) (G.columns - 1) (omega arith) (omega arith)

  -- ---- on the grid's network

  module _ (w : Face → ℤ) where
    -- what leaves a cell: right − left + lower − upper
    pub outflow_cell : (i r : ℕ) → i < G.layers → suc r < G.columns → outflow (network_of G) w (place G i (suc r))
        ≡ w (across_face G i (suc r))
        -ℤ ifℤ (joined G i r) (w (across_face G i r))
        +ℤ ifℤ (ltb (suc i) G.layers) (w (down_face G i (suc r)))
        -ℤ ifℤ (ltb 0 i) (w (down_face G (i - 1) (suc r)))
    unfolding network_of leaving entering
    outflow_cell i r hi hr =
        outflow_parts (network_of G) w (place G i (suc r))
        ∙ ap₂ (λ a b. pos a -ℤ pos b) (cell (λ f. plus (w f)) (λ f. minus (w f)) i r hi hr) (cell (λ f. minus (w f)) (λ f. plus (w f)) i r hi hr)
        ∙ sym (four_parts (joined G i r) (ltb (suc i) G.layers) (ltb 0 i) (w (across_face G i (suc r))) (w (across_face G i r)) (w (down_face G i (suc r))) (w (down_face G (i - 1) (suc r))))

    -- what leaves the well, over the screened layers
    pub outflow_well : outflow (network_of G) w 0 ≡ sumℤ (layers_of G) (λ i. ifℤ (G.screened i) (w (across_face G i 0)))
    unfolding network_of leaving entering
    outflow_well =
        outflow_parts (network_of G) w 0
        ∙ ap₂ (λ a b. pos a -ℤ pos b) (well (λ f. plus (w f)) (λ f. minus (w f))) (well (λ f. minus (w f)) (λ f. plus (w f)))
        ∙ sym (sumℤ_diff (layers_of G) _ _ _ (λ i. ifℤ_diff (G.screened i) (w (across_face G i 0)) _ _ (parts (w (across_face G i 0)))))

    -- what comes from the last column
    pub inward-last : 1 < G.columns → inward (network_of G) (is_place (network_of G)) w ≡ sumℤ (layers_of G) (λ i. neg_ℤ (w (across_face G i (G.columns - 1))))
    unfolding network_of inward is_place
    inward-last wide =
        sumℤ_diff (faces_of G) _ _ _ (λ f. parts _)
        ∙ ap₂ (λ a b. pos a -ℤ pos b) (last plus refl wide w) (last minus refl wide w)
        ∙ sym (sumℤ_diff (layers_of G) _ _ _ (λ i. parts (neg_ℤ (w (across_face G i (G.columns - 1))))))

  -- the sum of C of a cell's faces, and of the well's
  pub conductance_cell : (i r : ℕ) → i < G.layers → suc r < G.columns → conductance_sum (network_of G) (place G i (suc r))
      ≡ G.across i (suc r) + ifℕ (joined G i r) (G.across i r) + ifℕ (ltb (suc i) G.layers) (G.down i (suc r)) + ifℕ (ltb 0 i) (G.down (i - 1) (suc r))
  unfolding conductance_sum network_of ends across_face down_face
  conductance_cell i r hi hr = cell (λ f. f.conductance) (λ f. f.conductance) i r hi hr

  pub conductance_well : conductance_sum (network_of G) 0 ≡ sumℕ (layers_of G) (λ i. ifℕ (G.screened i) (G.across i 0))
  unfolding conductance_sum network_of ends across_face
  conductance_well = well (λ f. f.conductance) (λ f. f.conductance)
