-- Why no sum of a step passes the word: on a grid the water of a place's faces can be added to its loss one face after another, and the last
-- column's water to the inflow total, with every sum on the way between 0 and the pumped total.
use Rattle.std.specs.Prelude.{◌≡◌, refl, true, [], ◌∷◌, map, ltb, pos, ◌+ℤ◌, ◌≤ℤ◌}
use Rattle.std.proofs.Common.{sym, ◌∙◌, arith}
use Prim.Native.Nat.{ℕ, suc, ◌+◌, ◌-◌, ◌≤◌, ◌<◌, zero-le}
use Rattle.std.proofs.Math.IntN.{ℤ, neg_ℤ, +ℤ_idr}
use Rattle.laws.specs.Integer.{plus, minus, parts, plus_neg, minus_neg, nonneg_minus, natural, ≤ℤ_pos}
use Rattle.laws.specs.Lists.{ifℤ, sumℕ}
use Rattle.laws.specs.Sums.{sumℕ_ext, sumℕ-map, sumℕ_zero, sumℤ_diff, plus_if, minus_if, Room}
use Rattle.network.specs.Network.{Face, State, is_place, loss_at, flow, from_last_column, stable}
use Rattle.network.specs.Grid.{Grid, layers_of, place, across_face, down_face, faces_of, network_of}
use Rattle.network.specs.Kept.{Proper, Kept}
use Rattle.network.proofs.laws.Ends.{leaving, entering}
use Rattle.network.proofs.laws.Bounds.{loss, entering_le, supply, last_face, inflow_le}
use Rattle.network.proofs.laws.Cells.{joined, cell, well, last, inward-last}
use Rattle.network.proofs.laws.Places.{place-below}

module _ (G : Grid) (proper : Proper (network_of G)) (s : State) (kept : Kept (network_of G) s) (dt : ℕ) (st : stable (network_of G) dt ≡ true) where
  abbrev pub water : Face → ℤ
  water = flow (network_of G) s.losses dt

  -- a cell: right, lower, left, upper
  pub cell_room_lem : (i r : ℕ) → i < G.layers → suc r < G.columns → Room s.pumped (loss_at s.losses (place G i (suc r))) (
      water (across_face G i (suc r))
      ∷ ifℤ (ltb (suc i) G.layers) (water (down_face G i (suc r)))
      ∷ neg_ℤ (ifℤ (joined G i r) (water (across_face G i r)))
      ∷ neg_ℤ (ifℤ (ltb 0 i) (water (down_face G (i - 1) (suc r))))
      ∷ [])
  unfolding network_of loss leaving entering sumℕ
  cell_room_lem i r hi hr = record {
    natural = kept.losses (place G i (suc r)) (place-below G i r hi hr);
    falls = rw (minus_neg, minus_neg, minus_if, plus_if, plus_if)
        (omega (arith, cell G (λ f. minus (water f)) (λ f. plus (water f)) i r hi hr, entering_le (network_of G) proper s kept dt st (place G i (suc r)) (place-below G i r hi hr)));
    rises = rw (plus_neg, plus_neg, plus_if, minus_if, minus_if)
        (omega (arith, cell G (λ f. plus (water f)) (λ f. minus (water f)) i r hi hr, supply (network_of G) proper s kept dt st (place G i (suc r)) (place-below G i r hi hr)));
  }

  -- the well: the screened layers
  pub well_room_lem : Room s.pumped (loss_at s.losses 0) (map (λ i. ifℤ (G.screened i) (water (across_face G i 0))) (layers_of G))
  unfolding network_of loss leaving entering
  well_room_lem = record {
    natural = kept.losses 0 proper.well;
    falls = rw (sumℕ-map (λ i. ifℤ (G.screened i) (water (across_face G i 0))) (layers_of G) minus, sumℕ_ext (layers_of G) (λ i m. minus_if (G.screened i) (water (across_face G i 0))))
        (omega (arith, well G (λ f. minus (water f)) (λ f. plus (water f)), entering_le (network_of G) proper s kept dt st 0 proper.well));
    rises = rw (sumℕ-map (λ i. ifℤ (G.screened i) (water (across_face G i 0))) (layers_of G) plus, sumℕ_ext (layers_of G) (λ i m. plus_if (G.screened i) (water (across_face G i 0))))
        (omega (arith, well G (λ f. plus (water f)) (λ f. minus (water f)), supply (network_of G) proper s kept dt st 0 proper.well));
  }

  -- the last column: every layer's face gives water
  pub last_room_lem : 1 < G.columns → Room s.pumped s.inflow (map (λ i. neg_ℤ (water (across_face G i (G.columns - 1)))) (layers_of G))
  unfolding network_of from_last_column is_place
  last_room_lem wide = record {
    natural = kept.inflow;
    falls = rw (sumℕ-map given (layers_of G) minus, none) zero-le;
    rises = rw (sumℕ-map given (layers_of G) plus) (≤ℤ_pos (rw (natural kept.inflow, all) at (inflow_le (network_of G) proper s kept dt st)));
  }
    where
      given : ℕ → ℤ
      given i = neg_ℤ (water (across_face G i (G.columns - 1)))

      none : sumℕ (layers_of G) (λ i. minus (given i)) ≡ 0
      none = sym (last G minus refl wide water) ∙ sumℕ_zero (faces_of G) (λ f m. nonneg_minus (last_face (network_of G) proper s kept dt f m))

      all : from_last_column (network_of G) s.losses dt ≡ pos (sumℕ (layers_of G) (λ i. plus (given i)))
      all = inward-last G water wide ∙ sumℤ_diff (layers_of G) given (λ i. plus (given i)) (λ i. minus (given i)) (λ i. parts (given i)) ∙ rw none (+ℤ_idr (pos (sumℕ (layers_of G) (λ i. plus (given i)))))
