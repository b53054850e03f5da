-- The figures of a line, from the readings: laws only, nothing to believe.
--     figures_read     the figures that the readings of a record give are within their limits
use Rattle.std.specs.Prelude.{◌≡◌, Bool, not, ℤ, pos, nat_abs, Ok}
use Rattle.std.proofs.Math.Path.{sym, ap}
use Rattle.std.proofs.Common.{◌∙◌, arith}
use Prim.Native.Nat.{ℕ, ◌+◌, ◌≤◌, zero-le}
use borrow.Author.Tests.{not-false}
use Rattle.std.proofs.Math.Dec.{ltb}
use Rattle.laws.specs.Integer.{natural, pos_≤ℤ, UpTo}
use Rattle.laws.specs.Refusal.{passed}
use Rattle.laws.specs.Lists.{ifℕ, ifℤ, sumℕ, range}
use Rattle.laws.specs.Sums.{ifℕ_le, ifℤ_pos, sumℕ_le, sumℕ_one, sumℤ_ext, sumℤ_pos, range-below, mem_range}
use Rattle.refusals.specs.Laws.{value_given}
use Rattle.limits.specs.Limits.{total_limit}
use Rattle.network.specs.Network.{Network, State, drawdown, loss_in}
use Rattle.network.specs.Grid.{network_of}
use Rattle.network.specs.Kept.{Proper, Kept}
use Rattle.network.proofs.laws.Bounds.{depth_natural}
use Rattle.network.proofs.laws.Totals.{size, size_is, all-lost}
use Rattle.record.specs.declared.Record.{Record}
use Rattle.record.specs.Record.{grid_of, state_of}
use Rattle.validity.specs.Validity.{valid}
use Rattle.validity.specs.Laws.{valid_record, valid_proper}
use Rattle.readings.specs.declared.Place.{Place}
use Rattle.readings.specs.declared.Totals.{Totals}
use Rattle.readings.specs.Readings.{number_of, drawdown_of, totals_in, budget_of}
use Rattle.listing_entry.specs.Figures.{Figures}

-- ---- of a state in its limits

up_to : {n : ℕ} (limit : ℕ) → n ≤ limit → UpTo limit (pos n)
up_to limit h = (pos_≤ℤ zero-le, pos_≤ℤ h)

module _ (N : Network) (proper : Proper N) (s : State) (kept : Kept N s) where
  all : ℕ
  all = sumℕ (range 0 N.places) (size s)

  -- V of a set as a natural number
  set_is : (t : ℕ → Bool) → loss_in N t s.losses ≡ pos (sumℕ (range 0 N.places) (λ p. ifℕ (t p) (size s p)))
  unfolding loss_in
  set_is t =
      sumℤ_ext (range 0 N.places) (λ p m. ap (ifℤ (t p)) (size_is N s kept p (range-below N.places m)) ∙ ifℤ_pos (t p) (size s p))
      ∙ sumℤ_pos (range 0 N.places) (λ p. ifℕ (t p) (size s p))

  set_most : (t : ℕ → Bool) → sumℕ (range 0 N.places) (λ p. ifℕ (t p) (size s p)) ≤ all
  unfolding all
  set_most t = sumℕ_le (range 0 N.places) (λ p m. ifℕ_le (t p) (size s p))

  -- all losses and the inflow are the pumped total
  whole : all + nat_abs s.inflow ≤ total_limit
  unfolding all
  whole = omega (arith, kept.pumped, all-lost N s kept)

  well_size : size s 0 ≤ all
  unfolding all
  well_size = sumℕ_one (size s) (mem_range N.places zero-le (omega (arith, proper.well)))

  state_figures : (mark : ℤ) → Figures (drawdown N s.losses 0) (totals_in N s mark)
  unfolding totals_in
  state_figures mark = record {
    well = (depth_natural N proper s kept 0, kept.depths 0 proper.well);
    pumped = kept.pumped;
    well_loss = rw (size_is N s kept 0 proper.well) (up_to total_limit (omega (arith, well_size, whole)));
    cell_loss = rw (set_is (λ p. ltb 0 p)) (up_to total_limit (omega (arith, set_most (λ p. ltb 0 p), whole)));
    inflow = rw (natural kept.inflow) (up_to total_limit (omega (arith, whole)));
  }

-- ---- of what the readings give

module _ (r : Record) where
  pub figures_read : (D : ℤ) (t : Totals) → drawdown_of r Place.Well ≡ Ok D → budget_of r ≡ Ok t → Figures D t
  unfolding drawdown_of budget_of number_of
  figures_read D t e q =
      let depth = value_given _ _ e in
      let totals = value_given _ _ q in
      let ok = not-false _ (passed (not (valid r)) 13 _ depth.0).0 in
      rw (sym depth.1, sym totals.1) (state_figures (network_of (grid_of r)) (valid_proper r (valid_record r ok)) (state_of r) (valid_record r ok).kept r.mark)
