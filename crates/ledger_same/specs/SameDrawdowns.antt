-- Document 01's rule of same: equal layer and column counts, and equal D everywhere. By document 02 (N10) no call answers by it any more; it is here for
-- N10's second clause, "the new yes implies the old". D is in µm.
use Rattle.std.specs.Prelude.{◌≡◌, Bool, true, not, ◌&&◌, ◌||◌, [], ◌∷◌, eqb, Result}
use Rattle.refusals.specs.declared.Refusal.{Refusal}
use Rattle.refusals.specs.Refusals.{given}
use Rattle.laws.specs.Lists.{all_below, first}
use Rattle.network.specs.Network.{drawdown}
use Rattle.network.specs.Grid.{place_count, network_of}
use Rattle.record.specs.declared.Record.{Record}
use Rattle.record.specs.Record.{grid_of, state_of}
use Rattle.validity.specs.Validity.{equalℤ, valid}
use Rattle.readings.specs.declared.Place.{Place}
use Rattle.readings.specs.Readings.{is_named, drawdown_of}

-- the rule in what the drawdown reading answers: at every place that either record has it gives the same of both
pub record SameDrawdowns (r q : Record) : Type 0 where
  pub layers : r.site.layers ≡ q.site.layers
  pub columns : r.site.columns ≡ q.site.columns
  pub depths : (p : Place) → (is_named (grid_of r) p || is_named (grid_of q) p) ≡ true → drawdown_of r p ≡ drawdown_of q p

-- ---- the same rule as a test: by it `same` answered before N10

-- equal D at each place
unfoldable pub same_depths : Record → Record → Bool
same_depths r q =
    all_below (place_count (grid_of r)) λ p. equalℤ (drawdown (network_of (grid_of r)) (state_of r).losses p) (drawdown (network_of (grid_of q)) (state_of q).losses p)

-- what `same` answered by it: 14 for either record, else by counts and D
unfoldable pub same_drawdowns_of : Record → Record → Result Bool Refusal
same_drawdowns_of r q =
    given (first ((not (valid r), 14) ∷ (not (valid q), 14) ∷ []))
    (eqb (grid_of r).layers (grid_of q).layers && eqb (grid_of r).columns (grid_of q).columns && same_depths r q)
