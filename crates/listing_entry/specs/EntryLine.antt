-- The line of a pumping entry, as bytes (document 01, the last paragraph of 'A step').
use Rattle.std.specs.Prelude.{List, [], ◌∷◌, ℕ, ℤ, Result, Ok, Err}
use Rattle.refusals.specs.declared.Refusal.{Refusal}
use Rattle.refusals.specs.Refusals.{refusal_number}
use Rattle.decimal.specs.Decimal.{digits_of}
use Rattle.record.specs.declared.Answer.{Answer}
use Rattle.readings.specs.declared.Place.{Place}
use Rattle.readings.specs.declared.Totals.{Totals}
use Rattle.readings.specs.Readings.{drawdown_of, budget_of}
use Rattle.listing_lines.specs.Word.{word}
use Rattle.listing_lines.specs.Lines.{line_from, figure_of}

-- a refused step of entry n
unfoldable pub refused_line : ℕ → ℕ → List ℕ
refused_line n refusal = line_from (word "refused" ∷ digits_of n ∷ digits_of refusal ∷ [])

-- entry number, time in µs, well drawdown in µm; pumped, well loss, all cells' loss and inflow in nl. The budget's mark is not printed (N1)
unfoldable pub figures_line : ℕ → ℕ → ℤ → Totals → List ℕ
figures_line n time well t =
    line_from (
    digits_of n
    ∷ digits_of time
    ∷ figure_of well
    ∷ digits_of t.pumped
    ∷ figure_of t.well_loss
    ∷ figure_of t.cell_loss
    ∷ figure_of t.inflow
    ∷ [])

-- the line from what the readings answer; a refused reading stands in its place
unfoldable pub readings_line : ℕ → ℕ → Result ℤ Refusal → Result Totals Refusal → List ℕ
readings_line n time (Ok well) (Ok t) = figures_line n time well t
readings_line n time (Ok well) (Err k) = refused_line n (refusal_number k)
readings_line n time (Err k) b = refused_line n (refusal_number k)

-- the line of entry n after its run
unfoldable pub entry_line : ℕ → Answer → List ℕ
entry_line n a =
    elim a.outcome [
      | Ok u ↦ readings_line n a.«record».time (drawdown_of a.«record» Place.Well) (budget_of a.«record»)
      | Err k ↦ refused_line n (refusal_number k)
    ]
