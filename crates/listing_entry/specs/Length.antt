-- The line of an entry by its run, and how long it can be, with its line feed: laws only, nothing to believe.
--     line_taken, line_refused   the line where the run was taken, and where it was refused
--     line_read, line_no_drawdown, line_no_budget   where it was taken, by what the readings answer
--     number_most      the number of a refusal is at most 20
--     entry_short      it is at most 114 bytes, if its number is at most 500 and the time at most 500 entries of 10^6 steps of 10^9 µs
use Rattle.std.specs.Prelude.{◌≡◌, refl, List, [], ◌∷◌, ℕ, ◌+◌, ◌*◌, ◌^◌, ◌≤◌, ◌<◌, ℤ, nat_abs, length, Result, Ok, Err}
use Rattle.std.proofs.Common.{◌∙◌, arith, length-append}
use Rattle.laws.specs.Integer.{UpTo, abs_up_to}
use Rattle.refusals.specs.declared.Refusal.{Refusal}
use Rattle.refusals.specs.Refusals.{refusal_number}
use Rattle.decimal.specs.Decimal.{digits_of}
use Rattle.decimal.specs.Laws.{few_digits}
use Rattle.limits.specs.Limits.{length_limit}
use Rattle.record.specs.declared.Record.{Record}
use Rattle.record.specs.declared.Answer.{Answer}
use Rattle.readings.specs.declared.Place.{Place}
use Rattle.readings.specs.declared.Totals.{Totals}
use Rattle.readings.specs.Readings.{drawdown_of, budget_of}
use Rattle.listing_lines.specs.Word.{word}
use Rattle.listing_lines.specs.Lines.{line_from, figure_of}
use Rattle.listing_lines.specs.Laws.{figure_natural}
use Rattle.listing_entry.specs.EntryLine.{refused_line, figures_line, readings_line, entry_line}
use Rattle.listing_entry.specs.Figures.{Figures}
use Rattle.listing_entry.specs.Laws.{figures_read}

module _ (n : ℕ) (a : Answer) where
  pub line_taken : a.outcome ≡ Ok tt → entry_line n a ≡ readings_line n a.«record».time (drawdown_of a.«record» Place.Well) (budget_of a.«record»)
  unfolding entry_line
  line_taken e = rw (e, entry_line)

  pub line_read : {D : ℤ} {t : Totals} → a.outcome ≡ Ok tt → drawdown_of a.«record» Place.Well ≡ Ok D → budget_of a.«record» ≡ Ok t → entry_line n a ≡ figures_line n a.«record».time D t
  unfolding readings_line
  line_read o d b = line_taken o ∙ rw (d, b) refl

  pub line_no_drawdown : {k : Refusal} → a.outcome ≡ Ok tt → drawdown_of a.«record» Place.Well ≡ Err k → entry_line n a ≡ refused_line n (refusal_number k)
  unfolding readings_line
  line_no_drawdown o d = line_taken o ∙ rw d refl

  pub line_no_budget : {D : ℤ} {k : Refusal} → a.outcome ≡ Ok tt → drawdown_of a.«record» Place.Well ≡ Ok D → budget_of a.«record» ≡ Err k → entry_line n a ≡ refused_line n (refusal_number k)
  unfolding readings_line
  line_no_budget o d b = line_taken o ∙ rw (d, b) refl

  pub line_refused : (k : Refusal) → a.outcome ≡ Err k → entry_line n a ≡ refused_line n (refusal_number k)
  unfolding entry_line
  line_refused k e = rw (e, entry_line)

-- ---- its length

length_three : (a b c : List ℕ) → length (line_from (a ∷ b ∷ c ∷ [])) ≡ length a + length b + length c + 3
unfolding line_from
length_three a b c = simp length-append (omega arith)

length_seven : (a b c d e f g : List ℕ) → length (line_from (a ∷ b ∷ c ∷ d ∷ e ∷ f ∷ g ∷ [])) ≡ length a + length b + length c + length d + length e + length f + length g + 7
unfolding line_from
length_seven a b c d e f g = simp length-append (omega arith)

figure_short : (k : ℕ) {n : ℕ} (x : ℤ) → UpTo n x → 1 ≤ k → n < 10 ^ k → length (figure_of x) ≤ k
figure_short k x h one most = rw (figure_natural x h.0) (few_digits k (nat_abs x) one (omega (arith, abs_up_to h)))

-- the largest number of a refusal is that of document 02
pub number_most : (k : Refusal) → refusal_number k ≤ 20
unfolding refusal_number
number_most k = grind arith

refused_short : (n : ℕ) (k : Refusal) → n ≤ 500 → length (refused_line n (refusal_number k)) ≤ 114
unfolding refused_line word
refused_short n k h =
    let m = refusal_number k in
    let most = number_most k in
    omega (arith, length_three (word "refused") (digits_of n) (digits_of m), few_digits 3 n (omega arith) (omega arith), few_digits 2 m (omega arith) (omega (arith, most)))

figures_short : (n time : ℕ) (D : ℤ) (t : Totals) → n ≤ 500 → time ≤ 500 * (10 ^ 6 * length_limit) → Figures D t → length (figures_line n time D t) ≤ 114
unfolding figures_line
figures_short n time D t h m f =
    omega (
      arith,
      length_seven (digits_of n) (digits_of time) (figure_of D) (digits_of t.pumped) (figure_of t.well_loss) (figure_of t.cell_loss) (figure_of t.inflow),
      few_digits 3 n (omega arith) (omega arith),
      few_digits 18 time (omega arith) (omega arith),
      figure_short 10 D f.well (omega arith) (omega arith),
      few_digits 19 t.pumped (omega arith) (omega (arith, f.pumped)),
      figure_short 19 t.well_loss f.well_loss (omega arith) (omega arith),
      figure_short 19 t.cell_loss f.cell_loss (omega arith) (omega arith),
      figure_short 19 t.inflow f.inflow (omega arith) (omega arith),
    )

module _ (n : ℕ) (h : n ≤ 500) (r : Record) (m : r.time ≤ 500 * (10 ^ 6 * length_limit)) where
  by_readings : (d : Result ℤ Refusal) (b : Result Totals Refusal) → drawdown_of r Place.Well ≡ d → budget_of r ≡ b → length (readings_line n r.time d b) ≤ 114
  unfolding readings_line
  by_readings (Ok D) (Ok t) e q = figures_short n r.time D t h m (figures_read r D t e q)
  by_readings (Ok D) (Err k) e q = refused_short n k h
  by_readings (Err k) b e q = refused_short n k h

pub entry_short : (n : ℕ) → n ≤ 500 → (a : Answer) → a.«record».time ≤ 500 * (10 ^ 6 * length_limit) → length (entry_line n a) ≤ 114
unfolding entry_line
entry_short n h a m = by_outcome a.outcome
  where
    by_outcome : (o : Result Unit Refusal) → length {A = ℕ} (elim o [
      | Ok u ↦ readings_line n a.«record».time (drawdown_of a.«record» Place.Well) (budget_of a.«record»)
      | Err k ↦ refused_line n (refusal_number k)
    ]) ≤ 114
    by_outcome (Ok u) = by_readings n h a.«record» m (drawdown_of a.«record» Place.Well) (budget_of a.«record») refl refl
    by_outcome (Err k) = refused_short n k h
