-- How a scenario's numbers stand in an array, and how its sections are found there, one after the other.
use Rattle.std.specs.Prelude.{◌≡◌, Bool, List, ℕ, ◌+◌, ◌*◌, Result, length, get_or, drop}
use Rattle.laws.specs.Fill.{fill}
use Rattle.laws.specs.Lists.{padded, first}
use Rattle.limits.specs.Limits.{number_places}
use Rattle.refusals.specs.declared.Refusal.{Refusal}
use Rattle.refusals.specs.Refusals.{given}
use Rattle.sections.specs.declared.Layout.{Layout}
use Rattle.sections.specs.Sections.{section_count, section_tests, from_columns, from_well, from_loss, from_pumping, form_tests}

-- the array holds the numbers ns, no section of them is refused, and the layout has the place of each section's count
pub record Reads (values : List ℕ) (layout : Layout) (ns : List ℕ) : Type 0 where
  pub held : values ≡ padded number_places 0 ns
  pub form : first (form_tests ns) ≡ 0
  pub columns : from_columns ns ≡ drop layout.columns ns
  pub well : from_well ns ≡ drop layout.well ns
  pub loss : from_loss ns ≡ drop layout.loss ns
  pub pumping : from_pumping ns ≡ drop layout.pumping ns

-- r is what the section comes to whose count stands at `at` of `total` numbers, of `count` records of `width` numbers, the count within its limits or not:
-- the place after it, or the refusal of the first of its tests that holds
abbrev pub Section : (total width count : ℕ) (within : Bool) (at : ℕ) (r : Result ℕ Refusal) → Type 0
Section total width count within at r =
    (ns : List ℕ) (limits : ℕ → Bool) →
    total ≡ length ns → within ≡ limits count → count ≡ section_count (drop at ns) →
    r ≡ given (first (section_tests limits width (drop at ns))) (at + 1 + width * count)

-- ---- copies of numbers, one after the other to the front of a list
-- one number of each of n records of `width` numbers, the first of them at `from`
abbrev pub field_copy : List ℕ → ℕ → ℕ → ℕ → List ℕ → List ℕ
field_copy values from width n out = fill n (λ i. get_or values (from + width * i) 0) out
