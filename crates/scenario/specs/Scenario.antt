-- What start and pumping_entry answer to a text (document 01, 'The scenario text' and 'Who brings a refusal about'). A text is the list of its bytes.
use Rattle.std.specs.Prelude.{Bool, not, ◌&&◌, ◌||◌, List, [], ◌∷◌, ◌++◌, ℕ, ◌-◌, eqb, ltb, Result}
use Rattle.refusals.specs.declared.Refusal.{Refusal}
use Rattle.refusals.specs.Refusals.{given}
use Rattle.laws.specs.Lists.{first}
use Rattle.text.specs.Text.{well_formed, numbers}
use Rattle.site.specs.declared.Site.{Site}
use Rattle.site.specs.Site.{numbers_hold, radii_hold, screen_holds}
use Rattle.sections.specs.declared.Entry.{Entry}
use Rattle.sections.specs.Sections.{form_tests, site_of, repeats_hold, entries_of, entry_at}
use Rattle.record.specs.declared.Answer.{Answer}
use Rattle.record.specs.Record.{zero_record, answer_of}
use Rattle.coefficient_slots.specs.Slots.{coefficients_hold}
use Rattle.coefficients.specs.Coefficients.{scenario_grid, start_record}

-- the scenario's numbers: those of the first four sections
unfoldable pub scenario_of : List ℕ → Site
scenario_of text = site_of (numbers text)

-- the conditions on its numbers; `repeats` says that the pumping entries' repeats are within their limits
unfoldable pub number_tests : Site → Bool → List (Bool × ℕ)
number_tests s repeats =
    (not (numbers_hold s && repeats), 3)
    ∷ (not (radii_hold s), 4)
    ∷ (not (screen_holds s), 5)
    ∷ (not (coefficients_hold (scenario_grid s)), 6)
    ∷ []

-- the conditions on a text in the order of judgement: the form of its lines over the whole text, counts and lengths section by section, then 3 to 6
unfoldable pub text_tests : List ℕ → List (Bool × ℕ)
text_tests text =
    (not (well_formed text), 1) ∷ (form_tests (numbers text) ++ number_tests (scenario_of text) (repeats_hold (numbers text)))

-- the refusal number of a text, 0 for an accepted one
unfoldable pub text_refusal : List ℕ → ℕ
text_refusal text = first (text_tests text)

-- start: a refused text gives its number and the all-zero record
unfoldable pub start_of : List ℕ → Answer
start_of text = answer_of (text_refusal text) zero_record (start_record (scenario_of text))

-- 12: no such entry; they count from 1
unfoldable pub entry_tests : List ℕ → ℕ → List (Bool × ℕ)
entry_tests ns n = (eqb n 0 || ltb (entries_of ns) n, 12) ∷ []

-- pumping entry n: first the text's own 1 to 6, then 12
unfoldable pub entry_of : List ℕ → ℕ → Result Entry Refusal
entry_of text n = given (first (text_tests text ++ entry_tests (numbers text) n)) (entry_at (numbers text) (n - 1))
