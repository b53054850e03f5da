-- What is known of an accepted text once it is judged: an inner definition, for the contract that asks for it.
use Rattle.std.specs.Prelude.{◌≡◌, List, ℕ}
use Rattle.text.specs.Text.{numbers}
use Rattle.coefficients.specs.Coefficients.{start_record}
use Rattle.sections.specs.Reading.{Reads}
use Rattle.scenario.specs.declared.Accepted.{Accepted}
use Rattle.scenario.specs.Scenario.{scenario_of, text_refusal}

-- no test refuses it; the record at its start is made; its numbers are in the array, and its sections at the places of the layout
pub record Accepts (text : List ℕ) (a : Accepted) : Type 0 where
  pub taken : text_refusal text ≡ 0
  pub made : a.«record» ≡ start_record (scenario_of text)
  pub read : Reads a.values a.layout (numbers text)
