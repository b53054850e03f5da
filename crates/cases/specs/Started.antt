-- Start accepts bore K, and what it gives: computed part by part, for the table's proof. Laws only, nothing to believe.
--     scenario_k     the scenario of bore K's text is that of its numbers
--     started        start's answer
use Rattle.std.proofs.Common.{◌≡◌, true, Ok, refl, ap, ◌∙◌}
use mathlib.Core.List.{get_last_d, flat_map}
use Rattle.refusals.specs.Refusals.{given}
use Rattle.laws.specs.Lists.{first, all_below, every, padded, range}
use Rattle.laws.specs.Refusal.{first-after}
use Rattle.decimal.specs.Decimal.{is_digit, value, no_leading_zero, numeral, digits_in, digits_of}
use Rattle.text.specs.Text.{prefixed, pieces, lines, unended, well_formed, numbers}
use Rattle.network.specs.Grid.{layers_of, upper_layers, stored_columns, place, place_count, across_rule, down_rule, across_face, down_face, screen_faces, faces_of}
use Rattle.geometry.specs.Geometry.{terms, ratio, series_logarithm, logarithm, area, horizontal, from_table, unconfined_storage, confined_storage, well_storage}
use Rattle.site.specs.Columns.{logarithm_at, area_at}
use Rattle.site.specs.Site.{is_screened, midsection, layer_top, topmost_screened, storage_holds, layer_holds, layer_at, well_holds, numbers_hold, column_rises, radii_hold, screen_holds}
use Rattle.sections.specs.Sections.{section_count, section_of, rest_of, section_tests, from_columns, from_well, from_loss, from_pumping, left_over, form_tests, field, site_of, repeats_hold}
use Rattle.sections.specs.Laws.{form_numbered}
use Rattle.record.specs.Record.{answer_of}
use Rattle.coefficient_slots.specs.Slots.{conductances_hold, storages_hold, coefficients_hold}
use Rattle.coefficient_cells.specs.Cells.{across_of, down_of, storage_of}
use Rattle.coefficients.specs.Coefficients.{scenario_grid, start_record}
use Rattle.scenario.specs.Scenario.{scenario_of, number_tests, text_tests, text_refusal, start_of}
use Rattle.cases.specs.BoreK.{bore_k, numbers_k}

numbers_k_lem : numbers bore_k ≡ numbers_k
unfolding bore_k numbers_k flat_map digits_in digits_of value prefixed pieces lines numbers
numbers_k_lem = refl

formed_k : well_formed bore_k ≡ true
unfolding bore_k numbers_k flat_map digits_in digits_of is_digit no_leading_zero numeral prefixed pieces lines unended well_formed every get_last_d
formed_k = refl

form_k : first (form_tests numbers_k) ≡ 0
unfolding numbers_k first section_count section_of rest_of section_tests from_columns from_well from_loss from_pumping left_over form_tests
form_k = refl

limits_k : numbers_hold (site_of numbers_k) ≡ true
unfolding numbers_k all_below padded range storage_holds layer_holds layer_at well_holds numbers_hold section_count section_of rest_of from_columns from_well from_loss field site_of
limits_k = refl

repeats_k : repeats_hold numbers_k ≡ true
unfolding numbers_k every range section_count section_of rest_of from_columns from_well from_loss from_pumping field repeats_hold
repeats_k = refl

radii_k : radii_hold (site_of numbers_k) ≡ true
unfolding numbers_k all_below padded range midsection column_rises radii_hold section_count section_of rest_of from_columns from_well from_loss field site_of
radii_k = refl

screen_k : screen_holds (site_of numbers_k) ≡ true
unfolding numbers_k padded range is_screened layer_top topmost_screened screen_holds section_count section_of rest_of from_columns from_well from_loss field site_of
screen_k = refl

coefficients_k : coefficients_hold (scenario_grid (site_of numbers_k)) ≡ true
unfolding numbers_k every padded range flat_map layers_of upper_layers stored_columns place place_count across_rule down_rule across_face down_face screen_faces faces_of terms ratio series_logarithm logarithm area horizontal from_table unconfined_storage confined_storage well_storage is_screened midsection section_count section_of rest_of from_columns from_well from_loss field site_of conductances_hold storages_hold coefficients_hold logarithm_at area_at across_of down_of storage_of scenario_grid
coefficients_k = refl

numbers_pass_lem : first (number_tests (site_of numbers_k) (repeats_hold numbers_k)) ≡ 0
unfolding number_tests first
numbers_pass_lem = rw (limits_k, repeats_k, radii_k, screen_k, coefficients_k)

accepted : text_refusal bore_k ≡ 0
unfolding text_refusal text_tests first scenario_of
accepted = rw (formed_k, numbers_k_lem) (first-after (form_tests numbers_k) (number_tests (site_of numbers_k) (repeats_hold numbers_k)) (form_numbered numbers_k) form_k ∙ numbers_pass_lem)

pub scenario_k : scenario_of bore_k ≡ site_of numbers_k
unfolding scenario_of
scenario_k = ap site_of numbers_k_lem

pub started : start_of bore_k ≡ record { outcome = Ok tt; «record» = start_record (site_of numbers_k) }
unfolding start_of answer_of given
started = rw (accepted, scenario_k)
