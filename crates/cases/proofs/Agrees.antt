-- What the definitions give for bore K is what the documents say, row by row: nothing to believe but the last statement.
use Rattle.std.proofs.Common.{◌≡◌, ℕ, List, [], ◌∷◌, ◌++◌, ℤ, pos, Ok, sym, refl, ap, ◌∙◌, subst, ap₂, arith}
use Rattle.std.proofs.Math.Path.{fun_ext}
use mathlib.Core.List.{map-append, flat_map}
use Rattle.refusals.specs.Refusals.{refusal_number, refusal as numbered, given, outcome_of}
use Rattle.laws.specs.Lists.{all_below, padded, first, ifℕ, ifℤ, sumℕ, sumℤ, range, some}
use Rattle.network.specs.Network.{Rule, Network, State, at_rest, is_place, loss_at, storage_at, drawdown, saturated, at_table, in_use_by, in_use, water, crossing, flow, outflow, toward, inward, loss_after, losses_after, from_last_column, moved, length_out, rate_or_length_out, conductance_sum, stable, unstable, totals_pass, well_too_deep, table_too_deep, step_tests, refusal}
use Rattle.network.specs.Grid.{layers_of, upper_layers, stored_columns, place, place_count, one_per_place, across_rule, down_rule, across_face, down_face, screen_faces, faces_of, network_of}
use Rattle.geometry.specs.Geometry.{terms, ratio, series_logarithm, logarithm, area, horizontal, from_table, unconfined_storage, confined_storage, well_storage}
use Rattle.site.specs.declared.Site.{Site}
use Rattle.site.specs.Columns.{logarithm_at, area_at}
use Rattle.site.specs.Site.{is_screened, midsection}
use Rattle.sections.specs.Sections.{section_count, section_of, rest_of, from_columns, from_well, from_loss, field, site_of}
use Rattle.record.specs.declared.Record.{Record}
use Rattle.record.specs.Record.{slot, slots, layer_slots, is_cell, has_below, has_screen, across_in, grid_of, state_of}
use Rattle.coefficient_cells.specs.Cells.{across_of, down_of, storage_of}
use Rattle.coefficients.specs.Coefficients.{scenario_grid, start_record}
use Rattle.scenario.specs.Scenario.{start_of}
use Rattle.step_rules.specs.Step.{step_of}
use Rattle.start_laws.specs.Laws.{Carries, network_is, begun}
use Rattle.start_laws.specs.Steps.{state_after, outcome_is, carries_on}
use Rattle.cases.specs.BoreK.{bore_k, numbers_k, numbers_apart}
use Rattle.cases.specs.Started.{scenario_k, started}
use Rattle.cases.specs.Table.{Row, outcome_number, start_rows, length_rows, face_rows, depth_rows, pumped, rows, apart_rows, table, Agree}

-- places: 0 the well, 1 and 2 column 1 of layers 1 and 2; 3 stands for the last column
unfoldable network_k : Network
network_k = record {
  places = 3;
  faces =
      record { one = 1; two = 3; conductance = 5719201805; rule = Rule.unconfined }
      ∷ record { one = 0; two = 2; conductance = 1143840361; rule = Rule.fixed }
      ∷ record { one = 2; two = 3; conductance = 1143840361; rule = Rule.fixed }
      ∷ record { one = 1; two = 2; conductance = 7539820; rule = Rule.table 753982 10000 2000 10000 }
      ∷ [];
  storages = 30000000000 ∷ 150796400000 ∷ 1507964000 ∷ [];
  thickness = 10000;
  table = 1 ∷ [];
  intake = 9999;
}

-- V of each place, totals and time, after so many steps
unfoldable state0 : State
state0 = record { losses = pos 0 ∷ pos 0 ∷ pos 0 ∷ []; pumped = 0; inflow = pos 0; time = 0 }

unfoldable state1 : State
state1 = record { losses = pos 500000000 ∷ pos 0 ∷ pos 0 ∷ []; pumped = 500000000; inflow = pos 0; time = 500000 }

unfoldable state2 : State
state2 = record { losses = pos 990468379 ∷ pos 0 ∷ pos 9531621 ∷ []; pumped = 1000000000; inflow = pos 0; time = 1000000 }

unfoldable state3 : State
state3 = record { losses = pos 1475200970 ∷ pos 2165 ∷ pos 21182330 ∷ []; pumped = 1500000000; inflow = pos 3614535; time = 1500000 }

abbrev site_k : Site
site_k = site_of numbers_k

network_k_lem : network_of (scenario_grid site_k) ≡ network_k
unfolding network_k numbers_k padded range flat_map layers_of upper_layers stored_columns place place_count one_per_place across_rule down_rule across_face down_face screen_faces faces_of network_of terms ratio series_logarithm logarithm area horizontal from_table unconfined_storage confined_storage well_storage is_screened midsection section_count section_of rest_of from_columns from_well from_loss field site_of logarithm_at area_at across_of down_of storage_of scenario_grid
network_k_lem = refl

rest_k : at_rest network_k ≡ state0
unfolding network_k at_rest state0
rest_k = refl

first_k : state_after network_k state0 1000 500000 ≡ state1
unfolding from_table all_below first ifℕ ifℤ sumℕ sumℤ range some is_place loss_at storage_at drawdown saturated at_table in_use_by in_use water crossing flow outflow toward inward loss_after losses_after from_last_column moved length_out rate_or_length_out conductance_sum stable unstable totals_pass well_too_deep table_too_deep step_tests refusal network_k state0 state1
first_k = refl

second_k : state_after network_k state1 1000 500000 ≡ state2
unfolding from_table all_below first ifℕ ifℤ sumℕ sumℤ range some is_place loss_at storage_at drawdown saturated at_table in_use_by in_use water crossing flow outflow toward inward loss_after losses_after from_last_column moved length_out rate_or_length_out conductance_sum stable unstable totals_pass well_too_deep table_too_deep step_tests refusal network_k state1 state2
second_k = refl

third_k : state_after network_k state2 1000 500000 ≡ state3
unfolding from_table all_below first ifℕ ifℤ sumℕ sumℤ range some is_place loss_at storage_at drawdown saturated at_table in_use_by in_use water crossing flow outflow toward inward loss_after losses_after from_last_column moved length_out rate_or_length_out conductance_sum stable unstable totals_pass well_too_deep table_too_deep step_tests refusal network_k state2 state3
third_k = refl

-- the rows of start
start_agrees : Agree (start_rows (record { outcome = Ok tt; «record» = start_record site_k }))
unfolding Agree start_rows outcome_number numbers_k padded range terms ratio series_logarithm logarithm area horizontal from_table unconfined_storage confined_storage is_screened midsection section_count section_of rest_of from_columns from_well from_loss field site_of slot slots layer_slots is_cell has_below has_screen logarithm_at area_at across_of down_of storage_of start_record
start_agrees = refl

answer_agrees : Agree (start_rows (start_of bore_k))
answer_agrees = rw started start_agrees

-- a record that carries bore K in a state
abbrev InState : State → Record → Type 0
InState s r = Carries site_k s r

at_start : InState state0 (start_of bore_k).«record»
at_start = rw (← rest_k, ← network_k_lem, ← scenario_k) (begun bore_k (ap (λ a. a.outcome) started))

stepped : {s : State} (s' : State) {r : Record} → state_after network_k s 1000 500000 ≡ s' → InState s r → InState s' (step_of r 1000 500000).«record»
stepped s' e h = rw (← e, ← network_k_lem) (carries_on h 1000 500000)

after_2 : InState state2 (pumped 2 (start_of bore_k).«record»)
unfolding pumped
after_2 = stepped state2 second_k (stepped state1 first_k at_start)

after_3 : InState state3 (pumped 3 (start_of bore_k).«record»)
unfolding pumped
after_3 = stepped state3 third_k (stepped state2 second_k (stepped state1 first_k at_start))

network_of_lem : {s : State} (r : Record) → InState s r → network_of (grid_of r) ≡ network_k
network_of_lem r h = network_is h ∙ network_k_lem

-- the rows of the first step's length
length_computed : Agree (length_rows (λ dt. outcome_number (outcome_of (refusal network_k state0 1000 dt))))
unfolding Agree length_rows outcome_number refusal_number numbered given network_k state0 from_table all_below first ifℕ ifℤ sumℕ sumℤ range some loss_at storage_at drawdown saturated at_table in_use_by in_use water crossing flow outflow loss_after losses_after length_out rate_or_length_out conductance_sum stable unstable totals_pass well_too_deep table_too_deep step_tests refusal
length_computed = refl

length_agrees : (r : Record) → InState state0 r → Agree (length_rows (λ dt. outcome_number (step_of r 1000 dt).outcome))
length_agrees r h = subst (λ f. Agree (length_rows f)) (sym (fun_ext (λ dt. ap outcome_number (outcome_is h 1000 dt) ∙ ap (λ N. outcome_number (outcome_of (refusal N state0 1000 dt))) network_k_lem))) length_computed

-- the rows of the third step
faces_computed : Agree (face_rows (grid_of (start_record site_k)) network_k state2.losses)
unfolding Agree face_rows network_k state2 numbers_k padded range place place_count across_rule down_rule across_face down_face terms ratio series_logarithm logarithm area horizontal from_table is_screened midsection section_count section_of rest_of from_columns from_well from_loss field site_of slot slots layer_slots is_cell has_below has_screen logarithm_at area_at across_of down_of start_record across_in grid_of loss_at storage_at drawdown saturated at_table in_use_by in_use water crossing flow
faces_computed = refl

faces_agree : (r : Record) → InState state2 r → Agree (face_rows (grid_of r) (network_of (grid_of r)) (state_of r).losses)
faces_agree r h = rw (network_of_lem r h, h.grid, h.state) faces_computed

depth_computed : Agree (depth_rows (grid_of (start_record site_k)) network_k state3.losses)
unfolding Agree depth_rows network_k state3 numbers_k place place_count section_count section_of rest_of from_columns from_well from_loss field site_of start_record grid_of loss_at storage_at drawdown
depth_computed = refl

depth_agrees : (r : Record) → InState state3 r → Agree (depth_rows (grid_of r) (network_of (grid_of r)) (state_of r).losses)
depth_agrees r h = rw (network_of_lem r h, h.grid, h.state) depth_computed

both : (l m : List Row) → Agree l → Agree m → Agree (l ++ m)
unfolding Agree
both l m p q = simp map-append (ap₂ ◌++◌ p q)

-- the row that is not marked K
apart_agrees : Agree (apart_rows (scenario_grid (site_of numbers_apart)))
unfolding Agree apart_rows numbers_apart numbers_k padded range place place_count down_rule down_face network_of area from_table section_count section_of rest_of from_columns from_well from_loss field site_of area_at down_of scenario_grid saturated at_table in_use_by in_use
apart_agrees = refl

-- every case that is marked K, and that row
pub agrees : Agree table
unfolding table rows
agrees = both _ _ (both _ _ (both _ _ (both _ _ answer_agrees (length_agrees _ at_start)) (faces_agree _ after_2)) (depth_agrees _ after_3)) apart_agrees

-- and of a row whose sides differ it does not hold
pub differs : Agree ((pos 0, pos 1) ∷ []) → ⊥
unfolding Agree
differs e =
    let sides : ◌≡◌ {A = List ℤ} (pos 0 ∷ []) (pos 1 ∷ []) = e in
    let z : ◌≡◌ {A = ℕ} 0 1 = cc in
    absurd (omega arith)
