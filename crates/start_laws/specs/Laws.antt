-- The record that start gives for an accepted text: laws only, nothing to believe.
--     Carries scenario s r   14 does not refuse r, and r holds the scenario's numbers, C and S, and the state s
--     counted, network_is    so the scenario's counts are within their limits, and the network of r is the scenario's
--     screen_is, ..          and so is C of each face: of the well and a screened layer, of two columns (across_is), of two layers (down_is)
--     begun                  the record that start gives for an accepted text carries the scenario at rest; begun_record: that record whole
use Rattle.std.proofs.Common.{◌≡◌, ℕ, suc, ◌+◌, ◌<◌, ◌≤◌, Bool, true, cond, not, ◌&&◌, eqb, List, length, drop, pos, Ok, sym, refl, ap, ◌∙◌, zero-le, arith, length-drop, get_or-drop, eq-eqb}
use Rattle.std.proofs.Math.Bool.{or-true}
use borrow.Author.Tests.{not-false}
use Rattle.std.proofs.Math.ListN.{get_or-eq_default}
use Rattle.std.specs.Int.Signed.{≤ℤ_refl}
use Rattle.laws.specs.All.{and_left}
use Rattle.laws.specs.Fill.{get_or_same}
use Rattle.laws.specs.Integer.{pos_≤ℤ}
use Rattle.laws.specs.Lists.{padded}
use Rattle.laws.specs.Padded.{length-padded, get_or-padded}
use Rattle.laws.specs.Pointwise.{every_from}
use Rattle.laws.specs.Refusal.{passed, first_none, first-after}
use Rattle.laws.specs.Rows.{both_hold, all_from}
use Rattle.limits.specs.Limits.{layer_places, column_places, coefficient_places, cell_places}
use Rattle.network.specs.Network.{Network, State, at_rest}
use Rattle.network.specs.Grid.{network_of}
use Rattle.network.proofs.laws.Preserve.{depth-at_rest, kept_at_rest}
use Rattle.text.specs.Text.{well_formed, numbers}
use Rattle.site.specs.declared.Site.{Site}
use Rattle.site.specs.Site.{is_screened, counts_hold, numbers_hold, radii_hold, screen_holds}
use Rattle.site.specs.Laws as site
use Rattle.sections.specs.Laws.{Form, form_numbered, form_passed, length_section, length-field}
use Rattle.sections.specs.Laws as sections
use Rattle.sections.specs.Sections.{layer_width, form_tests, site_of, repeats_hold, section_count, section_of, field}
use Rattle.record.specs.declared.Record.{Record}
use Rattle.record.specs.Laws.{outcome_of_lem, taken_of}
use Rattle.record.specs.Record.{is_cell, grid_of, state_of, zero_record, answer_of}
use Rattle.coefficient_slots.specs.Slots.{used_slot, coefficients_hold}
use Rattle.coefficient_slots.specs.Laws.{Coefficients, coefficients_hold_lem}
use Rattle.validity_numbers.specs.Numbers.{zero_from, site_unused}
use Rattle.validity.specs.Validity.{losses_unused, valid}
use Rattle.validity.specs.Laws.{TableKept, Marked, valid_record, record_valid}
use Rattle.coefficient_cells.specs.Cells.{across_of, down_of}
use Rattle.coefficients.specs.Coefficients.{scenario_grid, start_record}
use Rattle.coefficients.specs.Laws.{slotted, start_slotted, slotted_unused, screen_at_lem, across_at, down_at, storage_at_lem, start_network, start_state}
use Rattle.scenario.specs.Scenario.{scenario_of, number_tests, text_tests, text_refusal, start_of}

-- ---- 0 in every slot that nothing uses
-- an array of m elements that holds n numbers
zero_from_lem : (m n : ℕ) (l : List ℕ) → length l ≡ n → zero_from n (padded m 0 l) ≡ true
unfolding zero_from
zero_from_lem m n l e = every_from (λ x. eqb x 0) (drop n (padded m 0 l)) 0 (λ k h.
    eq-eqb _ 0 (get_or-drop n (padded m 0 l) k 0
    ∙ get_or-padded m 0 l (n + k) (omega (arith, h, length-drop n (padded m 0 l), length-padded m 0 l))
    ∙ get_or-eq_default l 0 (omega (arith, e))))

site_unused_lem : {ns : List ℕ} → Form ns → site_unused (site_of ns) ≡ true
unfolding site_unused site_of
site_unused_lem {ns} f =
    both_hold (both_hold (both_hold (both_hold (both_hold (both_hold
    (layer 0) (layer 1)) (layer 2)) (layer 3)) (layer 4))
    (zero_from_lem column_places _ _ (omega (arith, length_section f.columns))))
    (zero_from_lem coefficient_places _ _ (omega (arith, length_section f.loss)))
  where
    layer : (k : ℕ) → zero_from (section_count ns) (padded layer_places 0 (field layer_width k (section_of layer_width ns))) ≡ true
    layer k = zero_from_lem layer_places _ _ (length-field k (omega arith) f.layers)

module _ (s : Site) where
  losses_unused_lem : losses_unused (start_record s) ≡ true
  unfolding losses_unused start_record
  losses_unused_lem = all_from _ cell_places (λ k h. rw (get_or_same cell_places k (pos 0)) (or-true (used_slot (is_cell s) k)))

-- ---- C and S are within their limits
start_coefficients : (s : Site) → counts_hold s ≡ true → coefficients_hold (scenario_grid s) ≡ true → Coefficients (grid_of (start_record s))
unfolding grid_of scenario_grid slotted
start_coefficients s counts e =
    let known = site.counts_hold_lem s counts in
    let put : Bool → ℕ → ℕ = λ used n. cond used n 0 in
    let limits = coefficients_hold_lem (scenario_grid s) e in
    rw (start_slotted s) (record {
      screen = λ i h t. rw (screen_at_lem put s known i h t) (limits.screen i h t);
      across = λ i j h one k. rw (across_at put s known i j h one k) (limits.across i j h one k);
      down = λ i j h one k. rw (down_at put s known i j h one k) (limits.down i j h one k);
      storage = λ i j h one k. rw (storage_at_lem put s known i j h one k) (limits.storage i j h one k);
    })

-- ---- the C kept between layers 1 and 2 is the scenario's
start_table : (s : Site) → counts_hold s ≡ true → TableKept (start_record s)
unfolding start_record
start_table s counts j one k =
    let known = site.counts_hold_lem s counts in
    rw (start_slotted s) (down_at (λ used n. cond used n 0) s known 0 j (omega (arith, known.layers_least)) one k)

-- ---- at rest no D is over a mark of 0
at_rest_lem : (N : Network) → Marked N (at_rest N).losses (pos 0)
at_rest_lem N = record { depths = λ p h. rw (depth-at_rest N p) (≤ℤ_refl (pos 0)); intake = pos_≤ℤ zero-le }

-- ---- what an accepted text has passed
record Passed (text : List ℕ) : Type 0 where
  form : Form (numbers text)
  counts : counts_hold (scenario_of text) ≡ true
  numbers : numbers_hold (scenario_of text) ≡ true
  radii : radii_hold (scenario_of text) ≡ true
  screen : screen_holds (scenario_of text) ≡ true
  coefficients : coefficients_hold (scenario_grid (scenario_of text)) ≡ true

module _ (text : List ℕ) where
  text_passed : text_refusal text ≡ 0 → Passed text
  unfolding text_refusal text_tests number_tests scenario_of
  text_passed e =
      let s = scenario_of text in
      let repeats = repeats_hold (numbers text) in
      let tests = (passed (not (well_formed text)) 0 _ e).1 in
      let none = first_none (form_tests (numbers text)) (number_tests s repeats) tests in
      let after2 = sym (first-after (form_tests (numbers text)) (number_tests s repeats) (form_numbered (numbers text)) none) ∙ tests in
      let form = form_passed (numbers text) none in
      let after3 = passed (not (numbers_hold s && repeats)) 2 _ after2 in
      let after4 = passed (not (radii_hold s)) 3 _ after3.1 in
      let after5 = passed (not (screen_holds s)) 4 _ after4.1 in
      let after6 = passed (not (coefficients_hold (scenario_grid s))) 5 _ after5.1 in
      record {
        form = form;
        counts = sections.counts_hold_lem form;
        numbers = and_left (numbers_hold s) repeats (not-false _ after3.0);
        radii = not-false _ after4.0;
        screen = not-false _ after5.0;
        coefficients = not-false _ after6.0;
      }

  passed_valid : Passed text → valid (start_record (scenario_of text)) ≡ true
  unfolding start_record scenario_of
  passed_valid p = record_valid (start_record (scenario_of text)) (record {
    counts = p.counts;
    numbers = p.numbers;
    radii = p.radii;
    screen = p.screen;
    site_unused = site_unused_lem p.form;
    coefficients_unused = rw (start_slotted (scenario_of text)) (slotted_unused (λ used n. cond used n 0) (scenario_of text) (λ n. refl));
    losses_unused = losses_unused_lem (scenario_of text);
    coefficients = start_coefficients (scenario_of text) p.counts p.coefficients;
    well_storage = refl;
    table = start_table (scenario_of text) p.counts;
    kept = rw (start_network (scenario_of text) p.counts, start_state (scenario_of text) p.counts) (kept_at_rest (network_of (scenario_grid (scenario_of text))));
    marked = rw (start_network (scenario_of text) p.counts, start_state (scenario_of text) p.counts) (at_rest_lem (network_of (scenario_grid (scenario_of text))));
  })

-- ---- the record at the start of a run
pub record Carries (scenario : Site) (s : State) (r : Record) : Type 0 where
  pub valid : valid r ≡ true
  pub site : r.site ≡ scenario
  pub grid : grid_of r ≡ grid_of (start_record scenario)
  pub state : state_of r ≡ s

module _ {scenario : Site} {s : State} {r : Record} (h : Carries scenario s r) where
  pub counted : counts_hold scenario ≡ true
  counted = rw (← h.site) (valid_record r h.valid).counts

  pub network_is : network_of (grid_of r) ≡ network_of (scenario_grid scenario)
  network_is = ap network_of h.grid ∙ start_network scenario counted

  -- C of each face is the scenario's
  slotted_grid : grid_of r ≡ grid_of (slotted (λ used n. cond used n 0) scenario)
  slotted_grid = h.grid ∙ ap grid_of (start_slotted scenario)

  pub screen_is : (i : ℕ) → i < scenario.layers → is_screened scenario.screened i ≡ true → (grid_of r).across i 0 ≡ across_of scenario i 0
  screen_is i k e = ap (λ g. g.across i 0) slotted_grid ∙ screen_at_lem _ scenario (site.counts_hold_lem scenario counted) i k e

  pub across_is : (i j : ℕ) → i < scenario.layers → 1 ≤ j → j < scenario.columns → (grid_of r).across i j ≡ across_of scenario i j
  across_is i j k one m = ap (λ g. g.across i j) slotted_grid ∙ across_at _ scenario (site.counts_hold_lem scenario counted) i j k one m

  pub down_is : (i j : ℕ) → suc i < scenario.layers → 1 ≤ j → j < scenario.columns → (grid_of r).down i j ≡ down_of scenario i j
  down_is i j k one m = ap (λ g. g.down i j) slotted_grid ∙ down_at _ scenario (site.counts_hold_lem scenario counted) i j k one m

module _ (text : List ℕ) (e : (start_of text).outcome ≡ Ok tt) where
  text_taken : text_refusal text ≡ 0
  unfolding start_of
  text_taken = taken_of (text_refusal text) (sym (outcome_of_lem (text_refusal text) zero_record (start_record (scenario_of text))) ∙ e)

  pub begun : Carries (scenario_of text) (at_rest (network_of (scenario_grid (scenario_of text)))) (start_of text).«record»
  unfolding start_of answer_of start_record scenario_of
  begun =
      let p = text_passed text text_taken in
      rw text_taken (record {
        valid = passed_valid text p;
        site = refl;
        grid = refl;
        state = start_state (scenario_of text) p.counts;
      })

  pub begun_record : (start_of text).«record» ≡ start_record (scenario_of text)
  unfolding start_of answer_of
  begun_record = rw text_taken
