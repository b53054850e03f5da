-- Readings of a record that carries the ledger's state: laws only, nothing to believe.
--     told_depth, told_budget, ..           each reading answers what the ledger has for it
--     same_budget, same_loss, same_depth    so where it is given, it gives what the ledger's network and state give
--     set-inside, set-loss                  the set that bytes give has places only; its storage loss is that of the bytes
use Rattle.std.proofs.Common.{◌≡◌, ℕ, zero, suc, ◌-◌, ◌<◌, Bool, true, false, cond, not, ◌&&◌, ◌||◌, eqb, ltb, leb, List, [], ◌∷◌, map, length, get_or, ℤ, neg_ℤ, Ok, Float, refl, ap, ◌∙◌, arith, ltb-true, lt-ltb, eq-eqb, eqb-true, leb-true}
use mathlib.Core.Path.{fun_ext}
use mathlib.Core.Bool.{false≢true}
use mathlib.Core.List.{flat_map}
use lib.Signed.{lt_z}
use borrow.Author.Tests.{not-false}
use Rattle.refusals.specs.Refusals.{given}
use Rattle.laws.specs.All.{and_left}
use Rattle.laws.specs.Lists.{first, range}
use Rattle.laws.specs.Refusal.{passed}
use Rattle.laws.specs.Rows.{three_hold, four_hold}
use Rattle.laws.specs.Sums.{sumℤ_ext, range-below}
use Rattle.network.specs.Network.{Network, State, is_place, loss_at, loss_in, losses_after, length_out, unstable, refusal}
use Rattle.network.specs.Network as network
use Rattle.network.specs.Grid.{Grid, layers_of, stored_columns, place_count, place, one_per_place, down_rule, across_face, down_face, network_of}
use Rattle.network.proofs.laws.Ends.{Inside}
use Rattle.site.specs.declared.Site.{Site}
use Rattle.site.specs.Site.{is_screened}
use Rattle.record.specs.declared.Record.{Record}
use Rattle.record.specs.Record.{grid_of, state_of}
use Rattle.validity.specs.Validity.{valid}
use Rattle.coefficients.specs.Coefficients.{scenario_grid}
use Rattle.readings.specs.declared.Place.{Place}
use Rattle.readings.specs.declared.Place.TheVariants.{Well, Cell}
use Rattle.readings.specs.Readings.{is_layer, is_stored, is_named, number_of, totals_in, drawdown_of, budget_of, set_of, loss_of, leads, face_from, water_from, flow_of, deep_count_in, deep_count, deep_refusal, codes_at, deep_codes_in, deep_codes, listed_of, deep_of, same_record, same_of}
use Rattle.readings.specs.Laws.{layer_bounds, column_bounds, equal_counts, equal_names, equal_places, equal_numbers}
use Rattle.hydraulics.specs.Hydraulics.{inflow_of}
use Rattle.pipe.specs.Laws.{pipe_loss_same}
use Rattle.read_head_loss.specs.HeadLoss.{water_into, losses_at, is_screened_layer, head_loss_refusal, head_loss_of}
use Rattle.read_limiting.specs.declared.Limiting.{Limiting}
use Rattle.read_limiting.specs.Limiting.{foremost, longest_at, shortest_place, deeper_at, deepest_column, name_of, too_long_in, past_bottom_in, limiting_in, limiting_of}
use Rattle.start_laws.specs.Laws.{Carries, network_is, screen_is, across_is, down_is}
use Rattle.start_laws.specs.Steps.{refusal_is}
use Rattle.ledger.specs.Ledger.{in_set}

-- an answer by the number of a refusal, where the value counts only if the number is 0
given_same : {A : Type 0} (n : ℕ) {x y : A} → (n ≡ 0 → x ≡ y) → given n x ≡ given n y
unfolding given
given_same zero e = ap Ok (e refl)
given_same (suc n) e = refl

module _ {scenario : Site} {s : State} {r : Record} (h : Carries scenario s r) where
  abbrev G : Grid
  G = scenario_grid scenario

  abbrev N : Network
  N = network_of G

  -- ---- the record's grid and the scenario's

  same_layers : (grid_of r).layers ≡ G.layers
  unfolding grid_of scenario_grid
  same_layers = ap (λ t. t.layers) h.site

  same_columns : (grid_of r).columns ≡ G.columns
  unfolding grid_of scenario_grid
  same_columns = ap (λ t. t.columns) h.site

  same_screened : (i : ℕ) → (grid_of r).screened i ≡ G.screened i
  unfolding grid_of scenario_grid
  same_screened i = ap (λ t. is_screened t.screened i) h.site

  same_count : place_count (grid_of r) ≡ place_count G
  same_count = equal_counts (grid_of r) G same_layers same_columns

  same_name : (p : Place) → is_named (grid_of r) p ≡ is_named G p
  same_name = equal_names (grid_of r) G same_layers same_columns

  same_place : (i j : ℕ) → place (grid_of r) i j ≡ place G i j
  same_place = equal_places (grid_of r) G same_layers same_columns

  same_places : place (grid_of r) ≡ place G
  same_places = fun_ext (λ i. fun_ext (same_place i))

  same_number : (p : Place) → number_of (grid_of r) p ≡ number_of G p
  same_number = equal_numbers (grid_of r) G same_layers same_columns

  -- ---- drawdown, budget, storage loss

  pub told_depth : (p : Place) → drawdown_of r p ≡ given (first ((not (is_named G p), 12) ∷ [])) (network.drawdown N s.losses (number_of G p))
  unfolding drawdown_of first
  told_depth p = rw (h.valid, same_name p, network_is h, h.state, same_number p)

  pub same_depth : (p : Place) → is_named G p ≡ true → drawdown_of r p ≡ Ok (network.drawdown N s.losses (number_of G p))
  unfolding first given
  same_depth p e = told_depth p ∙ rw e

  module _ {mark : ℤ} (e : r.mark ≡ mark) where
    pub told_budget : budget_of r ≡ Ok (totals_in N s mark)
    unfolding budget_of first given
    told_budget = rw (h.valid, network_is h, h.state) (ap (λ m. Ok (totals_in N s m)) e)

    pub same_budget : budget_of r ≡ Ok (record { pumped = s.pumped; well_loss = loss_at s.losses 0; cell_loss = loss_in N (λ p. ltb 0 p) s.losses; inflow = s.inflow; mark = mark })
    unfolding totals_in
    same_budget = told_budget

  pub told_loss : (bytes : List ℕ) → loss_of r bytes ≡ given (first ((not (eqb (length bytes) (place_count G)), 13) ∷ [])) (loss_in N (set_of bytes) s.losses)
  unfolding loss_of first
  told_loss bytes = rw (h.valid, same_count, network_is h, h.state)

  pub same_loss : (bytes : List ℕ) → length bytes ≡ place_count G → loss_of r bytes ≡ Ok (loss_in N (set_of bytes) s.losses)
  unfolding first given
  same_loss bytes e = told_loss bytes ∙ rw (eq-eqb (length bytes) (place_count G) e)

  -- ---- flow

  across_face_lem : (i j : ℕ) → (grid_of r).across i j ≡ G.across i j → across_face (grid_of r) i j ≡ across_face G i j
  unfolding across_face
  across_face_lem i j e = rw (same_place i j, same_place i (suc j), e)

  same_rule : (i j : ℕ) → down_rule (grid_of r) i j ≡ down_rule G i j
  unfolding down_rule grid_of scenario_grid
  same_rule zero j = rw h.site
  same_rule (suc i) j = refl

  down_face_lem : (i j : ℕ) → (grid_of r).down i j ≡ G.down i j → down_face (grid_of r) i j ≡ down_face G i j
  unfolding down_face
  down_face_lem i j e = rw (same_place i j, same_place (suc i) j, e, same_rule i j)

  screen_face : (i : ℕ) → i < scenario.layers → G.screened i ≡ true → across_face (grid_of r) i 0 ≡ across_face G i 0
  unfolding scenario_grid
  screen_face i k e = across_face_lem i 0 (screen_is h i k e)

  same_leads : (a b : Place) → leads (grid_of r) a b ≡ leads G a b
  unfolding leads is_layer is_stored
  same_leads Well Well = refl
  same_leads Well (Cell i j) = rw (same_layers, same_screened (i - 1))
  same_leads (Cell i j) Well = refl
  same_leads (Cell i j) (Cell k l) = rw (same_layers, same_columns)

  same_face : (a b : Place) → leads G a b ≡ true → face_from (grid_of r) a b ≡ face_from G a b
  unfolding leads face_from scenario_grid
  same_face Well Well e = absurd (false≢true e)
  same_face Well (Cell i j) e =
      let t = three_hold (is_layer G i) (G.screened (i - 1)) (eqb j 1) e in
      let b = layer_bounds G i t.0 in
      screen_face (i - 1) (omega (arith, b.0, b.1)) t.1
  same_face (Cell i j) Well e = absurd (false≢true e)
  same_face (Cell i j) (Cell k l) e = by_test (eqb k i) refl
    where
      t : (is_layer G i ≡ true) × (is_layer G k ≡ true) × (is_stored G j ≡ true) × ((eqb k i && eqb l (suc j) || eqb k (suc i) && eqb l j) ≡ true)
      t = four_hold (is_layer G i) (is_layer G k) (is_stored G j) (eqb k i && eqb l (suc j) || eqb k (suc i) && eqb l j) e

      below : eqb k i ≡ false → k ≡ suc i
      below q = eqb-true k (suc i) (and_left (eqb k (suc i)) (eqb l j) (rw q at t.3))

      by_test : (u : Bool) → eqb k i ≡ u
          → cond u (across_face (grid_of r) (i - 1) j) (down_face (grid_of r) (i - 1) j) ≡ cond u (across_face G (i - 1) j) (down_face G (i - 1) j)
      by_test true q =
          let b = layer_bounds G i t.0 in
          let c = column_bounds G j t.2 in
          across_face_lem (i - 1) j (across_is h (i - 1) j (omega (arith, b.0, b.1)) c.0 c.1)
      by_test false q =
          let b = layer_bounds G i t.0 in
          let d = layer_bounds G k t.1 in
          let c = column_bounds G j t.2 in
          down_face_lem (i - 1) j (down_is h (i - 1) j (omega (arith, b.0, d.1, below q)) c.0 c.1)

  same_water_lem : (dt : ℕ) (a b : Place) → (leads G a b || leads G b a) ≡ true → water_from (grid_of r) s.losses dt a b ≡ water_from G s.losses dt a b
  unfolding water_from
  same_water_lem dt a b w = rw (network_is h, same_leads a b) (by_test (leads G a b) refl)
    where
      by_test : (t : Bool) → leads G a b ≡ t
          → cond t (network.flow N s.losses dt (face_from (grid_of r) a b)) (neg_ℤ (network.flow N s.losses dt (face_from (grid_of r) b a)))
          ≡ cond t (network.flow N s.losses dt (face_from G a b)) (neg_ℤ (network.flow N s.losses dt (face_from G b a)))
      by_test true e = ap (network.flow N s.losses dt) (same_face a b e)
      by_test false e = ap (λ f. neg_ℤ (network.flow N s.losses dt f)) (same_face b a (rw e at w))

  module _ (a b : Place) (dt : ℕ) where
    joined : Bool
    joined = leads G a b || leads G b a

    later : List (Bool × ℕ)
    later = (length_out dt, 7) ∷ (unstable N dt, 8) ∷ []

    pub told_flow : flow_of r a b dt
        ≡ given (first ((not (leads G a b || leads G b a), 12) ∷ (length_out dt, 7) ∷ (unstable N dt, 8) ∷ [])) (water_from G s.losses dt a b)
    unfolding flow_of first joined later
    told_flow =
        rw (h.valid, same_leads a b, same_leads b a, network_is h, h.state)
        (given_same (first ((not joined, 12) ∷ later)) (λ e. same_water_lem dt a b (not-false joined (passed (not joined) 11 later e).0)))

  -- ---- deep cells

  same_deep_count : (D : ℕ) → deep_count r D ≡ deep_count_in G s.losses D
  unfolding deep_count layers_of stored_columns
  same_deep_count D = rw (network_is h, h.state, same_places, same_layers, same_columns)

  same_codes_at : (d : ℕ) → codes_at (grid_of r) (state_of r).losses d ≡ codes_at G s.losses d
  unfolding layers_of stored_columns
  same_codes_at d = rw (network_is h, h.state, same_places, same_layers, same_columns)

  same_codes : (D : ℕ) → deep_codes r D ≡ deep_codes_in G s.losses D
  unfolding deep_codes
  same_codes D = rw (fun_ext same_codes_at)

  pub told_deep : (D : ℕ) (old : List ℕ)
      → deep_of r D old ≡ listed_of (first ((ltb (length old) (deep_count_in G s.losses D), 13) ∷ [])) (deep_count_in G s.losses D) (deep_codes_in G s.losses D) old
  unfolding deep_of deep_refusal first
  told_deep D old = rw (h.valid, same_deep_count D, same_codes D)

  -- ---- compared

  pub told_same : {t : Record} → r ≡ t → (q : Record) → same_of r q ≡ given (first ((not (valid q), 14) ∷ [])) (same_record t q)
  unfolding same_of first
  told_same e q = rw h.valid (ap (λ t. given (first ((not (valid q), 14) ∷ [])) (same_record t q)) e)

  pub told_same_as : {t : Record} → r ≡ t → (q : Record) → same_of q r ≡ given (first ((not (valid q), 14) ∷ [])) (same_record q t)
  unfolding same_of first
  told_same_as e q = rw h.valid (ap (λ t. given (first ((not (valid q), 14) ∷ [])) (same_record q t)) e)

  -- ---- head loss

  same_into : (dt i : ℕ) → i < scenario.layers → is_screened scenario.screened i ≡ true → water_into (grid_of r) s.losses dt i ≡ water_into G s.losses dt i
  unfolding water_into scenario_grid
  same_into dt i k e = rw (network_is h, screen_face i k e)

  same_losses : (dt i : ℕ) → i < scenario.layers → is_screened scenario.screened i ≡ true
      → losses_at r.site (λ i. inflow_of (water_into (grid_of r) s.losses dt i) dt) i ≡ losses_at scenario (λ i. inflow_of (water_into G s.losses dt i) dt) i
  unfolding losses_at
  same_losses dt i k t =
      ap (λ t. losses_at t (λ i. inflow_of (water_into (grid_of r) s.losses dt i) dt) i) h.site
      ∙ agree (λ i. inflow_of (water_into (grid_of r) s.losses dt i) dt) (λ i. inflow_of (water_into G s.losses dt i) dt) (λ k below e. ap (λ z. inflow_of z dt) (same_into dt k below e))
    where
      -- inflows that agree at every screened layer give the same losses
      agree : (e f : ℕ → Float) → ((k : ℕ) → k < scenario.layers → is_screened scenario.screened k ≡ true → e k ≡ f k) → losses_at scenario e i ≡ losses_at scenario f i
      agree e f same = rw (same i k t, pipe_loss_same scenario e f same i)

  module _ (layer dt : ℕ) where
    refused : ℕ
    refused = first ((not (is_screened_layer G layer), 12) ∷ (length_out dt, 7) ∷ (unstable N dt, 8) ∷ [])

    refused_is : head_loss_refusal r layer dt ≡ refused
    unfolding refused head_loss_refusal is_screened_layer is_layer first
    refused_is = rw (h.valid, network_is h, same_screened (layer - 1), same_layers)

    named_layer : refused ≡ 0 → (layer - 1 < scenario.layers) × (is_screened scenario.screened (layer - 1) ≡ true)
    unfolding refused is_screened_layer is_layer scenario_grid
    named_layer e =
        let t = three_hold (leb 1 layer) (leb layer scenario.layers) (is_screened scenario.screened (layer - 1)) (not-false _ (passed (not (is_screened_layer G layer)) 11 _ e).0) in
        (omega (arith, leb-true 1 layer t.0, leb-true layer scenario.layers t.1), t.2)

    pub told_head_loss : head_loss_of r layer dt
        ≡ given (first ((not (is_screened_layer G layer), 12) ∷ (length_out dt, 7) ∷ (unstable N dt, 8) ∷ [])) (losses_at scenario (λ i. inflow_of (water_into G s.losses dt i) dt) (layer - 1))
    unfolding head_loss_of refused
    told_head_loss = rw (refused_is, h.state) (given_same refused (λ e. same_losses dt (layer - 1) (named_layer e).0 (named_layer e).1))

  -- ---- what would hold back a step

  same_placed : (p : ℕ) → name_of (grid_of r) p ≡ name_of G p
  unfolding name_of one_per_place layers_of stored_columns
  same_placed p = λ t. get_or (Well ∷ flat_map (λ i. map (λ j. Cell (suc i) j) (range 1 (same_columns t - 1))) (range 0 (same_layers t))) p Well

  same_too_long : too_long_in (grid_of r) ≡ too_long_in G
  unfolding too_long_in
  same_too_long = rw (network_is h) (ap (λ p. Limiting.TooLong p (longest_at N (shortest_place N))) (same_placed (shortest_place N)))

  same_column : (vs : List ℤ) → deepest_column (grid_of r) vs ≡ deepest_column G vs
  unfolding deepest_column deeper_at
  same_column vs = λ t. foremost (λ j k. lt_z (network.drawdown (network_is h t) vs (same_places t 0 k)) (network.drawdown (network_is h t) vs (same_places t 0 j))) 1 (same_columns t - 2)

  module _ (rate dt : ℕ) where
    same_limiting : (n : ℕ) → limiting_in (grid_of r) s.losses rate dt n ≡ limiting_in G s.losses rate dt n
    unfolding limiting_in past_bottom_in
    same_limiting n = rw (same_too_long, network_is h, same_column (losses_after N s.losses rate dt))

    pub told_limiting : limiting_of r rate dt ≡ limiting_in G s.losses rate dt (refusal N s rate dt)
    unfolding limiting_of
    told_limiting = rw (h.state, refusal_is h rate dt) (same_limiting (refusal N s rate dt))

-- ---- the set that bytes give
module _ (N : Network) (bytes : List ℕ) where
  pub set-inside : Inside N (in_set N bytes)
  unfolding in_set is_place
  set-inside p e = ltb-true p N.places (and_left (ltb p N.places) (set_of bytes p) e)

  pub set-loss : (vs : List ℤ) → loss_in N (set_of bytes) vs ≡ loss_in N (in_set N bytes) vs
  unfolding loss_in in_set is_place
  set-loss vs = sumℤ_ext (range 0 N.places) (λ p m. rw (lt-ltb p N.places (range-below N.places m)))
