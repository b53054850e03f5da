-- The readings of a record in whole numbers (document 01, 'Readings' and 'Who brings a refusal about', as document 02 changes them).
-- Each is judged in the order 14, 12, 13, 7 (its length part), 8, as far as it has such a condition.
use Rattle.std.specs.Prelude.{Bool, true, false, cond, not, ◌&&◌, ◌||◌, ℕ, zero, suc, ◌+◌, ◌*◌, ◌-◌, ◌/◌, ◌%◌, ℤ, pos, neg_ℤ, eqb, leb, ltb, length, get_or, drop, Result}
use mathlib.Core.List.{List, [], ◌∷◌, ◌++◌, flat_map}
use Rattle.std.specs.Int.Signed.{lt_z}
use Rattle.limits.specs.Limits.{drawdown_limit}
use Rattle.refusals.specs.declared.Refusal.{Refusal}
use Rattle.refusals.specs.Refusals.{given}
use Rattle.laws.specs.Lists.{falling, pairwise, first, ifℕ, sumℕ}
use Rattle.network.specs.Network.{Face, Network, State, loss_at, drawdown, flow, loss_in, length_out, unstable}
use Rattle.network.specs.Grid.{Grid, stored_columns, layers_of, place_count, place, across_face, down_face, network_of}
use Rattle.site.specs.declared.Site.{Site}
use Rattle.record.specs.declared.Record.{Record}
use Rattle.record.specs.Record.{grid_of, state_of}
use Rattle.validity.specs.Validity.{equalℤ, valid}
use Rattle.readings.specs.declared.Place.{Place}
use Rattle.readings.specs.declared.Place.TheVariants.{Well, Cell}
use Rattle.readings.specs.declared.Totals.{Totals}

-- ---- places ('Geometry to coefficients' has the term)

-- layer i and column j are among the grid's; columns 1 to m−1 store water
unfoldable pub is_layer : Grid → ℕ → Bool
is_layer G i = leb 1 i && leb i G.layers

unfoldable pub is_stored : Grid → ℕ → Bool
is_stored G j = leb 1 j && ltb j G.columns

-- whether p names a place: the well, or a cell inside the last column
unfoldable pub is_named : Grid → Place → Bool
is_named G Well = true
is_named G (Cell i j) = is_layer G i && is_stored G j

-- its number in the network
unfoldable pub number_of : Grid → Place → ℕ
number_of G Well = 0
number_of G (Cell i j) = place G (i - 1) j

-- ---- drawdown at a place, µm

unfoldable pub drawdown_of : Record → Place → Result ℤ Refusal
drawdown_of r p =
    given (first ((not (valid r), 14) ∷ (not (is_named (grid_of r) p), 12) ∷ []))
    (drawdown (network_of (grid_of r)) (state_of r).losses (number_of (grid_of r) p))

-- ---- budget, nl: pumped total, well's loss, all cells' loss, inflow total; and the mark, µm (N1)

unfoldable pub totals_in : Network → State → ℤ → Totals
totals_in N s mark = record {
  pumped = s.pumped;
  well_loss = loss_at s.losses 0;
  cell_loss = loss_in N (λ p. ltb 0 p) s.losses;
  inflow = s.inflow;
  mark = mark;
}

unfoldable pub budget_of : Record → Result Totals Refusal
budget_of r = given (first ((not (valid r), 14) ∷ [])) (totals_in (network_of (grid_of r)) (state_of r) r.mark)

-- ---- storage loss of a set, nl

-- the set that bytes give, one for each place in the network's order: nonzero means in
unfoldable pub set_of : List ℕ → ℕ → Bool
set_of bytes p = not (eqb (get_or bytes p 0) 0)

unfoldable pub loss_of : Record → List ℕ → Result ℤ Refusal
loss_of r bytes =
    given (first ((not (valid r), 14) ∷ (not (eqb (length bytes) (place_count (grid_of r))), 13) ∷ []))
    (loss_in (network_of (grid_of r)) (set_of bytes) (state_of r).losses)

-- ---- flow of one face, nl, for a step Δt not taken

-- whether a C rule joins a to b, in this order: the well to column 1 of a screened layer, a stored column to the next, a layer to the one below
unfoldable pub leads : Grid → Place → Place → Bool
leads G Well Well = false
leads G Well (Cell i j) = is_layer G i && G.screened (i - 1) && eqb j 1
leads G (Cell i j) Well = false
leads G (Cell i j) (Cell k l) = is_layer G i && is_layer G k && is_stored G j && (eqb k i && eqb l (suc j) || eqb k (suc i) && eqb l j)

-- that face. Where a does not lead to b it is the well with column 1, or the cell a with the next column or the layer below; nothing is read of it, since
-- a pair that is no face is refused with 12
unfoldable pub face_from : Grid → Place → Place → Face
face_from G Well Well = across_face G 0 0
face_from G Well (Cell i j) = across_face G (i - 1) 0
face_from G (Cell i j) Well = across_face G (i - 1) j
face_from G (Cell i j) (Cell k l) = cond (eqb k i) (across_face G (i - 1) j) (down_face G (i - 1) j)

-- the water from a to b: that of the face, with the other sign where the face leads from b to a
unfoldable pub water_from : Grid → List ℤ → ℕ → Place → Place → ℤ
water_from G vs dt a b =
    cond (leads G a b) (flow (network_of G) vs dt (face_from G a b)) (neg_ℤ (flow (network_of G) vs dt (face_from G b a)))

unfoldable pub flow_of : Record → Place → Place → ℕ → Result ℤ Refusal
flow_of r a b dt =
    given (first (
    (not (valid r), 14)
    ∷ (not (leads (grid_of r) a b || leads (grid_of r) b a), 12)
    ∷ (length_out dt, 7)
    ∷ (unstable (network_of (grid_of r)) dt, 8)
    ∷ []))
    (water_from (grid_of r) (state_of r).losses dt a b)

-- ---- cells deeper than D, µm, of a grid with the losses vs, and of a record

-- the cell of layer i, from 0, and column j is deeper
abbrev pub is_deeper_in : Grid → List ℤ → ℕ → ℕ → ℕ → Bool
is_deeper_in G vs D i j = lt_z (pos D) (drawdown (network_of G) vs (place G i j))

unfoldable pub is_deeper : Record → ℕ → ℕ → ℕ → Bool
is_deeper r D i j = is_deeper_in (grid_of r) (state_of r).losses D i j

-- c is layer×100+column of such a cell
unfoldable pub is_deep_code : Record → ℕ → ℕ → Bool
is_deep_code r D c = is_layer (grid_of r) (c / 100) && is_stored (grid_of r) (c % 100) && is_deeper r D (c / 100 - 1) (c % 100)

-- how many such cells there are
abbrev pub deep_count_in : Grid → List ℤ → ℕ → ℕ
deep_count_in G vs D = sumℕ (layers_of G) λ i. sumℕ (stored_columns G) λ j. ifℕ (is_deeper_in G vs D i j) 1

unfoldable pub deep_count : Record → ℕ → ℕ
deep_count r D = deep_count_in (grid_of r) (state_of r).losses D

-- the number of the first refusal, 0 for none: 14, then 13 where a list with n slots is too short for them
unfoldable pub deep_refusal : Record → ℕ → ℕ → ℕ
deep_refusal r D n = first ((not (valid r), 14) ∷ (ltb n (deep_count r D), 13) ∷ [])

-- layer×100+column of each cell with the drawdown d, µm, by layer rising, then column rising
abbrev pub codes_at : Grid → List ℤ → ℕ → List ℕ
codes_at G vs d =
    flat_map (λ i. flat_map (λ j. cond (equalℤ (drawdown (network_of G) vs (place G i j)) (pos d)) ((suc i * 100 + j) ∷ []) []) (stored_columns G)) (layers_of G)

-- that of each cell deeper than D, in the order of document 02 (N3): by drawdown falling, then layer rising, then column rising. 14 lets no D pass that
-- is above drawdown_limit
abbrev pub deep_codes_in : Grid → List ℤ → ℕ → List ℕ
deep_codes_in G vs D = flat_map (codes_at G vs) (falling D (drawdown_limit - D))

unfoldable pub deep_codes : Record → ℕ → List ℕ
deep_codes r D = deep_codes_in (grid_of r) (state_of r).losses D

-- the answer, and what a lent list holds after it
pub record Listed : Type 0 where
  pub answer : Result ℕ Refusal
  pub list : List ℕ

-- by the number of the first refusal, 0 for none: the count of the cells, and their codes in the first slots of the list, the others as in `old`, the list
-- before; or the number, and `old`
unfoldable pub listed_of : ℕ → ℕ → List ℕ → List ℕ → Listed
listed_of zero count codes old = record { answer = given zero count; list = codes ++ drop (length codes) old }
listed_of (suc n) count codes old = record { answer = given (suc n) count; list = old }

unfoldable pub deep_of : Record → ℕ → List ℕ → Listed
deep_of r D old = listed_of (deep_refusal r D (length old)) (deep_count r D) (deep_codes r D) old

-- ---- whether two records are the same (document 02, N10): all that they hold agrees, number by number in the order of the structs, lists slot by slot

-- the scenario's numbers
unfoldable pub same_site : Site → Site → Bool
same_site s t =
    eqb s.layers t.layers
    && pairwise eqb s.thickness t.thickness
    && pairwise eqb s.screened t.screened
    && pairwise eqb s.kh t.kh
    && pairwise eqb s.kv t.kv
    && pairwise eqb s.storage t.storage
    && eqb s.columns t.columns
    && pairwise eqb s.radii t.radii
    && eqb s.well_radius t.well_radius
    && eqb s.water_area t.water_area
    && eqb s.intake t.intake
    && eqb s.friction t.friction
    && eqb s.loss_count t.loss_count
    && pairwise eqb s.loss_coefficients t.loss_coefficients

-- C of each face, and S of each cell
unfoldable pub same_coefficients : Record → Record → Bool
same_coefficients r q =
    pairwise eqb r.screen q.screen
    && pairwise eqb r.horizontal q.horizontal
    && pairwise eqb r.vertical q.vertical
    && pairwise eqb r.storages q.storages

-- V of each cell, S and V of the well, the totals, the time and the mark
unfoldable pub same_water : Record → Record → Bool
same_water r q =
    pairwise equalℤ r.losses q.losses
    && eqb r.well_storage q.well_storage
    && equalℤ r.well_loss q.well_loss
    && eqb r.pumped q.pumped
    && equalℤ r.inflow q.inflow
    && eqb r.time q.time
    && equalℤ r.mark q.mark

unfoldable pub same_record : Record → Record → Bool
same_record r q = same_site r.site q.site && same_coefficients r q && same_water r q

unfoldable pub same_of : Record → Record → Result Bool Refusal
same_of r q = given (first ((not (valid r), 14) ∷ (not (valid q), 14) ∷ [])) (same_record r q)
