-- A network of places joined by faces, and one explicit step on it: the rules of 'A step' and the refusals 7 to 11 of 01.
-- Place and face are document 01's own terms ('Geometry to coefficients'): a place is the well or a cell of columns 1 to m−1.
-- Place 0 is the well. Whatever is not below the number of places is the last column, at constant head: its loss and its drawdown are 0.
-- Units: losses V, totals and water nl; drawdowns D and saturated thicknesses s µm; C 10^-12 m²/s; S nl per m; times µs; rates ml/s; lengths mm; areas
-- mm²; conductivities Kv nm/s.
use Rattle.std.specs.Prelude.{Bool, true, false, not, ◌||◌, List, [], ◌∷◌, map, ℕ, ◌+◌, ◌*◌, ◌^◌, ℤ, pos, negsuc, neg_ℤ, ◌+ℤ◌, ◌-ℤ◌, ◌*ℤ◌, eqb, leb, ltb, get_or, replicate}
use Rattle.std.specs.Int.Signed.{quot_z, shr_z, lt_z}
use Rattle.laws.specs.Lists.{all_below, first, ifℕ, ifℤ, sumℕ, sumℤ, range, some}
use Rattle.limits.specs.Limits.{rate_limit, length_limit, total_limit}
use Rattle.geometry.specs.Geometry.{from_table}

-- What C in use of a face goes by.
pub data Rule : Type 0 where
  fixed : Rule  -- C itself
  unconfined : Rule  -- horizontally in layer 1: the mean saturated thickness of both ends
  table : ℕ → ℕ → ℕ → ℕ → Rule  -- from layer 1, which is end one, to layer 2 (N6): the path from the water table, with A_j, Kv_1, b_2 and Kv_2

-- A face joins two places, or a place and the last column: document 01's term for a pair that a C rule joins, be C zero or not.
pub record Face : Type 0 where
  pub one : ℕ
  pub two : ℕ
  pub conductance : ℕ  -- C, unreduced; between layers 1 and 2 the value at s = 0 (N6)
  pub rule : Rule

pub record Network : Type 0 where
  pub places : ℕ  -- how many; the well is place 0
  pub faces : List Face
  pub storages : List ℕ  -- S, one for each place
  pub thickness : ℕ  -- b_1, of layer 1
  pub table : List ℕ  -- the places of layer 1, where the water table is
  pub intake : ℕ  -- p, depth of the intake

-- What a step moves, but for the record's mark (N1), which is worked from the well's D after it (`step_rules` Step).
pub record State : Type 0 where
  pub losses : List ℤ  -- V, one for each place
  pub pumped : ℕ  -- pumped total
  pub inflow : ℤ  -- total from the last column
  pub time : ℕ

-- all zero, as at the start
unfoldable pub at_rest : Network → State
at_rest N = record { losses = replicate N.places (pos 0); pumped = 0; inflow = pos 0; time = 0 }

-- whether p is a place, and not in the last column
unfoldable pub is_place : Network → ℕ → Bool
is_place N p = ltb p N.places

-- V of p
unfoldable pub loss_at : List ℤ → ℕ → ℤ
loss_at vs p = get_or vs p (pos 0)

-- S of p; the last column stores nothing
unfoldable pub storage_at : Network → ℕ → ℕ
storage_at N p = get_or N.storages p 0

-- D = V×10^6/S, rounded down
unfoldable pub drawdown : Network → List ℤ → ℕ → ℤ
drawdown N vs p = shr_z (loss_at vs p *ℤ pos (10 ^ 6)) (storage_at N p)

-- ---- the water of one face

-- s = 1000×b_1 − D, µm: the saturated thickness of layer 1 at drawdown D
unfoldable pub saturated : ℕ → ℤ → ℤ
saturated b₁ D = pos (1000 * b₁) -ℤ D

-- C between layers 1 and 2 by the saturated thickness s of layer 1. Where that is below 0, as in no record that 14 lets pass, it is 0, and nothing rests
-- on it
unfoldable pub at_table : ℕ → ℕ → ℕ → ℕ → ℤ → ℤ
at_table a kv₁ b₂ kv₂ (pos s) = pos (from_table a kv₁ b₂ kv₂ s)
at_table a kv₁ b₂ kv₂ (negsuc n) = pos 0

-- C in use by a rule, with D_a at end one and D_b at end two: C; horizontally in layer 1 C×(s_a+s_b)/(2000×b_1), rounded down; between layers 1 and 2
-- (N6) the value at s of end one, which is layer 1's, whichever way the water runs
unfoldable pub in_use_by : ℕ → ℕ → Rule → ℤ → ℤ → ℤ
in_use_by b₁ C fixed Da Db = pos C
in_use_by b₁ C unconfined Da Db = shr_z (pos C *ℤ (saturated b₁ Da +ℤ saturated b₁ Db)) (2000 * b₁)
in_use_by b₁ C (table a kv₁ b₂ kv₂) Da Db = at_table a kv₁ b₂ kv₂ (saturated b₁ Da)

-- C in use of a face
unfoldable pub in_use : Network → Face → ℤ → ℤ → ℤ
in_use N f Da Db = in_use_by N.thickness f.conductance f.rule Da Db

-- water from a to b in Δt: size C×|D_b−D_a|×Δt/10^12 rounded down, sign of D_b−D_a, that is C×(D_b−D_a)×Δt/10^12 rounded toward zero
unfoldable pub water : ℤ → ℤ → ℤ → ℕ → ℤ
water C Da Db dt = quot_z (C *ℤ (Db -ℤ Da) *ℤ pos dt) (pos (10 ^ 12))

-- water that crosses a face from its end one, at D_a, to its end two, at D_b
unfoldable pub crossing : Network → Face → ℤ → ℤ → ℕ → ℤ
crossing N f Da Db dt = water (in_use N f Da Db) Da Db dt

-- the same from the D at the start of the step, where the losses are vs
unfoldable pub flow : Network → List ℤ → ℕ → Face → ℤ
flow N vs dt f = crossing N f (drawdown N vs f.one) (drawdown N vs f.two) dt

-- ---- sets of places; w f is the water that crosses face f from its end one to its end two

-- net water that leaves p: one number a face, added at its end one and subtracted at its end two
unfoldable pub outflow : Network → (Face → ℤ) → ℕ → ℤ
outflow N w p = sumℤ N.faces λ f. ifℤ (eqb f.one p) (w f) -ℤ ifℤ (eqb f.two p) (w f)

-- what a face brings into a set, by which of its ends are in: only a face on the border, with one end in, brings any
unfoldable pub toward : Bool → Bool → ℤ → ℤ
toward true true w = pos 0
toward true false w = neg_ℤ w
toward false true w = w
toward false false w = pos 0

-- net water into a set over its border; the last column is in no set
unfoldable pub inward : Network → (ℕ → Bool) → (Face → ℤ) → ℤ
inward N s w = sumℤ N.faces λ f. toward (s f.one) (s f.two) (w f)

-- storage loss of a set
unfoldable pub loss_in : Network → (ℕ → Bool) → List ℤ → ℤ
loss_in N s vs = sumℤ (range 0 N.places) λ p. ifℤ (s p) (loss_at vs p)

-- ---- a step of Δt at a rate

-- V of p after it: water leaving a place raises its V, and rate × Δt (ml/s × µs is nl) raises the well's. This is the water balance over a time
-- step of document 000: equation 10 for a cell of layer 1, 11 for one below it, 12 for the well
unfoldable pub loss_after : Network → List ℤ → ℕ → ℕ → ℕ → ℤ
loss_after N vs rate dt p = loss_at vs p +ℤ outflow N (flow N vs dt) p +ℤ ifℤ (eqb 0 p) (pos (rate * dt))

-- V of every place after it, all from the D at its start
unfoldable pub losses_after : Network → List ℤ → ℕ → ℕ → List ℤ
losses_after N vs rate dt = map (loss_after N vs rate dt) (range 0 N.places)

-- water from the last column: what comes in over the border of all places
unfoldable pub from_last_column : Network → List ℤ → ℕ → ℤ
from_last_column N vs dt = inward N (is_place N) (flow N vs dt)

-- the state after it
unfoldable pub moved : Network → State → ℕ → ℕ → State
moved N s rate dt = record {
  losses = losses_after N s.losses rate dt;
  pumped = s.pumped + rate * dt;
  inflow = s.inflow +ℤ from_last_column N s.losses dt;
  time = s.time + dt;
}

-- ---- the refusals of a step

-- 7, its length part: Δt 0 or over the limit
unfoldable pub length_out : ℕ → Bool
length_out dt = eqb dt 0 || ltb length_limit dt

-- 7: rate over the limit, or the length part
unfoldable pub rate_or_length_out : ℕ → ℕ → Bool
rate_or_length_out rate dt = ltb rate_limit rate || length_out dt

-- the sum of C of the faces of p, unreduced, and between layers 1 and 2 at s = 0 (N6)
unfoldable pub conductance_sum : Network → ℕ → ℕ
conductance_sum N p = sumℕ N.faces λ f. ifℕ (eqb f.one p) f.conductance + ifℕ (eqb f.two p) f.conductance

-- at every place Δt × (sum of C of its faces) is at most 10^6 × S
unfoldable pub stable : Network → ℕ → Bool
stable N dt = all_below N.places λ p. leb (dt * conductance_sum N p) (10 ^ 6 * storage_at N p)

-- 8: at some place it is more
unfoldable pub unstable : Network → ℕ → Bool
unstable N dt = not (stable N dt)

-- 9: pumped total or time would pass the limit
unfoldable pub totals_pass : State → ℕ → ℕ → Bool
totals_pass s rate dt = ltb total_limit (s.pumped + rate * dt) || ltb total_limit (s.time + dt)

-- 10: the well's D passes 1000×p
unfoldable pub well_too_deep : Network → List ℤ → Bool
well_too_deep N vs = lt_z (pos (1000 * N.intake)) (drawdown N vs 0)

-- 11: a D in layer 1 passes 1000×b_1
unfoldable pub table_too_deep : Network → List ℤ → Bool
table_too_deep N vs = some N.table λ p. lt_z (pos (1000 * N.thickness)) (drawdown N vs p)

-- the conditions on a step in their order, each with its refusal number; 10 and 11 speak of the D after it
unfoldable pub step_tests : Network → State → ℕ → ℕ → List (Bool × ℕ)
step_tests N s rate dt =
    (rate_or_length_out rate dt, 7)
    ∷ (unstable N dt, 8)
    ∷ (totals_pass s rate dt, 9)
    ∷ (well_too_deep N (losses_after N s.losses rate dt), 10)
    ∷ (table_too_deep N (losses_after N s.losses rate dt), 11)
    ∷ []

-- the number of the first condition that forbids a step, 0 if none does
unfoldable pub refusal : Network → State → ℕ → ℕ → ℕ
refusal N s rate dt = first (step_tests N s rate dt)
