-- The cases that document 01 marks K, with what document 02 changes of them: what the definitions give for bore K beside what the documents say. The
-- statement that the two agree is proofs/Agrees.antt. One row more is not marked K: bore K cannot see which of its two equal Kv stands where.
use Rattle.std.specs.Prelude.{◌≡◌, ℕ, zero, suc, List, [], ◌∷◌, ◌++◌, map, get_or, ℤ, pos, neg_ℤ, Ok, Err, Result}
use Rattle.refusals.specs.declared.Refusal.{Refusal}
use Rattle.refusals.specs.Refusals.{refusal_number}
use Rattle.network.specs.Network.{Network, drawdown, in_use, flow}
use Rattle.network.specs.Grid.{Grid, place, across_face, down_face, network_of}
use Rattle.geometry.specs.Geometry.{logarithm}
use Rattle.site.specs.Columns.{area_at}
use Rattle.sections.specs.Sections.{site_of}
use Rattle.record.specs.declared.Record.{Record}
use Rattle.record.specs.declared.Answer.{Answer}
use Rattle.record.specs.Record.{slot, grid_of, state_of}
use Rattle.coefficients.specs.Coefficients.{scenario_grid}
use Rattle.scenario.specs.Scenario.{start_of}
use Rattle.step_rules.specs.Step.{step_of}
use Rattle.cases.specs.BoreK.{bore_k, numbers_apart}

-- a row: what the definitions give, and what the documents say, or what is worked by hand
abbrev pub Row : Type 0
Row = ℤ × ℤ

-- the number of an outcome, 0 for taken
unfoldable pub outcome_number : Result Unit Refusal → ℕ
outcome_number (Ok u) = 0
outcome_number (Err k) = refusal_number k

-- the rows for start's answer
unfoldable pub start_rows : Answer → List Row
start_rows answer =
    let r = answer.«record» in
    (pos (outcome_number answer.outcome), pos 0)  -- start accepts bore K
    ∷ (pos (logarithm 600 200), pos 1179625948)
    ∷ (pos (area_at r.site 1), pos 753982)
    ∷ (pos (get_or r.screen 1 0), pos 1143840361)  -- C of layer 2, well and column 1
    ∷ (pos (get_or r.horizontal (slot 1 1) 0), pos 1143840361)  -- C of layer 2, columns 1 and 2
    ∷ (pos (get_or r.horizontal (slot 0 1) 0), pos 5719201805)  -- C of layer 1, columns 1 and 2
    ∷ (pos (get_or r.vertical (slot 0 1) 0), pos 7539820)  -- C of column 1, layers 1 and 2: the value at s = 0 (N6)
    ∷ (pos (get_or r.storages (slot 0 1) 0), pos 150796400000)  -- S of layer 1
    ∷ (pos (get_or r.storages (slot 1 1) 0), pos 1507964000)  -- S of layer 2
    ∷ []

-- the rows for a first step of 1000 ml/s, by the number of its outcome for so many µs
unfoldable pub length_rows : (ℕ → ℕ) → List Row
length_rows outcome =
    (pos (outcome 657001), pos 0)  -- taken
    ∷ (pos (outcome 657002), pos 8)
    ∷ []

-- the rows for the faces of the third step, from the losses before it. Water is that from the first end named to the second.
unfoldable pub face_rows : Grid → Network → List ℤ → List Row
face_rows G N vs =
    (flow N vs 500000 (across_face G 1 0), neg_ℤ (pos 15267409))  -- layer 2, from the well to column 1: it runs the other way
    ∷ (flow N vs 500000 (across_face G 1 1), neg_ℤ (pos 3614535))  -- layer 2, from column 1 to the last column: it runs the other way
    ∷ (flow N vs 500000 (down_face G 0 1), pos 2165)  -- column 1, from layer 1 to layer 2
    ∷ (in_use N (down_face G 0 1) (drawdown N vs (place G 0 1)) (drawdown N vs (place G 1 1)), pos 685438)  -- C in use of that face, at D 0 in layer 1 (N6)
    ∷ []

-- the row for layer 2 after it, from the losses then
unfoldable pub depth_rows : Grid → Network → List ℤ → List Row
depth_rows G N vs = (drawdown N vs (place G 1 1), pos 14046) ∷ []

-- the record after n steps of 1000 ml/s for 500000 µs each
unfoldable pub pumped : ℕ → Record → Record
pumped zero r = r
pumped (suc n) r = (step_of (pumped n r) 1000 500000).«record»

-- the rows for a text: all from what start gives for it, and from steps on that record
unfoldable pub rows : List ℕ → List Row
rows text =
    let r = (start_of text).«record» in
    let before = pumped 2 r in
    let after = pumped 3 r in
    start_rows (start_of text)
    ++ length_rows (λ dt. outcome_number (step_of r 1000 dt).outcome)
    ++ face_rows (grid_of before) (network_of (grid_of before)) (state_of before).losses
    ++ depth_rows (grid_of after) (network_of (grid_of after)) (state_of after).losses

-- the row that is not marked K: C in use between layers 1 and 2 of column 1, at D 2000000 µm in layer 1, for Kv_1 10000 and Kv_2 40000 nm/s, b_1 10000 and b_2 2000
-- mm. By hand, with A_1 = 753982 mm² as above: s is 1000×10000 − 2000000 = 8000000, the divisor 8000000×40000 + 500×2000×10000 = 33×10^10, the dividend
-- 753982×1000×10000×40000 = 30159280×10^10, and 30159280/33 is 913917 and 19/33. With the two Kv exchanged the divisor is 12×10^10, and C 2513273
unfoldable pub apart_rows : Grid → List Row
apart_rows G = (in_use (network_of G) (down_face G 0 1) (pos 2000000) (pos 0), pos 913917) ∷ []

unfoldable pub table : List Row
table = rows bore_k ++ apart_rows (scenario_grid (site_of numbers_apart))

-- the definitions give what stands beside it, row by row
unfoldable pub Agree : List Row → Type 0
Agree l = map (λ row. row.0) l ≡ map (λ row. row.1) l
