-- The bore K of document 01: the numbers of its text, section by section, and the text itself, which is examples/bore-k.txt. And its numbers with one
-- changed, for the row of the table that is not marked K.
use Rattle.std.specs.Prelude.{ℕ, List, [], ◌∷◌, ◌++◌, set}
use mathlib.Core.List.{flat_map}
use Rattle.decimal.specs.Decimal.{digits_of}
use Rattle.text.specs.Text.{line_feed}

unfoldable pub numbers_k : List ℕ
numbers_k =
    2  -- layers: thickness, screened, horizontal and vertical conductivity, storage of each
    ∷ 10000 ∷ 0 ∷ 100000 ∷ 10000 ∷ 200000
    ∷ 2000 ∷ 1 ∷ 100000 ∷ 10000 ∷ 1000000
    ∷ 2  -- columns: their outer radii
    ∷ 500 ∷ 1300
    ∷ 4  -- well: radius, free water area, intake depth, friction
    ∷ 100 ∷ 30000 ∷ 9999 ∷ 50000
    ∷ 0  -- screen loss: no coefficient
    ∷ 2  -- pumping: rate, step length, repeats of each entry
    ∷ 1000 ∷ 500000 ∷ 2
    ∷ 1000 ∷ 500000 ∷ 1
    ∷ []

-- the same with another Kv_2, 40000 nm/s for 10000, which is number 9 counted from 0: bore K's Kv_1 and Kv_2 are equal
unfoldable pub numbers_apart : List ℕ
numbers_apart = set numbers_k 9 40000

-- each number's digits and a line feed
unfoldable pub bore_k : List ℕ
bore_k = flat_map (λ n. digits_of n ++ (line_feed ∷ [])) numbers_k
