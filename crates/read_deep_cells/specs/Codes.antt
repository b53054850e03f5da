-- The codes of deep cells by slot, and the keys by which they are arranged: inner definitions, for the loops over the slots.
use Rattle.std.specs.Prelude.{◌≡◌, Bool, cond, List, [], ◌∷◌, ◌++◌, map, ℕ, zero, suc, ◌+◌, ◌*◌, ◌-◌, ◌/◌, ◌%◌, ◌≤◌, ltb, length, get_or}
use Rattle.limits.specs.Limits.{drawdown_limit}
use Rattle.read_order.specs.Sorted.{Rising, Rearranged}

-- layer×100 + column of the cell of slot k, both from 1
unfoldable pub code_of : ℕ → ℕ
code_of k = (k / 50 + 1) * 100 + k % 50 + 1

-- no D is above the limit, so that the subtraction in a key is not cut off at 0
abbrev pub Shallow : List ℕ → Type 0
Shallow ds = (k : ℕ) → get_or ds k 0 ≤ drawdown_limit

-- above every code
abbrev pub code_limit : ℕ
code_limit = 10000

-- the key of a cell by its D and its code: smaller where D is greater, and at equal D where the code is smaller; its remainder by code_limit is the code
unfoldable pub key_by : ℕ → ℕ → ℕ
key_by D c = (drawdown_limit - D) * code_limit + c

-- that of the cell of slot k, whose D stands in ds
unfoldable pub key_of : List ℕ → ℕ → ℕ
key_of ds k = key_by (get_or ds k 0) (code_of k)

-- f of those of the first n slots of which a test holds
unfoldable pub below : (ℕ → Bool) → (ℕ → ℕ) → ℕ → List ℕ
below t f zero = []
below t f (suc n) = below t f n ++ cond (t n) (f n ∷ []) []

-- D of slot k, in ds, is above D
unfoldable pub deep_at : ℕ → List ℕ → ℕ → Bool
deep_at D ds k = ltb D (get_or ds k 0)

-- a list of the codes of the deep ones of the first n slots in the order of their keys
pub record Arrangement (D : ℕ) (ds : List ℕ) (n : ℕ) (l : List ℕ) : Type 0 where
  pub keys : List ℕ
  pub rising : Rising 1 (length keys) keys
  pub same : Rearranged (below (deep_at D ds) (key_of ds) n) keys
  pub codes : l ≡ map (λ x. x % code_limit) keys
