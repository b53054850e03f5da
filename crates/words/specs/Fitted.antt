-- The answer of a quotient of two words by one: document 01 asks for whole quotients, and the code has words of 64 bits.
use Rattle.std.specs.Prelude.{ℕ, ◌^◌, cond, nat_lt, Option, Some, None}

-- the number n where it fits a word of 64 bits, else none
unfoldable pub fitted : ℕ → Option ℕ
fitted n = cond (nat_lt n (2 ^ 64)) (Some n) None
