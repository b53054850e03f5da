-- The answer of the flow reading where the two ends are named the other way round (document 01, 'Readings': from the first end named to the second).
use Rattle.std.specs.Prelude.{neg_ℤ, ℤ, Result, Ok, Err}
use Rattle.refusals.specs.declared.Refusal.{Refusal}

-- the number with the other sign, or the same refusal
unfoldable pub opposite : Result ℤ Refusal → Result ℤ Refusal
opposite (Ok x) = Ok (neg_ℤ x)
opposite (Err k) = Err k
