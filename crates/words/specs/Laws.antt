-- Laws of `fitted`, for the proofs of callers; nothing here is to be believed.
--     fitted-word, fitted_over   what it gives for a number
--     word-fitted, over_fitted   what the number is, from what it gives
use Rattle.std.proofs.Common.{◌≡◌, ℕ, ◌^◌, ◌<◌, ◌≤◌, Some, None, ⊎_elim, lt-ltb, le-ltb}
use Rattle.laws.specs.Number.{below_or_not}
use Rattle.words.specs.Fitted.{fitted}

pub fitted-word : {n : ℕ} → n < 2 ^ 64 → fitted n ≡ Some n
unfolding fitted
fitted-word {n} h = rw (lt-ltb n (2 ^ 64) h)

pub fitted_over : {n : ℕ} → 2 ^ 64 ≤ n → fitted n ≡ None
unfolding fitted
fitted_over {n} h = rw (le-ltb n (2 ^ 64) h)

pub word-fitted : {n v : ℕ} → fitted n ≡ Some v → n ≡ v
word-fitted {n} {v} e = ⊎_elim (λ fits. cc (fitted-word fits)) (λ over. cc (fitted_over over)) (below_or_not n (2 ^ 64))

pub over_fitted : {n : ℕ} → fitted n ≡ None → 2 ^ 64 ≤ n
over_fitted {n} e = ⊎_elim (λ fits. cc (fitted-word fits)) (λ over. over) (below_or_not n (2 ^ 64))
