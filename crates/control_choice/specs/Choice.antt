-- The controller's choice (document 02, N13): of some rates the highest at which so many steps in a row are all accepted.
-- Units: rates ml/s; lengths of steps µs.
use Rattle.std.specs.Prelude.{Bool, true, false, cond, not, ◌&&◌, List, [], ◌∷◌, ℕ, zero, suc, ◌-◌, ltb, length, get_or, Option, Some, None, Result, Ok, Err}
use Rattle.limits.specs.Limits.{between, choice_rate_limit, choice_step_limit}
use Rattle.refusals.specs.declared.Refusal.{Refusal}
use Rattle.refusals.specs.Refusals.{given}
use Rattle.laws.specs.Lists.{all_below, first}
use Rattle.record.specs.declared.Record.{Record}
use Rattle.validity.specs.Validity.{valid}
use Rattle.step_rules.specs.Step.{step_of}
use Rattle.control_choice.specs.declared.Chosen.{Chosen}

-- ---- steps in a row

-- whether a step with this outcome is accepted
unfoldable pub is_taken : Result Unit Refusal → Bool
is_taken (Ok u) = true
is_taken (Err k) = false

-- whether n steps of dt at a rate are all accepted: the first on r, and the others from the record that it gives on
unfoldable pub all_accepted : ℕ → ℕ → ℕ → Record → Bool
all_accepted rate dt zero r = true
all_accepted rate dt (suc n) r = is_taken (step_of r rate dt).outcome && all_accepted rate dt n (step_of r rate dt).«record»

-- ---- the list and the number of steps (20)

-- the rates rise strictly: each is below the next
unfoldable pub rising : List ℕ → Bool
rising rates = all_below (length rates - 1) (λ k. ltb (get_or rates k 0) (get_or rates (suc k) 0))

-- neither empty nor too long a list, rates that rise strictly, and a number of steps within its limits
unfoldable pub list_holds : List ℕ → ℕ → Bool
list_holds rates n = between 1 choice_rate_limit (length rates) && rising rates && between 1 choice_step_limit n

-- the number of the first refusal, 0 for none: 14, then 20
unfoldable pub choice_refusal : Record → List ℕ → ℕ → ℕ
choice_refusal r rates n = first ((not (valid r), 14) ∷ (not (list_holds rates n), 20) ∷ [])

-- ---- the answer

-- the numbers of a list that pass a test
unfoldable pub passing : (ℕ → Bool) → List ℕ → List ℕ
passing t [] = []
passing t (x ∷ l) = cond (t x) (x ∷ passing t l) (passing t l)

-- the highest of x and the numbers of a list
unfoldable pub highest_of : ℕ → List ℕ → ℕ
highest_of x [] = x
highest_of x (y ∷ l) = highest_of (cond (ltb x y) y x) l

-- the highest of the accepted rates, or none where there are none
unfoldable pub best_of : List ℕ → Option ℕ
best_of [] = None
best_of (x ∷ l) = Some (highest_of x l)

-- by the number of the first refusal, 0 for none
unfoldable pub choice_of : ℕ → List ℕ → Result (Option ℕ) Refusal
choice_of n l = given n (best_of l)

-- the choice for n steps of dt from r, and the record handed back, which is r
unfoldable pub chosen_of : Record → List ℕ → ℕ → ℕ → Chosen
chosen_of r rates dt n = record {
  choice = choice_of (choice_refusal r rates n) (passing (λ rate. all_accepted rate dt n r) rates);
  «record» = r;
}
