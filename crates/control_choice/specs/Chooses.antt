-- What the choice is (document 02, N13), as a theorem says it of what `choose` answers, whatever it is handed, in what `step` and `repeat` answer.
-- Units: rates ml/s; lengths of steps µs.
use Rattle.std.specs.Prelude.{◌≡◌, true, false, List, ◌⊎◌, ℕ, zero, suc, ◌<◌, ◌≤◌, length, get_or, Option, Some, None, Result, Ok, Err}
use Rattle.limits.specs.Limits.{choice_rate_limit, choice_step_limit}
use Rattle.refusals.specs.Refusals.{outcome_of}
use Rattle.refusals.specs.declared.Refusal.{Refusal}
use Rattle.record.specs.declared.Record.{Record}
use Rattle.validity.specs.Validity.{valid}
use Rattle.step_rules.specs.Step.{step_of}
use Rattle.step.specs.Repeat.{repeat_of}
use Rattle.control_choice.specs.Choice.{chosen_of}

-- the record after k steps of dt at a rate, each on the record that the one before it gave; a refused one gives the record that it was handed
unfoldable pub record_after : ℕ → ℕ → ℕ → Record → Record
record_after rate dt zero r = r
record_after rate dt (suc k) r = record_after rate dt k (step_of r rate dt).«record»

-- what becomes of the step after these
abbrev pub outcome_after : ℕ → ℕ → ℕ → Record → Result Unit Refusal
outcome_after rate dt k r = (step_of (record_after rate dt k r) rate dt).outcome

-- x stands on the list l, in the place `at`, counted from 0
pub record Stands (l : List ℕ) (x : ℕ) : Type 0 where
  pub at : ℕ
  pub within : at < length l
  pub is : get_or l at 0 ≡ x

-- what 20 lets pass: 1 to 16 rates of which each is below every later one, and 1 to 10^6 steps
pub record Holds (rates : List ℕ) (n : ℕ) : Type 0 where
  pub some : 1 ≤ length rates
  pub few : length rates ≤ choice_rate_limit
  pub rise : (i j : ℕ) → i < j → j < length rates → get_or rates i 0 < get_or rates j 0
  pub least : 1 ≤ n
  pub most : n ≤ choice_step_limit

module _ (r : Record) (dt n : ℕ) where
  -- n steps at a rate, one after the other from r, are all accepted
  abbrev pub AllAccepted : ℕ → Type 0
  AllAccepted rate = (k : ℕ) → k < n → outcome_after rate dt k r ≡ outcome_of 0

  -- one of them is refused, after `steps` others
  pub record MeetsRefused (rate : ℕ) : Type 0 where
    pub steps : ℕ
    pub within : steps < n
    pub less : ℕ
    pub refused : outcome_after rate dt steps r ≡ outcome_of (suc less)

  -- and what `repeat` answers of the same steps
  pub record AsRepeat (rate : ℕ) : Type 0 where
    pub taken : AllAccepted rate → (repeat_of r rate dt n).outcome ≡ outcome_of 0
    pub accepted : (repeat_of r rate dt n).outcome ≡ outcome_of 0 → AllAccepted rate
    pub ended : MeetsRefused rate → (k : ℕ) × ((repeat_of r rate dt n).outcome ≡ outcome_of (suc k))
    pub refused : (k : ℕ) → (repeat_of r rate dt n).outcome ≡ outcome_of (suc k) → MeetsRefused rate

module _ (r : Record) (rates : List ℕ) (dt n : ℕ) where
  -- what a choice says
  unfoldable pub Says : Result (Option ℕ) Refusal → Type 0
  -- it stands on the list, all its steps are accepted, and every higher rate on the list meets a refused step
  Says (Ok (Some x)) =
      (valid r ≡ true) × Holds rates n × Stands rates x × AllAccepted r dt n x × ((y : ℕ) → Stands rates y → x < y → MeetsRefused r dt n y)
  -- each rate on the list meets one
  Says (Ok None) = (valid r ≡ true) × Holds rates n × ((y : ℕ) → Stands rates y → MeetsRefused r dt n y)
  -- 14 refuses the record; or it does not, and 20 refuses the list or the number of steps
  Says (Err k) = ((k ≡ Refusal.Record) × (valid r ≡ false)) ⊎ ((k ≡ Refusal.Choice) × (valid r ≡ true) × (Holds rates n → ⊥))

  pub record Chooses : Type 0 where
    pub says : Says (chosen_of r rates dt n).choice
    -- and of no other choice could this be said: so each is given exactly where it is due
    pub only : (a : Result (Option ℕ) Refusal) → Says a → a ≡ (chosen_of r rates dt n).choice
    -- the record handed in is the one handed back
    pub kept : (chosen_of r rates dt n).«record» ≡ r
    -- what is said of steps in a row is what `repeat` answers of them, on any record that 14 lets pass
    pub repeats : valid r ≡ true → (rate : ℕ) → AsRepeat r dt n rate
