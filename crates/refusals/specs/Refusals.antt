-- The refusals by their numbers in documents 01 and 02, and an answer by the number of the first refusal.
use Rattle.std.specs.Prelude.{cond, ℕ, zero, suc, eqb, Result, Ok, Err}
use Rattle.refusals.specs.declared.Refusal.{Refusal}

-- the number of a refusal
unfoldable pub refusal_number : Refusal → ℕ
refusal_number Refusal.Lines = 1
refusal_number Refusal.Counts = 2
refusal_number Refusal.Numbers = 3
refusal_number Refusal.Radii = 4
refusal_number Refusal.Screen = 5
refusal_number Refusal.Coefficients = 6
refusal_number Refusal.RateOrLength = 7
refusal_number Refusal.Unstable = 8
refusal_number Refusal.Totals = 9
refusal_number Refusal.PastIntake = 10
refusal_number Refusal.PastBottom = 11
refusal_number Refusal.NoSuch = 12
refusal_number Refusal.LentLength = 13
refusal_number Refusal.Record = 14
refusal_number Refusal.Choice = 20

-- the refusal with a number; no test of the definitions has a number that none has, for which Choice stands here
unfoldable pub refusal : ℕ → Refusal
refusal n =
    cond (eqb n 1) Refusal.Lines
    (cond (eqb n 2) Refusal.Counts
    (cond (eqb n 3) Refusal.Numbers
    (cond (eqb n 4) Refusal.Radii
    (cond (eqb n 5) Refusal.Screen
    (cond (eqb n 6) Refusal.Coefficients
    (cond (eqb n 7) Refusal.RateOrLength
    (cond (eqb n 8) Refusal.Unstable
    (cond (eqb n 9) Refusal.Totals
    (cond (eqb n 10) Refusal.PastIntake
    (cond (eqb n 11) Refusal.PastBottom
    (cond (eqb n 12) Refusal.NoSuch
    (cond (eqb n 13) Refusal.LentLength
    (cond (eqb n 14) Refusal.Record
    Refusal.Choice)))))))))))))

-- an answer, by the number of the first refusal, 0 for none: the value, or that refusal and nothing else
unfoldable pub given : {A : Type 0} → ℕ → A → Result A Refusal
given zero x = Ok x
given (suc n) x = Err (refusal (suc n))

-- what became of a text or a step, in the same way: taken, or refused
abbrev pub outcome_of : ℕ → Result Unit Refusal
outcome_of n = given n tt
