-- The answers of this crate's functions, by what has been judged.
--     taken               whether a trial is taken, by its outcome
--     rising_is           whether each rate is below the next, by the test of neighbours
--     answer_14, answer_20        the choice where these are due; answer_choice: where none is
use Rattle.std.proofs.Common.{◌≡◌, refl, sym, ap, ◌∙◌, Bool, true, false, List, ℕ, ◌-◌, arith, add-one, length, ltb, is_ok, Result, Ok, Err}
use Rattle.std.specs.List.{IsAllAdjacentAnswer}
use Rattle.laws.specs.All.{all_fails}
use Rattle.laws.specs.Rows.{all_from}
use Rattle.laws.specs.Lists.{first}
use Rattle.refusals.specs.declared.Refusal.{Refusal}
use Rattle.refusals.specs.Refusals.{refusal, given}
use Rattle.record.specs.declared.Record.{Record}
use Rattle.record.specs.declared.Repeated.{Repeated}
use Rattle.validity.specs.Validity.{valid}
use Rattle.control_choice.specs.Choice.{is_taken, rising, list_holds, choice_refusal, best_of, choice_of}

-- ---- a trial

pub taken : {x y : Repeated} {t : Bool} → x ≡ y → t ≡ is_ok x.outcome → t ≡ is_taken y.outcome
unfolding is_taken
taken {x} {y} e q = q ∙ by_outcome x.outcome ∙ ap (λ (z : Repeated). is_taken z.outcome) e
  where
    by_outcome : (o : Result Unit Refusal) → is_ok o ≡ is_taken o
    by_outcome (Ok u) = refl
    by_outcome (Err k) = refl

-- ---- 20

pub rising_is : (rates : List ℕ) (b : Bool) → IsAllAdjacentAnswer (λ x y t. t ≡ ltb x y) rates b → b ≡ rising rates
unfolding rising
rising_is rates true h = sym (all_from _ (length rates - 1) (λ k g. rw add-one at (sym (h k 0 (omega arith)))))
rising_is rates false h = sym (all_fails _ (length rates - 1) h.0 (omega (arith, h.1)) (rw add-one at (sym (h.2 0))))

-- ---- the number of the first refusal

module _ (r : Record) (rates : List ℕ) (n : ℕ) (l : List ℕ) where
  pub answer_14 : valid r ≡ false → Err Refusal.Record ≡ choice_of (choice_refusal r rates n) l
  unfolding choice_refusal first choice_of given refusal
  answer_14 e = rw e

  pub answer_20 : valid r ≡ true → list_holds rates n ≡ false → Err Refusal.Choice ≡ choice_of (choice_refusal r rates n) l
  unfolding choice_refusal first choice_of given refusal
  answer_20 e f = rw (e, f)

  pub answer_choice : valid r ≡ true → list_holds rates n ≡ true → Ok (best_of l) ≡ choice_of (choice_refusal r rates n) l
  unfolding choice_refusal first choice_of given
  answer_choice e f = rw (e, f)
