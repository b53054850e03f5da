-- What the tests of a text come to, case by case.
--     refused_by, given_by     what is given where the walk of some tests ends at one, or at none
--     three .. passed_all      the walk of the conditions 3 to 6; last_is: what the code gives for 6
--     malformed, unread, read  the number of a text that does not have the form of lines, of one whose sections do not have theirs, and of any other
--     entry_refused, entry_found    an entry of a refused text, and of an accepted one
--     no_entry, some_entry     an entry by its number
use Rattle.std.proofs.Common.{◌≡◌, refl, sym, ap, ◌∙◌, Bool, true, false, not, ◌&&◌, ◌||◌, List, ◌∷◌, ℕ, zero, suc, ◌-◌, ◌≤◌, ◌<◌, Option, Some, None, cond, Result, Ok, Err, arith, eqb, ltb, ne_eqb, le-ltb}
use Rattle.std.specs.Option.{ok_or}
use Rattle.laws.specs.Lists.{every, first}
use Rattle.laws.specs.Refusal.{First, none, hit, skip, first_is, first_before, first-after, numbered, numbered_append}
use Rattle.refusals.specs.declared.Refusal.{Refusal}
use Rattle.refusals.specs.Refusals.{refusal, given, outcome_of}
use Rattle.refusals.specs.Laws.{refusal_given, given_refused}
use Rattle.text.specs.Text.{well_formed, numbers}
use Rattle.site.specs.declared.Site.{Site}
use Rattle.site.specs.Site.{numbers_hold, radii_hold, screen_holds}
use Rattle.sections.specs.declared.Entry.{Entry}
use Rattle.sections.specs.Sections.{form_tests, site_of, repeats_hold, entries_of, entry_at}
use Rattle.sections.specs.Laws.{form_numbered}
use Rattle.record.specs.declared.Record.{Record}
use Rattle.record.specs.declared.Answer.{Answer}
use Rattle.record.specs.Record.{zero_record, answer_of}
use Rattle.coefficient_slots.specs.Slots.{coefficients_hold}
use Rattle.coefficients.specs.Coefficients.{scenario_grid, start_record, coefficients_of}
use Rattle.scenario.specs.Scenario.{scenario_of, number_tests, text_tests, text_refusal, start_of, entry_tests, entry_of}

module _ {A : Type 0} {ts : List (Bool × ℕ)} (x : A) where
  pub refused_by : {n : ℕ} → First ts (suc n) → Err (refusal (suc n)) ≡ given (first ts) x
  unfolding given
  refused_by w = rw (← first_is w)

  pub given_by : First ts 0 → Ok x ≡ given (first ts) x
  unfolding given
  given_by w = rw (← first_is w)

-- what stands for none is the refusal
pub none_refused : {A : Type 0} {f k : Refusal} (o : Option A) → Err f ≡ ok_or o k → f ≡ k
none_refused None e = cc
none_refused (Some x) e = absurd cc

-- a refusal is the same whatever would have been given
pub refused_as : {A B : Type 0} (n : ℕ) (x : A) (y : B) {k : Refusal} → given n y ≡ Err k → Err k ≡ given n x
refused_as n x y e =
    let r = refusal_given n y e in
    ap Err (sym r.0) ∙ given_refused n x (positive n r.1)
  where
    positive : (m : ℕ) → (m ≡ 0 → ⊥) → 0 < m
    positive m h = omega arith

module _ (text : List ℕ) where
  pub malformed : well_formed text ≡ false → text_refusal text ≡ 1
  unfolding text_refusal text_tests first
  malformed e = rw e

  pub unread : well_formed text ≡ true → (first (form_tests (numbers text)) ≡ 0 → ⊥) → text_refusal text ≡ first (form_tests (numbers text))
  unfolding text_refusal text_tests first
  unread e h = rw e (first_before (form_tests (numbers text)) (number_tests (scenario_of text) (repeats_hold (numbers text))) h)

  pub read : well_formed text ≡ true → first (form_tests (numbers text)) ≡ 0 → {s : Site} {b : Bool} → s ≡ site_of (numbers text) → b ≡ repeats_hold (numbers text)
      → text_refusal text ≡ first (number_tests s b)
  unfolding text_refusal text_tests scenario_of first
  read e h es eb = rw (e, es, eb) (first-after (form_tests (numbers text)) (number_tests (site_of (numbers text)) (repeats_hold (numbers text))) (form_numbered (numbers text)) h)

-- ---- the conditions 3 to 6 in their order
module _ (s : Site) (repeats : Bool) where
  pub three : (numbers_hold s && repeats) ≡ false → First (number_tests s repeats) 3
  unfolding number_tests
  three e = hit (ap not e)

  module _ (e : (numbers_hold s && repeats) ≡ true) where
    pub four : radii_hold s ≡ false → First (number_tests s repeats) 4
    unfolding number_tests
    four e4 = skip (ap not e) (hit (ap not e4))

    module _ (e4 : radii_hold s ≡ true) where
      pub five : screen_holds s ≡ false → First (number_tests s repeats) 5
      unfolding number_tests
      five e5 = skip (ap not e) (skip (ap not e4) (hit (ap not e5)))

      module _ (e5 : screen_holds s ≡ true) where
        pub six : coefficients_hold (scenario_grid s) ≡ false → First (number_tests s repeats) 6
        unfolding number_tests
        six e6 = skip (ap not e) (skip (ap not e4) (skip (ap not e5) (hit (ap not e6))))

        pub passed_all : coefficients_hold (scenario_grid s) ≡ true → First (number_tests s repeats) 0
        unfolding number_tests
        passed_all e6 = skip (ap not e) (skip (ap not e4) (skip (ap not e5) (skip (ap not e6) none)))

        -- 6 by the answer of the coefficients
        pub last_is : ok_or (coefficients_of s) (refusal 6) ≡ given (first (number_tests s repeats)) (start_record s)
        unfolding coefficients_of
        last_is = by_test (coefficients_hold (scenario_grid s)) refl
          where
            by_test : (t : Bool) → coefficients_hold (scenario_grid s) ≡ t → ok_or (cond t (Some (start_record s)) None) (refusal 6) ≡ given (first (number_tests s repeats)) (start_record s)
            by_test true h = given_by _ (passed_all h)
            by_test false h = refused_by _ (six h)

-- ---- start
module _ (text : List ℕ) where
  pub start_made : {r : Record} → text_refusal text ≡ 0 → r ≡ start_record (scenario_of text) → ◌≡◌ {A = Answer} (record { outcome = Ok tt; «record» = r }) (start_of text)
  unfolding start_of answer_of given
  start_made e made = rw (e, made)

  pub start_refused : {r : Record} {k : Refusal} → outcome_of (text_refusal text) ≡ Err k → r ≡ zero_record → ◌≡◌ {A = Answer} (record { outcome = Err k; «record» = r }) (start_of text)
  unfolding start_of answer_of given
  start_refused {r} {k} e all = rw all (by_number (text_refusal text) e)
    where
      by_number : (n : ℕ) → outcome_of n ≡ Err k → ◌≡◌ {A = Answer} (record { outcome = Err k; «record» = zero_record }) (answer_of n zero_record (start_record (scenario_of text)))
      by_number zero e = absurd cc
      by_number (suc n) e = ap (λ o. record { outcome = o; «record» = zero_record }) (sym e)

-- ---- an entry
head_numbered : (b : Bool) (ts : List (Bool × ℕ)) → numbered ts ≡ true → numbered ((b, 1) ∷ ts) ≡ true
unfolding numbered every
head_numbered b ts e = e

number_tests-numbered : (s : Site) (b : Bool) → numbered (number_tests s b) ≡ true
unfolding numbered every number_tests
number_tests-numbered s b = refl

module _ (text : List ℕ) where
  tests-numbered : numbered (text_tests text) ≡ true
  unfolding text_tests
  tests-numbered =
      numbered_append ((not (well_formed text), 1) ∷ form_tests (numbers text)) (number_tests (scenario_of text) (repeats_hold (numbers text)))
      (head_numbered _ _ (form_numbered (numbers text))) (number_tests-numbered _ _)

  pub entry_refused : (n : ℕ) {k : Refusal} → outcome_of (text_refusal text) ≡ Err k → Err k ≡ entry_of text n
  unfolding entry_of text_refusal
  entry_refused n e =
      let r = refusal_given (first (text_tests text)) tt e in
      rw (first_before (text_tests text) (entry_tests (numbers text) n) r.1) (refused_as (first (text_tests text)) (entry_at (numbers text) (n - 1)) tt e)

  pub entry_found : (n : ℕ) {p : Result Entry Refusal} → text_refusal text ≡ 0 → p ≡ given (first (entry_tests (numbers text) n)) (entry_at (numbers text) (n - 1)) → p ≡ entry_of text n
  unfolding entry_of text_refusal
  entry_found n e q = q ∙ rw (first-after (text_tests text) (entry_tests (numbers text) n) tests-numbered e)

module _ (ns : List ℕ) (n : ℕ) where
  pub no_entry : (eqb n 0 || ltb (entries_of ns) n) ≡ true → First (entry_tests ns n) 12
  unfolding entry_tests
  no_entry e = hit e

  pub some_entry : (n ≡ 0 → ⊥) → n ≤ entries_of ns → First (entry_tests ns n) 0
  unfolding entry_tests
  some_entry h k = skip (rw (ne_eqb n 0 h, le-ltb (entries_of ns) n k)) none
