-- A section's tests, and those of the form one section after the other.
--     no_count, bad_count, few_numbers, section_whole: the walk of a section's tests, by where it ends
--     refused_by, given_by    what is given where the walk ends at a test, or at none
--     Reached ns ts rest at    no test of the form before ts holds, and rest, which stands at `at`, is still to be judged
--     start              before the first section; go_on: a section further; stop: the form's refusal is the section's
--     over, whole        past the last section: numbers are left over, or none
use Rattle.std.proofs.Common.{◌≡◌, refl, sym, ap, ◌∙◌, Bool, true, false, not, List, ◌++◌, ℕ, suc, ◌+◌, ◌*◌, ◌≤◌, ◌<◌, Ok, Err, add_assoc, [], ◌∷◌, ltb, length, get_or, drop, arith, length-drop, eq-eqb, ne_eqb, lt-ltb, le-ltb}
use Rattle.std.proofs.Math.Seq.{drop-drop}
use Rattle.laws.specs.Lists.{every, padded, first}
use Rattle.laws.specs.Refusal.{First, none, hit, skip, first_is, first_before, first-after, numbered}
use Rattle.refusals.specs.declared.Refusal.{Refusal}
use Rattle.refusals.specs.Refusals.{refusal, given, outcome_of}
use Rattle.refusals.specs.Laws.{value_given, refusal_given, given_refused}
use Rattle.limits.specs.Limits.{number_places, layer_count, column_count, coefficient_count, well_count, entry_count}
use Rattle.sections.specs.Sections.{layer_width, entry_width, section_count, rest_of, section_tests, from_columns, from_well, from_loss, from_pumping, left_over, form_tests}
use Rattle.sections.specs.Reading.{Section}
use Rattle.sections.proofs.Places.{count_read}

-- the walk of a section's tests
module _ (limits : ℕ → Bool) (width : ℕ) (rest : List ℕ) where
  pub no_count : length rest ≡ 0 → First (section_tests limits width rest) 1
  unfolding section_tests
  no_count e = hit (eq-eqb (length rest) 0 e)

  pub bad_count : 0 < length rest → limits (section_count rest) ≡ false → First (section_tests limits width rest) 2
  unfolding section_tests
  bad_count h e = skip (ne_eqb (length rest) 0 (omega arith)) (hit (ap not e))

  pub few_numbers : 0 < length rest → limits (section_count rest) ≡ true → length rest ≤ width * section_count rest → First (section_tests limits width rest) 1
  unfolding section_tests
  few_numbers h e few = skip (ne_eqb (length rest) 0 (omega arith)) (skip (ap not e) (hit (lt-ltb (length rest) (1 + width * section_count rest) (omega arith))))

  pub section_whole : limits (section_count rest) ≡ true → width * section_count rest < length rest → First (section_tests limits width rest) 0
  unfolding section_tests
  section_whole e enough = skip (ne_eqb (length rest) 0 (omega arith)) (skip (ap not e) (skip (le-ltb (length rest) (1 + width * section_count rest) (omega arith)) none))

  -- the tests after a section's count where none of those holds, and not where one does
  pub section_on : (ts : List (Bool × ℕ)) → first (section_tests limits width rest) ≡ 0 → first (section_tests limits width rest ++ ts) ≡ first ts
  unfolding numbered every section_tests
  section_on ts e = first-after (section_tests limits width rest) ts refl e

  pub section_stops : (ts : List (Bool × ℕ)) → (first (section_tests limits width rest) ≡ 0 → ⊥) → first (section_tests limits width rest ++ ts) ≡ first (section_tests limits width rest)
  section_stops ts h = first_before (section_tests limits width rest) ts h

module _ {A : Type 0} {ts : List (Bool × ℕ)} (x : A) where
  pub refused_by : {n : ℕ} → First ts (suc n) → Err (refusal (suc n)) ≡ given (first ts) x
  unfolding given
  refused_by w = rw (← first_is w)

  pub given_by : First ts 0 → Ok x ≡ given (first ts) x
  unfolding given
  given_by w = rw (← first_is w)

-- ---- the form, one section after the other
positive : (n : ℕ) → (n ≡ 0 → ⊥) → 0 < n
positive n h = omega arith

module _ (ns : List ℕ) where
  abbrev pub from_fifth : List (Bool × ℕ)
  from_fifth = section_tests entry_count entry_width (from_pumping ns) ++ ((ltb 0 (length (left_over ns)), 1) ∷ [])

  abbrev pub from_fourth : List (Bool × ℕ)
  from_fourth = section_tests coefficient_count 1 (from_loss ns) ++ from_fifth

  abbrev pub from_third : List (Bool × ℕ)
  from_third = section_tests well_count 1 (from_well ns) ++ from_fourth

  abbrev pub from_second : List (Bool × ℕ)
  from_second = section_tests column_count 1 (from_columns ns) ++ from_third

  pub record Reached (ts : List (Bool × ℕ)) (rest : List ℕ) (at : ℕ) : Type 0 where
    pub left : first (form_tests ns) ≡ first ts
    pub stands : rest ≡ drop at ns

  pub start : Reached (section_tests layer_count layer_width ns ++ from_second) ns 0
  unfolding form_tests section_tests
  start = record { left = refl; stands = refl }

  module _ {total : ℕ} {values : List ℕ} (held : values ≡ padded number_places 0 ns) (total_is : total ≡ length ns)
      (limits : ℕ → Bool) (width : ℕ) (ts : List (Bool × ℕ)) {at : ℕ} {rest : List ℕ} {within : Bool} (near : at < number_places)
      (r : Reached (section_tests limits width rest ++ ts) rest at) (w : within ≡ limits (get_or values at 0)) where
    pub go_on : {next : ℕ} → Section total width (get_or values at 0) within at (Ok next) → Reached ts (rest_of width rest) next
    unfolding rest_of
    go_on {next} s =
        let n = count_read ns at held refl near in
        let e = value_given (first (section_tests limits width (drop at ns))) _ (sym (s ns limits total_is w n)) in
        let none : first (section_tests limits width rest) ≡ 0 = rw r.stands e.0 in
        record {
          left = r.left ∙ section_on limits width rest ts none;
          stands = rw (r.stands, drop-drop, drop-drop, ← n, ← e.1, add_assoc);
        }

    pub stop : {k : Refusal} → Section total width (get_or values at 0) within at (Err k) → outcome_of (first (form_tests ns)) ≡ Err k
    stop {k} s =
        let n = count_read ns at held refl near in
        let e = refusal_given (first (section_tests limits width (drop at ns))) _ (sym (s ns limits total_is w n)) in
        let here : first (form_tests ns) ≡ first (section_tests limits width (drop at ns)) = r.left ∙ rw (r.stands) (section_stops limits width (drop at ns) ts e.1) in
        rw here (sym (given_refused (first (section_tests limits width (drop at ns))) tt (positive _ e.1)) ∙ ap Err e.0)

  module _ {end : ℕ} (r : Reached ((ltb 0 (length (left_over ns)), 1) ∷ []) (left_over ns) end) where
    pub over : end < length ns → outcome_of (first (form_tests ns)) ≡ Err (refusal 1)
    unfolding first given
    over h = rw (r.left, lt-ltb 0 (length (left_over ns)) (omega (arith, ap length r.stands, length-drop end ns)))

    pub whole : length ns ≤ end → first (form_tests ns) ≡ 0
    unfolding first
    whole h = r.left ∙ rw (le-ltb 0 (length (left_over ns)) (omega (arith, ap length r.stands, length-drop end ns)))
