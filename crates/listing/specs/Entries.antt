-- The entries of a text, one by one: laws only, nothing to believe.
--     Entered          what a text is whose entry n is found; entry_found: it is one
--     entry_is         entry n of an accepted text; entry_past: after the last one
--     entries_most     at most 500; repeats_most: of at most 10^6 steps each
--     past_most        so no text has an entry of a higher number
use Rattle.std.specs.Prelude.{◌≡◌, true, not, ◌&&◌, ◌||◌, eqb, Ok, Err}
use Rattle.std.proofs.Math.Path.{refl, sym, ap}
use Rattle.std.proofs.Common.{◌∙◌, arith}
use mathlib.Core.List.{List, [], ◌++◌}
use Prim.Native.Nat.{ℕ, ◌-◌, ◌≤◌, ◌<◌}
use borrow.Author.Tests.{eqb-false, ltb-false, ne_eqb, le-ltb, lt-ltb, not-false}
use Rattle.std.proofs.Math.Dec.{ltb}
use Rattle.std.proofs.Math.ListN.{length}
use Rattle.laws.specs.All.{and_right}
use Rattle.laws.specs.Lists.{every, first}
use Rattle.laws.specs.Every.{every_at}
use Rattle.laws.specs.Refusal.{passed, numbered, first-after, first_none}
use Rattle.laws.specs.Sums.{or_no}
use Rattle.refusals.specs.declared.Refusal.{Refusal}
use Rattle.refusals.specs.Refusals.{refusal, given}
use Rattle.refusals.specs.Laws.{value_given}
use Rattle.text.specs.Text.{well_formed, numbers}
use Rattle.site.specs.Site.{numbers_hold}
use Rattle.sections.specs.declared.Entry.{Entry}
use Rattle.limits.specs.Limits.{repeat_limits}
use Rattle.sections.specs.Sections.{entry_width, section_of, section_tests, from_pumping, form_tests, field, entries_of, entry_at, repeats_hold}
use Rattle.sections.specs.Laws.{Form, form_numbered, form_passed, length-field, get_or-field, between_most}
use Rattle.sections.specs.Laws.{entries_most as form-entries}
use Rattle.scenario.specs.Scenario.{scenario_of, number_tests, text_tests, text_refusal, entry_tests, entry_of}

pub record Entered (text : List ℕ) (n : ℕ) (e : Entry) : Type 0 where
  pub accepted : text_refusal text ≡ 0
  pub some : 0 < n
  pub most : n ≤ entries_of (numbers text)
  pub entry : entry_at (numbers text) (n - 1) ≡ e

module _ (text : List ℕ) where
  tests-numbered : numbered (text_tests text) ≡ true
  unfolding numbered every text_tests form_tests section_tests number_tests
  tests-numbered = refl

  pub entry_found : (n : ℕ) {e : Entry} → entry_of text n ≡ Ok e → Entered text n e
  unfolding entry_of text_refusal entry_tests
  entry_found n q =
      let zero = value_given _ _ q in
      let accepted = first_none (text_tests text) (entry_tests (numbers text) n) zero.0 in
      let there = sym (first-after (text_tests text) (entry_tests (numbers text) n) tests-numbered accepted) ∙ zero.0 in
      let tests = or_no (eqb n 0) (ltb (entries_of (numbers text)) n) (passed (eqb n 0 || ltb (entries_of (numbers text)) n) 11 [] there).0 in
      record { accepted = accepted; some = omega (arith, eqb-false n 0 tests.0); most = ltb-false _ _ tests.1; entry = zero.1 }

  module _ (ok : text_refusal text ≡ 0) where
    pub entry_is : (n : ℕ) → 0 < n → n ≤ entries_of (numbers text) → entry_of text n ≡ Ok (entry_at (numbers text) (n - 1))
    unfolding entry_of text_refusal entry_tests first given
    entry_is n h m =
        let there : first (entry_tests (numbers text) n) ≡ 0 = rw (ne_eqb n 0 (λ z. omega arith), le-ltb (entries_of (numbers text)) n m) in
        ap (λ k. given k (entry_at (numbers text) (n - 1))) (first-after (text_tests text) (entry_tests (numbers text) n) tests-numbered ok ∙ there)

    pub entry_past : (n : ℕ) → entries_of (numbers text) < n → entry_of text n ≡ Err Refusal.NoSuch
    unfolding entry_of text_refusal entry_tests first given refusal
    entry_past n h =
        let past : first (entry_tests (numbers text) n) ≡ 12 = rw (ne_eqb n 0 (λ z. omega arith), lt-ltb (entries_of (numbers text)) n h) in
        ap (λ k. given k (entry_at (numbers text) (n - 1))) (first-after (text_tests text) (entry_tests (numbers text) n) tests-numbered ok ∙ past)

    formed : first (form_tests (numbers text) ++ number_tests (scenario_of text) (repeats_hold (numbers text))) ≡ 0
    unfolding text_refusal text_tests
    formed = (passed (not (well_formed text)) 0 _ ok).1

    form : Form (numbers text)
    form = form_passed (numbers text) (first_none (form_tests (numbers text)) _ formed)

    pub entries_most : entries_of (numbers text) ≤ 500
    entries_most = form-entries form

    repeats_hold_lem : repeats_hold (numbers text) ≡ true
    unfolding number_tests
    repeats_hold_lem =
        let three = sym (first-after (form_tests (numbers text)) _ (form_numbered (numbers text)) (first_none (form_tests (numbers text)) _ formed)) ∙ formed in
        and_right (numbers_hold (scenario_of text)) (repeats_hold (numbers text)) (not-false _ (passed (not (numbers_hold (scenario_of text) && repeats_hold (numbers text))) 2 _ three).0)

    pub repeats_most : (i : ℕ) → i < entries_of (numbers text) → (entry_at (numbers text) i).repeats ≤ 1000000
    unfolding repeats_hold entry_at entries_of
    repeats_most i h =
        let section = section_of entry_width (from_pumping (numbers text)) in
        let there : i < length (field entry_width 2 section) = omega (arith, length-field 2 (omega arith) form.pumping) in
        between_most 1 1000000 _ (rw (get_or-field entry_width 2 section i there) at (every_at repeat_limits (field entry_width 2 section) i 0 repeats_hold_lem there))

  pub past_most : (n : ℕ) {e : Entry} → 500 < n → entry_of text n ≡ Ok e → ⊥
  past_most n h q = let there = entry_found n q in omega (arith, there.most, entries_most there.accepted)
