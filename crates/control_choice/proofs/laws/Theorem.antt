-- The choice as the theorem says it: laws only, nothing to believe.
--     chooses             what holds of the choice, whatever is handed in
use Rattle.std.proofs.Common.{◌≡◌, Bool, not, List, [], ◌∷◌, ℕ, leb, length, Option, Some, None, Result, Ok, Err, refl, ap, sym, ◌∙◌, true, false, true≢false, inl, inr, ⊎_elim, leb-true, le-leb}
use Rattle.limits.specs.Limits.{between, choice_rate_limit, choice_step_limit}
use Rattle.refusals.specs.declared.Refusal.{Refusal}
use Rattle.refusals.specs.Refusals.{refusal, given}
use Rattle.laws.specs.Lists.{first}
use Rattle.laws.specs.All.{and_left, and_right}
use Rattle.laws.specs.Rows.{three_hold}
use Rattle.record.specs.declared.Record.{Record}
use Rattle.validity.specs.Validity.{valid}
use Rattle.control_choice.specs.Choice.{all_accepted, rising, list_holds, choice_refusal, passing, best_of, choice_of, chosen_of}
use Rattle.control_choice.specs.Chooses.{Holds, Says, Chooses}
use Rattle.control_choice.proofs.laws.Row.{all_accepted_lem, accepted_all, meets_refused, refused_meets, as_repeat}
use Rattle.control_choice.proofs.laws.Highest.{Fits, fits_best, one_fits, later_above, above_rising}

-- ---- 20: the test and the claim

module _ (rates : List ℕ) (n : ℕ) where
  pub holds : list_holds rates n ≡ true → Holds rates n
  unfolding list_holds
  holds e =
      let parts = three_hold (between 1 choice_rate_limit (length rates)) (rising rates) (between 1 choice_step_limit n) e in
      record {
        some = leb-true 1 (length rates) (and_left _ _ parts.0);
        few = leb-true (length rates) choice_rate_limit (and_right (leb 1 (length rates)) _ parts.0);
        rise = later_above rates parts.1;
        least = leb-true 1 n (and_left _ _ parts.2);
        most = leb-true n choice_step_limit (and_right (leb 1 n) _ parts.2);
      }

  pub test_holds : Holds rates n → list_holds rates n ≡ true
  unfolding list_holds
  test_holds h = rw (le-leb 1 (length rates) h.some, le-leb _ choice_rate_limit h.few, above_rising rates h.rise, le-leb 1 n h.least, le-leb _ choice_step_limit h.most)

-- ---- the answer

module _ (r : Record) (rates : List ℕ) (dt n : ℕ) where
  -- all n steps at a rate are accepted
  abbrev accepts : ℕ → Bool
  accepts rate = all_accepted rate dt n r

  -- the highest of the accepted rates, if there is one
  abbrev best : Option ℕ
  best = best_of (passing accepts rates)

  -- the answer where 14 and 20 are judged so
  abbrev answer : Bool → Bool → Result (Option ℕ) Refusal
  answer v h = choice_of (first ((not v, 14) ∷ (not h, 20) ∷ [])) (passing accepts rates)

  fits_says : valid r ≡ true → Holds rates n → (a : Option ℕ) → Fits accepts rates a → Says r rates dt n (Ok a)
  unfolding Fits Says
  fits_says e h (Some x) f = (e, h, f.0, all_accepted_lem x dt n r f.1, λ y s lt. meets_refused y dt n r (f.2 y s lt))
  fits_says e h None f = (e, h, λ y s. meets_refused y dt n r (f y s))

  says_fits : (a : Option ℕ) → Says r rates dt n (Ok a) → Fits accepts rates a
  unfolding Fits Says
  says_fits (Some x) s = (s.2, accepted_all x dt n r s.3, λ y t lt. refused_meets y dt n r (s.4 y t lt))
  says_fits None s = λ y t. refused_meets y dt n r (s.2 y t)

  says : (v h : Bool) → valid r ≡ v → list_holds rates n ≡ h → Says r rates dt n (answer v h)
  unfolding Says first choice_of given refusal
  says false h e f = inl (refl, e)
  says true false e f = inr (refl, e, λ k. true≢false (sym (test_holds rates n k) ∙ f))
  says true true e f = fits_says e (holds rates n f) best (fits_best accepts rates)

  only : (v h : Bool) → valid r ≡ v → list_holds rates n ≡ h → (a : Result (Option ℕ) Refusal) → Says r rates dt n a → a ≡ answer v h
  unfolding Says first choice_of given refusal
  only false h e f (Ok (Some x)) s = absurd (true≢false (sym s.0 ∙ e))
  only false h e f (Ok None) s = absurd (true≢false (sym s.0 ∙ e))
  only false h e f (Err k) s = ⊎_elim (λ p. ap Err p.0) (λ p. absurd (true≢false (sym p.1 ∙ e))) s
  only true false e f (Ok (Some x)) s = absurd (true≢false (sym (test_holds rates n s.1) ∙ f))
  only true false e f (Ok None) s = absurd (true≢false (sym (test_holds rates n s.1) ∙ f))
  only true false e f (Err k) s = ⊎_elim (λ p. absurd (true≢false (sym e ∙ p.1))) (λ p. ap Err p.0) s
  only true true e f (Ok a) s = ap Ok (one_fits accepts rates a best (says_fits a s) (fits_best accepts rates))
  only true true e f (Err k) s = ⊎_elim (λ p. absurd (true≢false (sym e ∙ p.1))) (λ p. absurd (p.2 (holds rates n f))) s

  pub chooses : Chooses r rates dt n
  unfolding chosen_of choice_refusal
  chooses = record {
    says = says (valid r) (list_holds rates n) refl refl;
    only = only (valid r) (list_holds rates n) refl refl;
    kept = refl;
    repeats = λ e rate. as_repeat rate dt n r e;
  }
