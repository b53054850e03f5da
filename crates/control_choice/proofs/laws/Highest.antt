-- The highest number of a list that passes a test: laws only, nothing to believe.
--     Fits                what a choice from a list has to be; fits_best: the definition's is; one_fits: and no other
--     later_above         in a list that rises a later number is above an earlier one; above_rising: and such a list rises
--     last_passing        in such a list it is the first from the end that passes
use Rattle.std.proofs.Common.{◌≡◌, Bool, cond, ◌⊎◌, length, Option, Some, None, find, reverse, refl, ap, subst, sym, ◌∙◌, true≢false, inr, le_of_suc-le-suc, not-suc-le-zero, eq-or-lt_of_le, true, false, List, [], ◌∷◌, inl, ⊎_elim, ℕ, zero, suc, ◌-◌, ◌<◌, ◌≤◌, arith, ltb-true, ltb-false, lt-ltb, ltb, get_or}
use Rattle.std.proofs.Math.Decide.{dec_lt}
use Rattle.std.specs.Option.{option_or}
use Rattle.std.proofs.lemmas.List.{reverse-append}
use Rattle.std.proofs.lemmas.List.Folds.{find-append}
use Rattle.laws.specs.All.{all_at}
use Rattle.laws.specs.Rows.{all_from}
use Rattle.control_choice.specs.Choice.{rising, passing, highest_of, best_of}
use Rattle.control_choice.specs.Chooses.{Stands}

-- ---- what stands on a list with one number in front

in_front : {a : ℕ} {l : List ℕ} → Stands (a ∷ l) a
in_front = record { at = 0; within = omega arith; is = refl }

behind : {a x : ℕ} {l : List ℕ} → Stands l x → Stands (a ∷ l) x
behind s = record { at = suc s.at; within = omega (arith, s.within); is = s.is }

front_or_behind : {a x : ℕ} {l : List ℕ} → Stands (a ∷ l) x → (a ≡ x) ⊎ Stands l x
front_or_behind {a} {x} {l} s = in_place s.at s.within s.is
  where
    in_place : (k : ℕ) → k < suc (length l) → get_or (a ∷ l) k 0 ≡ x → (a ≡ x) ⊎ Stands l x
    in_place zero h e = inl e
    in_place (suc k) h e = inr (record { at = k; within = le_of_suc-le-suc h; is = e })

module _ (t : ℕ → Bool) where
  -- the highest number of l that passes t, or none where none passes
  unfoldable pub Fits : List ℕ → Option ℕ → Type 0
  Fits l (Some x) = Stands l x × (t x ≡ true) × ((y : ℕ) → Stands l y → x < y → t y ≡ false)
  Fits l None = (y : ℕ) → Stands l y → t y ≡ false

  -- ---- the definition's choice

  -- z is the highest of x and the numbers of l that pass
  record Best (l : List ℕ) (x z : ℕ) : Type 0 where
    passes : t z ≡ true
    from : (x ≡ z) ⊎ Stands l z
    above : x ≤ z
    others : (y : ℕ) → Stands l y → z < y → t y ≡ false

  -- a number more in front that fails; one that passes
  best_fails : {a x z : ℕ} {l : List ℕ} → t a ≡ false → Best l x z → Best (a ∷ l) x z
  best_fails f b = record {
    passes = b.passes;
    from = ⊎_elim (λ e. inl e) (λ s. inr (behind s)) b.from;
    above = b.above;
    others = λ y s h. ⊎_elim (λ e. ap t (sym e) ∙ f) (λ s. b.others y s h) (front_or_behind s);
  }

  best_passes : {a x z : ℕ} {l : List ℕ} → (s : Bool) → ltb x a ≡ s → Best l (cond s a x) z → Best (a ∷ l) x z
  best_passes {a} {x} true e b = record {
    passes = b.passes;
    from = ⊎_elim (λ e. inr (subst (Stands (_ ∷ _)) e in_front)) (λ s. inr (behind s)) b.from;
    above = omega (arith, b.above, ltb-true x a e);
    others = λ y s h. ⊎_elim (λ e. absurd (omega (arith, b.above, e, h))) (λ s. b.others y s h) (front_or_behind s);
  }
  best_passes {a} {x} false e b = record {
    passes = b.passes;
    from = ⊎_elim (λ e. inl e) (λ s. inr (behind s)) b.from;
    above = b.above;
    others = λ y s h. ⊎_elim (λ q. absurd (omega (arith, b.above, ltb-false x a e, q, h))) (λ s. b.others y s h) (front_or_behind s);
  }

  best : (l : List ℕ) (x : ℕ) → t x ≡ true → Best l x (highest_of x (passing t l))
  unfolding passing highest_of
  best [] x e = record { passes = e; from = inl refl; above = omega arith; others = λ y s h. absurd (not-suc-le-zero s.within) }
  best (a ∷ l) x e = by_test (t a) refl (best l x e) (λ f. best l (cond (ltb x a) a x) (either (ltb x a) f))
    where
      either : (s : Bool) → t a ≡ true → t (cond s a x) ≡ true
      either true f = f
      either false f = e

      by_test : (s : Bool) → t a ≡ s → Best l x (highest_of x (passing t l)) → (t a ≡ true → Best l (cond (ltb x a) a x) (highest_of (cond (ltb x a) a x) (passing t l)))
          → Best (a ∷ l) x (highest_of x (cond s (a ∷ passing t l) (passing t l)))
      by_test true f same more = best_passes (ltb x a) refl (more f)
      by_test false f same more = best_fails f same

  -- a number in front that passes, and one that fails
  first_fits : {a z : ℕ} {l : List ℕ} → Best l a z → Fits (a ∷ l) (Some z)
  unfolding Fits
  first_fits {a} {z} {l} b = (
    ⊎_elim (λ e. subst (λ (x : ℕ). Stands (a ∷ l) x) e in_front) (λ s. behind s) b.from,
    b.passes,
    λ y s h. ⊎_elim (λ e. absurd (omega (arith, b.above, e, h))) (λ s. b.others y s h) (front_or_behind s),
  )

  failing_front : {a : ℕ} (l : List ℕ) → t a ≡ false → (c : Option ℕ) → Fits l c → Fits (a ∷ l) c
  unfolding Fits
  failing_front l f (Some x) g = (behind g.0, g.1, λ y s h. ⊎_elim (λ e. ap t (sym e) ∙ f) (λ s. g.2 y s h) (front_or_behind s))
  failing_front l f None g = λ y s. ⊎_elim (λ e. ap t (sym e) ∙ f) (λ s. g y s) (front_or_behind s)

  pub fits_best : (l : List ℕ) → Fits l (best_of (passing t l))
  unfolding Fits best_of passing
  fits_best [] = λ y s. absurd (not-suc-le-zero s.within)
  fits_best (a ∷ l) = by_test (t a) refl (fits_best l)
    where
      by_test : (s : Bool) → t a ≡ s → Fits l (best_of (passing t l)) → Fits (a ∷ l) (best_of (cond s (a ∷ passing t l) (passing t l)))
      by_test true f more = first_fits (best l a f)
      by_test false f more = failing_front l f (best_of (passing t l)) more

  -- ---- no other fits

  one_highest : (l : List ℕ) (x y : ℕ) → Fits l (Some x) → Fits l (Some y) → x ≡ y
  unfolding Fits
  one_highest l x y f g =
      elim (dec_lt x y) [
        | yes h ↦ absurd (true≢false (sym g.1 ∙ f.2 y g.0 h))
        | no a ↦ elim (dec_lt y x) [ yes h ↦ absurd (true≢false (sym f.1 ∙ g.2 x f.0 h)) | no b ↦ omega arith ]
      ]

  pub one_fits : (l : List ℕ) (a b : Option ℕ) → Fits l a → Fits l b → a ≡ b
  unfolding Fits
  one_fits l (Some x) (Some y) f g = ap Some (one_highest l x y f g)
  one_fits l (Some x) None f g = absurd (true≢false (sym f.1 ∙ g x f.0))
  one_fits l None (Some y) f g = absurd (true≢false (sym g.1 ∙ f y g.0))
  one_fits l None None f g = refl

  -- ---- in a list that rises it is the first from the end that passes

  last_fits : (l : List ℕ) → ((i j : ℕ) → i < j → j < length l → get_or l i 0 < get_or l j 0) → Fits l (find t (reverse l))
  unfolding Fits
  last_fits [] up = λ y s. absurd (not-suc-le-zero s.within)
  last_fits (a ∷ l) up =
      rw (reverse-append (a ∷ []) l, find-append) (by_rest (find t (reverse l)) (last_fits l (λ i j h k. up (suc i) (suc j) (omega arith) (omega arith))))
    where
      front : (s : Bool) → t a ≡ s → ((y : ℕ) → Stands l y → t y ≡ false) → Fits (a ∷ l) (cond s (Some a) None)
      front true f g = (in_front, f, λ y s h. ⊎_elim (λ e. absurd (omega (arith, e, h))) (λ s. g y s) (front_or_behind s))
      front false f g = λ y s. ⊎_elim (λ e. ap t (sym e) ∙ f) (λ s. g y s) (front_or_behind s)

      by_rest : (r : Option ℕ) → Fits l r → Fits (a ∷ l) (option_or r (cond (t a) (Some a) None))
      by_rest (Some x) g =
          let s : Stands l x = g.0 in
          let after : a < get_or l s.at 0 = up 0 (suc s.at) (omega arith) (omega (arith, s.within)) in
          (behind s, g.1, λ y f h. ⊎_elim (λ e. absurd (omega (arith, after, s.is, e, h))) (λ f. g.2 y f h) (front_or_behind f))
      by_rest None g = front (t a) refl g

-- ---- a list that rises

module _ (rates : List ℕ) where
  pub later_above : rising rates ≡ true → (i j : ℕ) → i < j → j < length rates → get_or rates i 0 < get_or rates j 0
  unfolding rising
  later_above e i zero h k = absurd (not-suc-le-zero h)
  later_above e i (suc j) h k =
      ⊎_elim (λ q. subst (λ (m : ℕ). get_or rates m 0 < get_or rates (suc j) 0) (sym q) next)
      (λ lt. omega (arith, next, later_above e i j lt (omega arith)))
      (eq-or-lt_of_le (le_of_suc-le-suc h))
    where
      next : get_or rates j 0 < get_or rates (suc j) 0
      next = ltb-true _ _ (all_at (λ m. ltb (get_or rates m 0) (get_or rates (suc m) 0)) (length rates - 1) j e (omega arith))

  pub above_rising : ((i j : ℕ) → i < j → j < length rates → get_or rates i 0 < get_or rates j 0) → rising rates ≡ true
  unfolding rising
  above_rising f = all_from _ (length rates - 1) (λ k h. lt-ltb _ _ (f k (suc k) (omega arith) (omega arith)))

-- the first that passes from the end of a list that rises, of whatever test says the same
pub last_passing : {u t : ℕ → Bool} → ((x : ℕ) → u x ≡ t x) → (rates : List ℕ) → rising rates ≡ true → find u (reverse rates) ≡ best_of (passing t rates)
last_passing {u} {t} e rates up = same (reverse rates) ∙ one_fits t rates (find t (reverse rates)) _ (last_fits t rates (later_above rates up)) (fits_best t rates)
  where
    same : (l : List ℕ) → find u l ≡ find t l
    same [] = refl
    same (x ∷ l) = rw (e x) (ap (cond (t x) (Some x)) (same l))
