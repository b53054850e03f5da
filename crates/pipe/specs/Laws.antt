-- A screened layer's limits, and when the pipe loss is the same: laws only, nothing to believe.
--     layer_small, thin, ..     what the limits of 3 say of a screened layer's numbers and of the well's
--     pipe_loss_same            inflows that agree at every screened layer give the same pipe loss
use Rattle.std.proofs.Common.{◌≡◌, Bool, cond, ◌&&◌, ◌∷◌, leb, Float, get_or, Option, Some, None, refl, ap, ◌∙◌, arith, true, false, ℕ, zero, suc, ◌^◌, ◌≤◌, ◌<◌}
use Rattle.laws.specs.All.{and_right}
use Rattle.site.specs.declared.Site.{Site}
use Rattle.site.specs.Site.{is_screened}
use Rattle.site.specs.Laws.{counts_hold_lem, numbers_hold_lem}
use Rattle.site.specs.Limited.{Counts, Numbers}
use Rattle.hydraulics.specs.Hydraulics.{◌⊕◌, velocity}
use Rattle.pipe.specs.Pipe.{screened_up_to, added_to, added, velocity_at, upward_from, velocity_above, pipe_loss_at}
use Rattle.pipe.specs.Asked.{Screened}

-- ---- limits
module _ (s : Site) (i : ℕ) (h : Screened s i) where
  counted : Counts s
  counted = counts_hold_lem s h.counts

  numbered : Numbers s
  numbered = numbers_hold_lem s h.numbers

  pub layer_small : i < 20
  layer_small = omega (arith, h.layer, counted.layers_most)

  pub thin : (k : ℕ) → k ≤ i → get_or s.thickness k 0 ≤ 1000000
  thin k le = (numbered.layer k (omega (arith, h.layer))).thickness_most

  pub radius_small : s.well_radius ≤ 5000
  radius_small = numbered.well.radius_most

  pub friction_small : s.friction ≤ 1000000
  friction_small = numbered.well.friction_most

  pub intake_small : s.intake ≤ 1000000
  intake_small = numbered.well.intake_most

  pub coefficients_small : (1 ≤ s.loss_count → get_or s.loss_coefficients 0 0 ≤ 2 ^ 53) × (2 ≤ s.loss_count → get_or s.loss_coefficients 1 0 ≤ 2 ^ 53)
  coefficients_small = ((λ n. omega (arith, numbered.coefficient 0 n)), (λ n. omega (arith, numbered.coefficient 1 n)))

-- ---- inflows that agree at every screened layer give the same pipe loss
module _ (e f : ℕ → Float) (t : ℕ → Bool) (i : ℕ) where
  -- one layer of the list, if it is in it
  at_layer : (n : ℕ) → ((k : ℕ) → k < suc n → t k ≡ true → e k ≡ f k) → (leb i n && t n) ≡ true → e n ≡ f n
  at_layer n same q = same n (omega arith) (and_right (leb i n) (t n) q)

  added_to_same : (n : ℕ) → ((k : ℕ) → k < n → t k ≡ true → e k ≡ f k) → (sum : Float) → added_to e sum (screened_up_to t i n) ≡ added_to f sum (screened_up_to t i n)
  unfolding screened_up_to added_to
  added_to_same zero same sum = refl
  added_to_same (suc n) same sum = go (leb i n && t n) (at_layer n same) (added_to_same n (λ k h. same k (omega arith)))
    where
      go : (b : Bool) → (b ≡ true → e n ≡ f n) → ((sum : Float) → added_to e sum (screened_up_to t i n) ≡ added_to f sum (screened_up_to t i n))
          → added_to e sum (cond b (n ∷ screened_up_to t i n) (screened_up_to t i n)) ≡ added_to f sum (cond b (n ∷ screened_up_to t i n) (screened_up_to t i n))
      go true here rest = rest (sum ⊕ e n) ∙ ap (λ x. added_to f (sum ⊕ x) (screened_up_to t i n)) (here refl)
      go false here rest = rest sum

  added_same : (n : ℕ) → ((k : ℕ) → k < n → t k ≡ true → e k ≡ f k) → added e (screened_up_to t i n) ≡ added f (screened_up_to t i n)
  unfolding screened_up_to added
  added_same zero same = refl
  added_same (suc n) same = go (leb i n && t n) (at_layer n same) (added_to_same n (λ k h. same k (omega arith))) (added_same n (λ k h. same k (omega arith)))
    where
      go : (b : Bool) → (b ≡ true → e n ≡ f n) → ((sum : Float) → added_to e sum (screened_up_to t i n) ≡ added_to f sum (screened_up_to t i n)) → added e (screened_up_to t i n) ≡ added f (screened_up_to t i n)
          → added e (cond b (n ∷ screened_up_to t i n) (screened_up_to t i n)) ≡ added f (cond b (n ∷ screened_up_to t i n) (screened_up_to t i n))
      go true here rest all = rest (e n) ∙ ap (λ x. added_to f x (screened_up_to t i n)) (here refl)
      go false here rest all = all

module _ (s : Site) (e f : ℕ → Float) (same : (k : ℕ) → k < s.layers → is_screened s.screened k ≡ true → e k ≡ f k) where
  velocity_same : (i : ℕ) → velocity_at s e i ≡ velocity_at s f i
  unfolding velocity_at
  velocity_same i = ap (λ x. velocity x s.well_radius) (added_same e f (is_screened s.screened) i s.layers same)

  above_same : (i : ℕ) (u : Option ℕ) → velocity_above s e i u ≡ velocity_above s f i u
  unfolding velocity_above
  above_same i None = velocity_same i
  above_same i (Some k) = velocity_same k

  pub pipe_loss_same : (i : ℕ) → pipe_loss_at s e i ≡ pipe_loss_at s f i
  unfolding pipe_loss_at
  pipe_loss_same i = rw (velocity_same i, above_same i (upward_from (is_screened s.screened) i))
