-- What an array made of a function of the place is, where the closure gives one number at each place.
use Rattle.std.proofs.Common.{◌≡◌, sym, ap, subst, ◌∙◌, ℕ, zero, suc, ◌+◌, ◌≤◌, ◌<◌, List, map, get_or, arith, zero-le, ext_get_or}
use Rattle.std.proofs.lemmas.List.{length-map}
use Rattle.std.specs.Array.{IsFromFnResult, IsFromFnResultFrom}
use Rattle.std.specs.Fn.{Called, Mut}
use Rattle.std.proofs.Math.Decide.{ℕ_discrete}
use Rattle.laws.specs.Lists.{range}
use Rattle.laws.specs.Sums.{get_or-map-range, length-range}

module _ {F : Type 0} (g : Mut F (ℕ × Unit {0}) ℕ) (f : F) (h : ℕ → ℕ) (m : ℕ) (called : (i y : ℕ) (q : F) → i < m → Called g f (i, tt) y q → (q ≡ f) × (y ≡ h i)) where
  made_at : (ys : List ℕ) (i n : ℕ) → i + n ≤ m → IsFromFnResultFrom g f ys i n → (k : ℕ) → i ≤ k → k < i + n → get_or ys k 0 ≡ h k
  made_at ys i zero within r k a b = absurd (omega arith)
  made_at ys i (suc n) within r k a b =
      let turn = called i r.1 r.0 (omega arith) r.3 in
      elim (ℕ_discrete k i) [
        | yes e ↦ ap (λ (j : ℕ). get_or ys j 0) e ∙ r.2.1 0 ∙ turn.1 ∙ ap h (sym e)
        | no u ↦ made_at ys (i + 1) n (omega arith) (subst (λ (x : F). IsFromFnResultFrom g x ys (i + 1) n) turn.0 r.4) k (omega arith) (omega arith)
      ]

  pub made_whole : (ys : List ℕ) → IsFromFnResult g f ys m → ys ≡ map h (range 0 m)
  made_whole ys r =
      ext_get_or 0 ys (map h (range 0 m)) (r.long ∙ sym (length-map (range 0 m) h ∙ length-range 0 m))
      (λ k lt.
      let below : k < m = omega (arith, lt, r.long) in
      made_at ys 0 m (omega arith) r.each k zero-le (omega arith) ∙ sym (get_or-map-range h 0 0 m k below ∙ ap h (omega arith)))
