-- Sums over the faces of a place, with one weight at a face's end one and another at its end two.
--     ends g h p           what each face counts at p
--     over_set             such sums, added over the places of a set
--     leaving, entering    water that leaves a place over its faces and water that enters it, kept apart
use Rattle.std.specs.Prelude.{◌≡◌, Bool, eqb, ℤ, ◌-ℤ◌}
use Rattle.std.proofs.Math.Path.{refl, ap₂}
use Rattle.std.proofs.Common.{◌∙◌, arith, eqb-true}
use Rattle.std.proofs.Math.Bool.{true, false}
use Prim.Native.Nat.{ℕ, ◌+◌, ◌<◌, zero-le}
use Rattle.std.proofs.Math.IntN.{pos, ◌+ℤ◌}
use Rattle.laws.specs.Integer.{plus, minus, parts, diff_add}
use Rattle.laws.specs.Lists.{ifℕ, ifℤ, sumℕ, range}
use Rattle.laws.specs.Sums.{ifℕ_add, ifℕ-swap, ifℕ-sum, ifℤ_diff, ifℤ_less, sumℕ_ext, sumℕ_zero, sumℕ_add, sumℕ-swap, sumℕ_pick, sumℤ_diff}
use Rattle.network.specs.Network.{Face, Network, outflow}

-- a set holds places only
abbrev pub Inside : Network → (ℕ → Bool) → Type 0
Inside N s = (p : ℕ) → s p ≡ true → p < N.places

unfoldable pub ends : (Face → ℕ) → (Face → ℕ) → ℕ → Face → ℕ
ends g h p f = ifℕ (eqb f.one p) (g f) + ifℕ (eqb f.two p) (h f)

module _ (n : ℕ) (s : ℕ → Bool) (inside : (p : ℕ) → s p ≡ true → p < n) where
  -- a term that stands at a alone counts if a is in the set
  pub at_one : (a x : ℕ) → sumℕ (range 0 n) (λ p. ifℕ (s p) (ifℕ (eqb a p) x)) ≡ ifℕ (s a) x
  unfolding ifℕ
  at_one a x = sumℕ_ext (range 0 n) (λ p m. ifℕ-swap (s p) (eqb a p) x) ∙ go (s a) refl
    where
      go : (t : Bool) → s a ≡ t → sumℕ (range 0 n) (λ p. ifℕ (eqb a p) (ifℕ (s p) x)) ≡ ifℕ t x
      go true e = sumℕ_pick (λ p. ifℕ (s p) x) 0 n a zero-le (omega (arith, inside a e)) ∙ rw e
      go false e = sumℕ_zero (range 0 n) (λ p m. off p (eqb a p) (eqb-true a p))
        where
          off : (p : ℕ) (u : Bool) → (u ≡ true → a ≡ p) → ifℕ u (ifℕ (s p) x) ≡ 0
          off p true q = rw (← q refl, e)
          off p false q = refl

pub over_set : (N : Network) (s : ℕ → Bool) → Inside N s → (g h : Face → ℕ)
    → sumℕ (range 0 N.places) (λ p. ifℕ (s p) (sumℕ N.faces (ends g h p))) ≡ sumℕ N.faces (λ f. ifℕ (s f.one) (g f) + ifℕ (s f.two) (h f))
unfolding ends
over_set N s inside g h =
    sumℕ_ext (range 0 N.places) (λ p m. ifℕ-sum (s p) N.faces (ends g h p))
    ∙ sumℕ-swap (range 0 N.places) N.faces (λ p f. ifℕ (s p) (ends g h p f))
    ∙ sumℕ_ext N.faces (λ f m.
    sumℕ_ext (range 0 N.places) (λ p i. ifℕ_add (s p) (ifℕ (eqb f.one p) (g f)) (ifℕ (eqb f.two p) (h f)))
    ∙ sumℕ_add (range 0 N.places) _ _
    ∙ ap₂ ◌+◌ (at_one N.places s inside f.one (g f)) (at_one N.places s inside f.two (h f)))

module _ (N : Network) (w : Face → ℤ) where
  unfoldable pub leaving : ℕ → ℕ
  leaving p = sumℕ N.faces (ends (λ f. plus (w f)) (λ f. minus (w f)) p)

  unfoldable pub entering : ℕ → ℕ
  entering p = sumℕ N.faces (ends (λ f. minus (w f)) (λ f. plus (w f)) p)

  pub outflow_parts : (p : ℕ) → outflow N w p ≡ pos (leaving p) -ℤ pos (entering p)
  unfolding outflow leaving entering ends
  outflow_parts p = sumℤ_diff N.faces _ _ _ λ f. two (eqb f.one p) (eqb f.two p) (w f)
    where
      two : (t u : Bool) (z : ℤ) → ifℤ t z -ℤ ifℤ u z ≡ pos (ifℕ t (plus z) + ifℕ u (minus z)) -ℤ pos (ifℕ t (minus z) + ifℕ u (plus z))
      two t u z =
          ap₂ ◌+ℤ◌ (ifℤ_diff t z _ _ (parts z)) (ifℤ_less u z _ _ (parts z))
          ∙ diff_add (ifℕ t (plus z)) (ifℕ t (minus z)) (ifℕ u (minus z)) (ifℕ u (plus z))
