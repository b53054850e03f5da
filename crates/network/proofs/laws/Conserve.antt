-- One step conserves water: the storage loss of a set rises by what is pumped from it, less the net water in over its border.
use Rattle.std.specs.Prelude.{◌≡◌, Bool, List, ℕ, ◌+◌, ◌*◌, ◌<◌, eqb, ◌+ℤ◌, ◌-ℤ◌}
use Rattle.std.proofs.Math.Path.{refl, sym, ap, ap₂}
use Rattle.std.proofs.Common.{◌∙◌, add_comm, add-zero, zero-add, ltb-true, lt-ltb}
use Rattle.std.proofs.Math.Bool.{true, false}
use Rattle.std.proofs.Math.IntN.{ℤ, pos, neg_ℤ, +ℤ_invr, -ℤ-+ℤ_cancel}
use Rattle.laws.specs.Integer.{plus, minus, parts, regroup, diff_neg}
use Rattle.laws.specs.Lists.{ifℕ, ifℤ, sumℕ, range}
use Rattle.laws.specs.Sums.{ifℕ_add, ifℤ_add, ifℤ_pos, ifℤ_diff, sumℕ_ext, sumℕ_add, sumℤ_ext, sumℤ_add, sumℤ_diff, range-below, get_or-map-range}
use Rattle.network.specs.Network.{Face, Network, State, is_place, loss_at, flow, toward, inward, loss_in, loss_after, losses_after, from_last_column}
use Rattle.network.proofs.laws.Ends.{Inside, at_one, over_set, leaving, entering, outflow_parts}

pub loss-after : (N : Network) (vs : List ℤ) (rate dt p : ℕ) → p < N.places → loss_at (losses_after N vs rate dt) p ≡ loss_after N vs rate dt p
unfolding loss_at losses_after
loss-after N vs rate dt p h = get_or-map-range (loss_after N vs rate dt) (pos 0) 0 N.places p h ∙ ap (loss_after N vs rate dt) (zero-add p)

module _ (N : Network) (s : ℕ → Bool) (inside : Inside N s) where
  module _ (w : Face → ℤ) where
    -- what the faces take from the places of the set, and what they give them
    taken : ℕ
    taken = sumℕ N.faces (λ f. ifℕ (s f.one) (plus (w f)) + ifℕ (s f.two) (minus (w f)))

    given : ℕ
    given = sumℕ N.faces (λ f. ifℕ (s f.one) (minus (w f)) + ifℕ (s f.two) (plus (w f)))

    inward_parts : inward N s w ≡ pos given -ℤ pos taken
    unfolding inward given taken ifℕ toward
    inward_parts = sumℤ_diff N.faces _ _ _ λ f. each (s f.one) (s f.two) (w f)
      where
        each : (t u : Bool) (z : ℤ) → toward t u z ≡ pos (ifℕ t (minus z) + ifℕ u (plus z)) -ℤ pos (ifℕ t (plus z) + ifℕ u (minus z))
        each true true z = sym (rw (add_comm (minus z) (plus z)) (+ℤ_invr (pos (plus z + minus z))))
        each true false z = rw (add-zero, add-zero) (ap neg_ℤ (parts z) ∙ diff_neg (plus z) (minus z))
        each false true z = rw (zero-add, zero-add) (parts z)
        each false false z = refl

  -- the storage loss of a set after a step
  pub conserved : (vs : List ℤ) (rate dt : ℕ) → loss_in N s (losses_after N vs rate dt) ≡ loss_in N s vs +ℤ ifℤ (s 0) (pos (rate * dt)) -ℤ inward N s (flow N vs dt)
  unfolding loss_in loss_after leaving entering taken given
  conserved vs rate dt =
      sumℤ_ext (range 0 N.places) (λ p m. ap (ifℤ (s p)) (loss-after N vs rate dt p (range-below N.places m) ∙ rises p) ∙ ifℤ_add (s p) (loss_at vs p) _)
      ∙ sumℤ_add (range 0 N.places) _ _
      ∙ ap (λ z. loss_in N s vs +ℤ z) (sumℤ_diff (range 0 N.places) _ _ _ (λ p. ifℤ_diff (s p) _ _ _ refl) ∙ ap₂ (λ a b. pos a -ℤ pos b) all_taken all-given)
      ∙ rw (inward_parts w, diff_neg (given w) (taken w), ifℤ_pos (s 0) lifted) (turn (loss_in N s vs) (pos (taken w)) (pos (ifℕ (s 0) lifted)) (neg_ℤ (pos (given w))))
    where
      w : Face → ℤ
      w = flow N vs dt

      lifted : ℕ
      lifted = rate * dt

      turn : (a b c d : ℤ) → a +ℤ (b +ℤ c +ℤ d) ≡ a +ℤ c +ℤ (b +ℤ d)
      turn a b c d = simp regroup

      rises : (p : ℕ) → loss_after N vs rate dt p ≡ loss_at vs p +ℤ (pos (leaving N w p + ifℕ (eqb 0 p) lifted) -ℤ pos (entering N w p))
      rises p = rw (outflow_parts N w p, ifℤ_pos (eqb 0 p) lifted) (turn' (loss_at vs p) (pos (leaving N w p)) (pos (ifℕ (eqb 0 p) lifted)) (neg_ℤ (pos (entering N w p))))
        where
          turn' : (a b c d : ℤ) → a +ℤ (b +ℤ d) +ℤ c ≡ a +ℤ (b +ℤ c +ℤ d)
          turn' a b c d = simp regroup

      all_taken : sumℕ (range 0 N.places) (λ p. ifℕ (s p) (leaving N w p + ifℕ (eqb 0 p) lifted)) ≡ taken w + ifℕ (s 0) lifted
      all_taken =
          sumℕ_ext (range 0 N.places) (λ p m. ifℕ_add (s p) (leaving N w p) (ifℕ (eqb 0 p) lifted))
          ∙ sumℕ_add (range 0 N.places) _ _
          ∙ ap₂ ◌+◌ (over_set N s inside (λ f. plus (w f)) (λ f. minus (w f))) (at_one N.places s inside 0 lifted)

      all-given : sumℕ (range 0 N.places) (λ p. ifℕ (s p) (entering N w p)) ≡ given w
      all-given = over_set N s inside (λ f. minus (w f)) (λ f. plus (w f))

-- losses and inflow that add up to the pumped total do so after a step
pub balanced : (N : Network) → 0 < N.places → (s : State) → loss_in N (is_place N) s.losses +ℤ s.inflow ≡ pos s.pumped → (rate dt : ℕ)
    → loss_in N (is_place N) (losses_after N s.losses rate dt) +ℤ (s.inflow +ℤ from_last_column N s.losses dt) ≡ pos (s.pumped + rate * dt)
unfolding is_place from_last_column ifℤ
balanced N some s e rate dt =
    rw (conserved N (is_place N) (λ p. ltb-true p N.places) s.losses rate dt, lt-ltb 0 N.places some)
    (turn (loss_in N (is_place N) s.losses) (pos (rate * dt)) s.inflow (inward N (is_place N) (flow N s.losses dt)) ∙ ap (λ z. z +ℤ pos (rate * dt)) e)
  where
    turn : (a b c d : ℤ) → (a +ℤ b -ℤ d) +ℤ (c +ℤ d) ≡ a +ℤ c +ℤ b
    turn a b c d = together a b c d ∙ -ℤ-+ℤ_cancel (a +ℤ c +ℤ b) d
      where
        together : (a b c d : ℤ) → (a +ℤ b -ℤ d) +ℤ (c +ℤ d) ≡ a +ℤ c +ℤ b -ℤ d +ℤ d
        together a b c d = simp regroup
