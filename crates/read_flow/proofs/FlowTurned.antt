-- Named the other way round, two ends give the same number with the other sign, or the same refusal.
use Rattle.std.proofs.Common.{◌≡◌, refl, sym, ap, ◌∙◌, Bool, true, false, cond, not, ◌||◌, [], ◌∷◌, ℕ, ℤ, neg_ℤ}
use Rattle.std.proofs.Math.IntN.{neg_ℤ-neg_ℤ}
use Rattle.refusals.specs.Refusals.{given}
use Rattle.laws.specs.Lists.{first}
use Rattle.network.specs.Network.{flow, length_out, unstable}
use Rattle.network.specs.Grid.{Grid, network_of}
use Rattle.record.specs.declared.Record.{Record}
use Rattle.record.specs.Record.{grid_of, state_of}
use Rattle.validity.specs.Validity.{valid}
use Rattle.readings.specs.declared.Place.{Place}
use Rattle.readings.specs.Readings.{leads, face_from, water_from, flow_of}
use Rattle.read_flow.specs.Turned.{opposite}
use Rattle.read_flow.specs.Laws.{led, one_way}

-- what is left to judge where there is a face
judged : (u w : Bool) (x : ℤ) → given (first ((u, 7) ∷ (w, 8) ∷ [])) (neg_ℤ x) ≡ opposite (given (first ((u, 7) ∷ (w, 8) ∷ [])) x)
unfolding given first opposite
judged true w x = refl
judged false true x = refl
judged false false x = refl

-- the answer either way, by the tests and the water of the face forth and back
either_way : (a s t u w : Bool) (x y : ℤ) → (s ≡ true → t ≡ false)
    → given (first ((a, 14) ∷ (not (t || s), 12) ∷ (u, 7) ∷ (w, 8) ∷ [])) (cond t y (neg_ℤ x))
    ≡ opposite (given (first ((a, 14) ∷ (not (s || t), 12) ∷ (u, 7) ∷ (w, 8) ∷ [])) (cond s x (neg_ℤ y)))
unfolding given first opposite
either_way true s t u w x y h = refl
either_way false true t u w x y h = rw (h refl) (judged u w x)
either_way false false true u w x y h = ap (given (first ((u, 7) ∷ (w, 8) ∷ []))) (sym (neg_ℤ-neg_ℤ y)) ∙ judged u w (neg_ℤ y)
either_way false false false u w x y h = refl

pub flow_turned : (r : Record) (a b : Place) (dt : ℕ) → flow_of r b a dt ≡ opposite (flow_of r a b dt)
unfolding flow_of water_from
flow_turned r a b dt =
    either_way (not (valid r)) (leads G a b) (leads G b a) (length_out dt) (unstable (network_of G) dt) (flow (network_of G) (state_of r).losses dt (face_from G a b)) (flow (network_of G) (state_of r).losses dt (face_from G b a))
    (λ e. one_way G (led G a b e))
  where
    G : Grid
    G = grid_of r
