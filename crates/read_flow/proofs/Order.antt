-- What is known at each place of `face_flow`, and the answer there: refused with a number, or given.
--     Begun       14, 12, 7 and 8 let the reading pass
use mathlib.Core.Path.{◌≡◌, refl, ap, ◌∙◌}
use mathlib.Core.Bool.{Bool, true, false, not, ◌||◌}
use mathlib.Core.List.{List, [], ◌∷◌}
use Prim.Native.Nat.{ℕ, ◌≤◌}
use native.Mathlib.Omega.{arith}
use lib.Dec.{eqb, ltb}
use lib.IntN.{ℤ, pos, neg_ℤ, ◌-ℤ◌, +ℤ_idl}
use borrow.Author.Tests.{ltb-false}
use mir.Syntax.{w64}
use mir.Val.{SFits, to_z, of_z}
use mir.Facts.{to_z-of_z}
use Rattle.std.specs.Prelude.{Ok, Err}
use Rattle.refusals.specs.declared.Refusal.{Refusal}
use Rattle.refusals.specs.Refusals.{refusal, given}
use Rattle.laws.specs.Refusal.{First}
use Rattle.laws.specs.Refusal.First.{none, hit, skip}
use Rattle.laws.specs.Signed.{small_fits, abs_neg}
use Rattle.laws.specs.Sums.{or_no}
use Rattle.limits.specs.Limits.{length_limit, total_limit}
use Rattle.network.specs.Network.{flow, length_out, stable, unstable}
use Rattle.network.specs.Grid.{network_of}
use Rattle.site.specs.Laws.{counts_hold_lem}
use Rattle.site.specs.Limited.{Counts}
use Rattle.record.specs.declared.Record.{Record}
use Rattle.record.specs.Record.{grid_of, state_of}
use Rattle.validity.specs.Validity.{valid}
use Rattle.validity.specs.Laws.{Valid, valid_record}
use Rattle.readings.specs.declared.Place.{Place}
use Rattle.readings.specs.Readings.{leads, face_from, water_from, flow_of}
use Rattle.readings.specs.Laws.{answered}
use Rattle.read_flow.specs.Laws.{led}
use Rattle.read_flow.proofs.Laws.{flow_small, flow_fits}

module _ (r : Record) (a b : Place) (dt : ℕ) where
  abbrev found : Bool
  found = leads (grid_of r) a b || leads (grid_of r) b a

  -- what has passed where the water is read
  pub record Begun : Type 0 where
    pub passed : valid r ≡ true
    pub face : found ≡ true
    pub sized : length_out dt ≡ false
    pub steady : stable (network_of (grid_of r)) dt ≡ true

  abbrev tests : List (Bool × ℕ)
  tests = (not (valid r), 14) ∷ (not found, 12) ∷ (length_out dt, 7) ∷ (unstable (network_of (grid_of r)) dt, 8) ∷ []

  pub refused_14 : valid r ≡ false → Err Refusal.Record ≡ flow_of r a b dt
  unfolding flow_of given refusal
  refused_14 e = answered _ (hit (ap not e)) refl

  module _ (ok : valid r ≡ true) where
    known : Valid r
    known = valid_record r ok

    counts : Counts r.site
    counts = counts_hold_lem r.site known.counts

    pub site_small : (r.site.layers ≤ 20) × (r.site.columns ≤ 50)
    site_small = (counts.layers_most, counts.columns_most)

    pub refused_12 : found ≡ false → Err Refusal.NoSuch ≡ flow_of r a b dt
    unfolding flow_of given refusal
    refused_12 e = answered _ (skip (ap not ok) (hit (ap not e))) refl

    module _ (face : found ≡ true) where
      pub refused_7 : length_out dt ≡ true → Err Refusal.RateOrLength ≡ flow_of r a b dt
      unfolding flow_of given refusal
      refused_7 e = answered _ (skip (ap not ok) (skip (ap not face) (hit e))) refl

      pub refused_8 : length_out dt ≡ false → stable (network_of (grid_of r)) dt ≡ false → Err Refusal.Unstable ≡ flow_of r a b dt
      unfolding flow_of given refusal unstable
      refused_8 sized e = answered _ (skip (ap not ok) (skip (ap not face) (skip sized (hit (ap not e))))) refl

  module _ (begun : Begun) where
    short_now : dt ≤ length_limit
    unfolding length_out
    short_now = ltb-false length_limit dt (or_no (eqb dt 0) (ltb length_limit dt) begun.sized).1

    none_forbids : First tests 0
    unfolding unstable
    none_forbids = skip (ap not begun.passed) (skip (ap not begun.face) (skip begun.sized (skip (ap not begun.steady) none)))

    let_pass : (x : ℤ) → x ≡ water_from (grid_of r) (state_of r).losses dt a b → Ok x ≡ flow_of r a b dt
    unfolding flow_of given
    let_pass x e = answered _ none_forbids (ap Ok e)

    -- the face leads from a to b
    module _ (ahead : leads (grid_of r) a b ≡ true) where
      pub ahead_asks : (valid r ≡ true) × (leads (grid_of r) a b ≡ true) × (dt ≤ length_limit) × (stable (network_of (grid_of r)) dt ≡ true)
      ahead_asks = (begun.passed, ahead, short_now, begun.steady)

      pub given_ahead : (x : ℤ) → x ≡ flow (network_of (grid_of r)) (state_of r).losses dt (face_from (grid_of r) a b) → Ok (to_z w64 (of_z w64 x)) ≡ flow_of r a b dt
      unfolding water_from
      given_ahead x e = let_pass (to_z w64 (of_z w64 x)) (to_z-of_z (flow_fits r (known begun.passed) (led (grid_of r) a b ahead) dt short_now begun.steady x e) ∙ rw ahead e)

    -- or from b to a
    module _ (none_ahead : leads (grid_of r) a b ≡ false) where
      back : leads (grid_of r) b a ≡ true
      back = rw none_ahead at begun.face

      pub back_asks : (valid r ≡ true) × (leads (grid_of r) b a ≡ true) × (dt ≤ length_limit) × (stable (network_of (grid_of r)) dt ≡ true)
      back_asks = (begun.passed, back, short_now, begun.steady)

      module _ (x : ℤ) (e : x ≡ flow (network_of (grid_of r)) (state_of r).losses dt (face_from (grid_of r) b a)) where
        -- what the code subtracts from 0
        kept : to_z w64 (of_z w64 x) ≡ x
        kept = to_z-of_z (flow_fits r (known begun.passed) (led (grid_of r) b a back) dt short_now begun.steady x e)

        pub turned_fits : SFits w64 (pos 0 -ℤ to_z w64 (of_z w64 x))
        turned_fits = rw (kept, +ℤ_idl) (small_fits (neg_ℤ x) {n = total_limit} (rw (abs_neg x, e) (flow_small r (known begun.passed) (led (grid_of r) b a back) dt short_now begun.steady)) (omega arith))

        pub given_back : Ok (to_z w64 (of_z w64 (pos 0 -ℤ to_z w64 (of_z w64 x)))) ≡ flow_of r a b dt
        unfolding water_from
        given_back = let_pass _ (to_z-of_z turned_fits ∙ rw (kept, +ℤ_idl, none_ahead) (ap neg_ℤ e))
