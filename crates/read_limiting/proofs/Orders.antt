-- The orders that are searched by.
--     less_order        less of a number
--     slot_order, column_order     the deeper slot, and the deeper cell of layer 1
--     not_less, is_less, when_not_less, when_less     the test of two allowed steps, from their numbers and back
--     shorter_order     the shorter allowed step
use Rattle.std.proofs.Common.{◌≡◌, refl, Bool, true, false, not, ◌&&◌, ◌||◌, true≢false, List, ℕ, ◌≤◌, ◌<◌, arith, ltb, ℤ, pos, negsuc, ltb-true, ltb-false, lt-ltb, le-ltb}
use mathlib.Core.Bool.{false≢true}
use lib.Signed.{lt_z, lt_z_yes, clash_ℤ}
use Rattle.laws.specs.Integer.{not_past, ≤ℤ_trans}
use Rattle.network.specs.Network.{Network, drawdown}
use Rattle.network.specs.Grid.{Grid, place, network_of}
use Rattle.step_drawdowns.specs.Drawdowns.{depth_at}
use Rattle.read_limiting.specs.Limiting.{sets_limit, longest_at, shorter_at, deeper_at}
use Rattle.read_limiting.specs.Slots.{less_at, deeper_slot}
use Rattle.read_limiting.proofs.Foremost.{Order}

pub less_order : (f : ℕ → ℕ) → Order (less_at f)
unfolding less_at
less_order f = record {
  turned = λ p q e. le-ltb (f q) (f p) (omega (arith, ltb-true (f p) (f q) e));
  between = λ p q c e g. lt-ltb (f p) (f q) (omega (arith, ltb-true (f p) (f c) e, ltb-false (f q) (f c) g));
}

-- ---- integers

above : (a b : ℤ) → lt_z a b ≡ true → lt_z b a ≡ false
above (pos a) (pos b) e = le-ltb b a (omega (arith, ltb-true a b e))
above (pos a) (negsuc b) e = absurd (false≢true e)
above (negsuc a) (pos b) e = refl
above (negsuc a) (negsuc b) e = le-ltb a b (omega (arith, ltb-true b a e))

past_between : (a b c : ℤ) → lt_z c a ≡ true → lt_z c b ≡ false → (t : Bool) → lt_z b a ≡ t → lt_z b a ≡ true
past_between a b c e g true q = q
past_between a b c e g false q = clash_ℤ (lt_z_yes (rw e tt)) (≤ℤ_trans a b c (not_past q) (not_past g))

deeper_order : (d : ℕ → ℤ) → Order (λ j k. lt_z (d k) (d j))
deeper_order d = record {
  turned = λ p q e. above (d q) (d p) e;
  between = λ p q c e g. past_between (d p) (d q) (d c) e g (lt_z (d q) (d p)) refl;
}

pub slot_order : (vs : List ℤ) (ss : List ℕ) → Order (deeper_slot vs ss)
unfolding deeper_slot
slot_order vs ss = deeper_order (depth_at vs ss)

pub column_order : (G : Grid) (vs : List ℤ) → Order (deeper_at G vs)
unfolding deeper_at
column_order G vs = deeper_order (λ j. drawdown (network_of G) vs (place G 0 j))

-- ---- allowed steps, by whether a place sets a limit and by that limit

pub not_less : (a b : Bool) (x y : ℕ) → b ≡ true → (a ≡ true → y ≤ x) → (a && (not b || ltb x y)) ≡ false
not_less true b x y e h = rw e (le-ltb x y (h refl))
not_less false b x y e h = refl

pub is_less : (a b : Bool) (x y : ℕ) → a ≡ true → (b ≡ true → x < y) → (a && (not b || ltb x y)) ≡ true
is_less a true x y e h = rw e (lt-ltb x y (h refl))
is_less a false x y e h = rw e

pub when_not_less : (a b : Bool) (x y : ℕ) → (a && (not b || ltb x y)) ≡ false → a ≡ true → (b ≡ true) × (y ≤ x)
when_not_less true true x y e t = (refl, ltb-false x y e)
when_not_less true false x y e t = absurd (true≢false e)
when_not_less false b x y e t = absurd (false≢true t)

pub when_less : (a b : Bool) (x y : ℕ) → (a && (not b || ltb x y)) ≡ true → b ≡ true → x < y
when_less true true x y e t = ltb-true x y e
when_less true false x y e t = absurd (false≢true t)
when_less false b x y e t = absurd (false≢true e)

by_turn : (a b : Bool) (x y : ℕ) → (a && (not b || ltb x y)) ≡ true → (b && (not a || ltb y x)) ≡ false
by_turn true true x y e = le-ltb y x (omega (arith, ltb-true x y e))
by_turn true false x y e = refl
by_turn false b x y e = absurd (false≢true e)

by_between : (a b c : Bool) (x y z : ℕ) → (a && (not c || ltb x z)) ≡ true → (b && (not c || ltb y z)) ≡ false → (a && (not b || ltb x y)) ≡ true
by_between true true true x y z e g = lt-ltb x y (omega (arith, ltb-true x z e, ltb-false y z g))
by_between true true false x y z e g = absurd (true≢false g)
by_between true false c x y z e g = refl
by_between false b c x y z e g = absurd (false≢true e)

pub shorter_order : (N : Network) → Order (shorter_at N)
unfolding shorter_at
shorter_order N = record {
  turned = λ p q e. by_turn (sets_limit N p) (sets_limit N q) (longest_at N p) (longest_at N q) e;
  between = λ p q c e g. by_between (sets_limit N p) (sets_limit N q) (sets_limit N c) (longest_at N p) (longest_at N q) (longest_at N c) e g;
}
