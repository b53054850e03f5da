-- A test of every element of a list.
--     every_append       of two lists put together
--     every_at           what the whole says of one; every_fails: one that fails
use Rattle.std.specs.Prelude.{◌≡◌, Bool, true, false, ◌&&◌, length, get_or}
use Rattle.std.proofs.Math.Path.{refl, sym, ap}
use Rattle.std.proofs.Common.{◌∙◌, le_of_suc-le-suc, not-suc-le-zero}
use Rattle.std.proofs.Math.Bool.{and_assoc, and-false}
use mathlib.Core.List.{List, [], ◌∷◌, ◌++◌}
use Prim.Native.Nat.{ℕ, zero, suc, ◌<◌}
use Rattle.laws.specs.All.{and_left, and_right}
use Rattle.laws.specs.Lists.{every}

module _ {A : Type 0} (p : A → Bool) where
  pub every_append : (l m : List A) → every p (l ++ m) ≡ (every p l && every p m)
  unfolding every
  every_append [] m = refl
  every_append (a ∷ l) m = ap (p a &&◌) (every_append l m) ∙ sym (and_assoc (p a) (every p l) (every p m))

  pub every_at : (l : List A) (k : ℕ) (d : A) → every p l ≡ true → k < length l → p (get_or l k d) ≡ true
  unfolding every
  every_at [] k d e h = absurd (not-suc-le-zero h)
  every_at (a ∷ l) zero d e h = and_left (p a) (every p l) e
  every_at (a ∷ l) (suc k) d e h = every_at l k d (and_right (p a) (every p l) e) (le_of_suc-le-suc h)

  pub every_fails : (l : List A) (k : ℕ) (d : A) → p (get_or l k d) ≡ false → k < length l → every p l ≡ false
  unfolding every
  every_fails [] k d e h = absurd (not-suc-le-zero h)
  every_fails (a ∷ l) zero d e h = ap (◌&& every p l) e
  every_fails (a ∷ l) (suc k) d e h = ap (p a &&◌) (every_fails l k d e (le_of_suc-le-suc h)) ∙ and-false (p a)
