-- An answer by a test: laws only, nothing to believe.
--     compared     14 for either record, else by a test that holds of records that 14 lets pass exactly where a claim does: it compares them by that claim
use Rattle.std.specs.Prelude.{◌≡◌, Bool, true, false, not, ◌&&◌, [], ◌∷◌}
use Rattle.std.proofs.Math.Path.{refl}
use Rattle.refusals.specs.Refusals.{given}
use Rattle.laws.specs.Lists.{first}
use Rattle.record.specs.declared.Record.{Record}
use Rattle.validity.specs.Validity.{valid}
use Rattle.read_same.specs.Same.{Compares, refused, yes, no}

module _ (r q : Record) (Same : Type 0) where
  pub compared : (t : Bool) → (valid r ≡ true → valid q ≡ true → t ≡ true → Same) → (valid r ≡ true → valid q ≡ true → t ≡ false → Same → ⊥)
      → Compares r q Same (given (first ((not (valid r), 14) ∷ (not (valid q), 14) ∷ [])) t)
  unfolding first
  compared t holds fails = by_tests (valid r) (valid q) t refl refl holds fails
    where
      both : {a b c : Bool} → valid r ≡ a → valid q ≡ b → (a && b) ≡ c → (valid r && valid q) ≡ c
      both e f g = rw (e, f) g

      by_tests : (a b t : Bool) → valid r ≡ a → valid q ≡ b → (valid r ≡ true → valid q ≡ true → t ≡ true → Same) → (valid r ≡ true → valid q ≡ true → t ≡ false → Same → ⊥)
          → Compares r q Same (given (first ((not a, 14) ∷ (not b, 14) ∷ [])) t)
      by_tests true true true e f holds fails = yes (both e f refl) (holds e f refl)
      by_tests true true false e f holds fails = no (both e f refl) (fails e f refl)
      by_tests true false t e f holds fails = refused t (both e f refl)
      by_tests false b t e f holds fails = refused t (both e f refl)
