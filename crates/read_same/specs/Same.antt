-- What an answer to the question whether two records are the same says, and when (document 02, N10).
use Rattle.std.specs.Prelude.{◌≡◌, Bool, true, false, ◌&&◌, Result}
use Rattle.refusals.specs.declared.Refusal.{Refusal}
use Rattle.refusals.specs.Refusals.{given}
use Rattle.record.specs.declared.Record.{Record}
use Rattle.validity.specs.Validity.{valid}

-- 14 where one of the records r and q is refused, whatever t: a refused answer has no value; else yes exactly where they are the same by the claim Same
pub data Compares (r q : Record) (Same : Type 0) : Result Bool Refusal → Type 0 where
  refused : (t : Bool) → (valid r && valid q) ≡ false → Compares r q Same (given 14 t)
  yes : (valid r && valid q) ≡ true → Same → Compares r q Same (given 0 true)
  no : (valid r && valid q) ≡ true → (Same → ⊥) → Compares r q Same (given 0 false)
