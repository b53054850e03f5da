-- A number's digits after a line, and the byte after them.
use Rattle.std.proofs.Common.{◌≡◌, ap, ◌∙◌, List, [], ◌∷◌, ◌++◌, ℕ, ◌+◌, ◌^◌, ◌≤◌, ◌<◌, arith, length}
use Rattle.decimal.specs.Decimal.{digits_of, digit_places}
use Rattle.decimal.specs.Laws.{few_digits}
use Rattle.listing_lines.specs.declared.Line.{Line}
use Rattle.listing_lines.specs.Lines.{field_bytes}
use Rattle.listing_lines.specs.Appended.{followed, appended}
use Rattle.listing_lines.specs.Laws.{length-appended, appended_more}

module _ (n : ℕ) (word : n < 2 ^ 64) (d : List ℕ) (e : d ≡ digits_of n) (x y z : Line) (grown : y ≡ appended x d) where
  few : length d ≤ digit_places
  few = rw e (few_digits digit_places n (omega arith) (omega arith))

  pub with_end : (end : ℕ) → z ≡ followed y end → (z ≡ appended x (digits_of n ++ (end ∷ []))) × (z.length ≤ x.length + field_bytes)
  with_end end q = (
    q ∙ ap (λ l. followed l end) (grown ∙ ap (appended x) e) ∙ appended_more x (digits_of n) end,
    rw (q, grown) (omega (arith, length-appended x d, few)),
  )
