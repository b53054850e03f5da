-- The pieces of a text: the parts that std's split gives at its line feeds.
--     first_line         where a text has a line feed, it is a line and the pieces of what follows; one_piece: where it has none
--     lines_line         the lines of a text that begins with a line; last_line: what is left after its lines
use Rattle.std.proofs.Common.{◌≡◌, refl, ◌∙◌, Bool, true, false, cond, Some, None, List, [], ◌∷◌, ℕ, ◌+◌, ◌<◌, ◌≤◌, ltb, eqb, length, take, drop, position, arith}
use Rattle.std.specs.List.{slice_split, onto_first, position_or_len}
use Rattle.std.proofs.lemmas.Bool.Decides.{nat_tests}
use Rattle.std.proofs.lemmas.List.Elements.{All-from_get_or}
use Rattle.std.proofs.lemmas.List.Quantifiers.{position-Some}
use Rattle.std.proofs.lemmas.List.Splits.{slice_split_none, slice_split_first, length-slice_split}
use Rattle.std.proofs.lemmas.List.Sums.{position_or_len_is, fails_before_first}
use mathlib.Core.List.{get_last_d, get_last-cons, cons-ne-nil}
use Rattle.text.specs.Text.{line_feed, prefixed, pieces, lines, unended}

abbrev pub is_feed : ℕ → Bool
is_feed c = eqb c line_feed

before_part : (c : ℕ) (ps : List (List ℕ)) → 0 < length ps → prefixed c ps ≡ cond (is_feed c) ([] ∷ ps) (onto_first c ps)
unfolding prefixed
before_part c [] h = absurd (omega arith)
before_part c (p ∷ ps) h = refl

as_std : (s : List ℕ) → pieces s ≡ slice_split is_feed s
unfolding pieces
as_std [] = refl
as_std (c ∷ s) = rw (as_std s) (before_part c (slice_split is_feed s) (omega (arith, length-slice_split is_feed s)))

some-piece : (s : List ℕ) → (p : List ℕ) × (ps : List (List ℕ)) × (pieces s ≡ p ∷ ps)
some-piece s = parts (pieces s) (rw (as_std s) (omega (arith, length-slice_split is_feed s)))
  where
    parts : (ps : List (List ℕ)) → 0 < length ps → (p : List ℕ) × (qs : List (List ℕ)) × (ps ≡ p ∷ qs)
    parts [] h = absurd (omega arith)
    parts (p ∷ ps) h = (p, ps, refl)

no_place : (b : Bool) (k : ℕ) → cond b (Some k) None ≡ None → b ≡ false
no_place true k e = absurd cc
no_place false k e = refl

module _ (s : List ℕ) where
  pub first_line : (n : ℕ) → position is_feed s ≡ Some n → (n < length s) × (pieces s ≡ take n s ∷ pieces (drop (n + 1) s))
  first_line n e =
      let p = position-Some is_feed s n 0 e in
      let at : position_or_len is_feed s ≡ n = position_or_len_is is_feed s n 0 (omega arith) p.2 (λ _. p.1) in
      (p.0, as_std s ∙ slice_split_first is_feed s 0 (omega arith) ∙ rw (at, as_std (drop (n + 1) s)))

  pub one_piece : position is_feed s ≡ None → pieces s ≡ s ∷ []
  one_piece e =
      let none : ltb (position_or_len is_feed s) (length s) ≡ false = no_place _ _ e in
      let far : length s ≤ position_or_len is_feed s = grind (arith, nat_tests) in
      as_std s ∙ slice_split_none is_feed s (All-from_get_or (λ x. is_feed x ≡ false) s 0 (λ i h. fails_before_first is_feed s i 0 (omega arith)))

module _ (s p rest : List ℕ) (e : pieces s ≡ p ∷ pieces rest) where
  pub lines_line : lines s ≡ p ∷ lines rest
  unfolding lines
  lines_line = rw (e, (some-piece rest).2)

  pub last_line : unended s ≡ unended rest
  unfolding unended get_last_d
  last_line =
      let r = some-piece rest in
      rw (e, r.2) (get_last-cons p (cons-ne-nil r.0 r.1))
