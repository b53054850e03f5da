-- A text read up to the start of a line, and what the next line makes of it.
use Rattle.std.proofs.Common.{◌≡◌, refl, sym, ◌∙◌, Bool, true, false, ◌&&◌, Option, Some, None, List, [], ◌∷◌, ◌++◌, ℕ, ◌+◌, ◌-◌, ◌<◌, ◌≤◌, eqb, length, take, drop, set, replicate, position, arith, length-append, le-leb, ne_eqb}
use Rattle.std.proofs.lemmas.Bool.{lt-leb}
use Rattle.std.proofs.Math.Bool.{and-false}
use Rattle.std.proofs.lemmas.List.{length-drop, take_all, append-nil}
use Rattle.std.proofs.Math.Seq.{append_snoc}
use mathlib.Core.List.{get_last_d}
use Rattle.laws.specs.Lists.{every, padded}
use Rattle.laws.specs.Padded.{padded_none, padded_more, length-padded}
use Rattle.decimal.specs.Decimal.{numeral, value}
use Rattle.text.specs.declared.Numbers.{Numbers}
use Rattle.limits.specs.Limits.{text_limit, number_places}
use Rattle.text.specs.Text.{pieces, lines, unended, well_formed, numbers, formed_with, read_of}
use Rattle.text.proofs.Lines.{is_feed, first_line, one_piece, lines_line, last_line}

-- the form of what is left of a text: its last line ended, and each line a decimal whole number
abbrev in_form : List ℕ → Bool
in_form s = eqb (length (unended s)) 0 && every numeral (lines s)

module _ (s p rest : List ℕ) (e : pieces s ≡ p ∷ pieces rest) where
  good_line : numeral p ≡ true → in_form s ≡ in_form rest
  unfolding every
  good_line d = rw (lines_line s p rest e, last_line s p rest e, d)

  bad_line : numeral p ≡ false → in_form s ≡ false
  unfolding every
  bad_line d = rw (lines_line s p rest e, d) (and-false (eqb (length (unended s)) 0))

  number_line : numbers s ≡ value p ∷ numbers rest
  unfolding numbers
  number_line = rw (lines_line s p rest e)

-- a text with no line feed is not ended, unless it is empty
not_ended : (s : List ℕ) → 0 < length s → pieces s ≡ s ∷ [] → in_form s ≡ false
unfolding unended get_last_d
not_ended s h e = rw (e, ne_eqb (length s) 0 (λ z. omega arith))

empty_form : in_form [] ≡ true
unfolding unended lines pieces get_last_d every
empty_form = refl

no_numbers : numbers [] ≡ []
unfolding numbers lines pieces
no_numbers = refl

-- a text that is not too long is judged by its lines
judged : (text : List ℕ) → length text ≤ text_limit → well_formed text ≡ in_form text
unfolding well_formed
judged text h = rw (le-leb (length text) text_limit h)

refused : (text : List ℕ) → well_formed text ≡ false → None ≡ read_of text
unfolding read_of
refused text e = rw e

pub too_long : (text : List ℕ) → text_limit < length text → None ≡ read_of text
unfolding well_formed
too_long text h = refused text (rw (lt-leb (length text) text_limit h))

-- the lines before the rest have been read: their numbers are counted and kept
pub record Passed (text rest : List ℕ) (count : ℕ) (values : List ℕ) : Type 0 where
  pub read : List ℕ
  pub few : count + length rest ≤ length text
  pub counted : count ≡ length read
  pub kept : values ≡ padded number_places 0 read
  pub form : in_form text ≡ in_form rest
  pub are : numbers text ≡ read ++ numbers rest

pub passed_none : (text values : List ℕ) → values ≡ replicate number_places 0 → Passed text text 0 values
passed_none text values e = record {
  read = [];
  few = omega arith;
  counted = refl;
  kept = e ∙ sym (padded_none number_places 0);
  form = refl;
  are = refl;
}

module _ (text rest : List ℕ) (count : ℕ) (values : List ℕ) (so_far : Passed text rest count values) where
  pub values_length : length values ≡ number_places
  values_length = rw so_far.kept (length-padded number_places 0 so_far.read)

  module _ (fits : length text ≤ text_limit) where
    -- past the last line
    pub all_passed : rest ≡ [] → ◌≡◌ {A = Option Numbers} (Some (record { count = count; values = values })) (read_of text)
    unfolding read_of formed_with
    all_passed none =
        let formed : well_formed text ≡ true = judged text fits ∙ so_far.form ∙ rw none empty_form in
        let all : numbers text ≡ so_far.read = so_far.are ∙ rw (none, no_numbers) (append-nil so_far.read) in
        rw (formed, all, so_far.counted, so_far.kept)

    -- a last line with no line feed
    pub last-unended : 0 < length rest → position is_feed rest ≡ None → None ≡ read_of text
    last-unended h e = refused text (judged text fits ∙ so_far.form ∙ not_ended rest h (one_piece rest e))

  module _ (n : ℕ) (ends : position is_feed rest ≡ Some n) where
    pub line_malformed : length text ≤ text_limit → numeral (take n rest) ≡ false → None ≡ read_of text
    line_malformed fits d = refused text (judged text fits ∙ so_far.form ∙ bad_line rest (take n rest) (drop (n + 1) rest) (first_line rest n ends).1 d)

    pub passed_more : (v : ℕ) → numeral (take n rest) ≡ true → value (take n rest) ≡ v → Passed text (take (length rest - (n + 1)) (drop (n + 1) rest)) (count + 1) (set values count v)
    passed_more v d q =
        let here = first_line rest n ends in
        let whole : take (length rest - (n + 1)) (drop (n + 1) rest) ≡ drop (n + 1) rest = take_all _ (drop (n + 1) rest) (omega (arith, length-drop (n + 1) rest)) in
        rw whole record {
          read = so_far.read ++ (v ∷ []);
          few = omega (arith, so_far.few, here.0, length-drop (n + 1) rest);
          counted = omega (arith, so_far.counted, length-append so_far.read (v ∷ []));
          kept = rw (so_far.kept, so_far.counted) (padded_more number_places 0 so_far.read v);
          form = so_far.form ∙ good_line rest (take n rest) (drop (n + 1) rest) here.1 d;
          are =
              so_far.are
              ∙ rw (number_line rest (take n rest) (drop (n + 1) rest) here.1, q)
              (sym (append_snoc so_far.read v (numbers (drop (n + 1) rest))));
        }
