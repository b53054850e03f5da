-- A line in an array that grows at its end: laws only, nothing to believe.
--     length-appended   how long a line is with a list of bytes more
--     appended_twice    a list and then another; appended_more: and then one byte
--     held_none         the empty line
--     held-appended     a line that holds a list, with another list more
--     held_then         the same of a line that is known by its equation
--     holds             it holds the list whole, where its length says that there is room; holds_length: its length is within its bytes
--     take-padded       a padded list up to the list's length is the list
--     figure_natural    a figure that is not negative has no sign
use Rattle.std.specs.Prelude.{◌≡◌, refl, List, [], ◌∷◌, ◌++◌, ℕ, ◌+◌, ◌≤◌, ℤ, pos, negsuc, nat_abs, length, take, replicate, ◌≤ℤ◌}
use Rattle.std.proofs.Common.{sym, ap, ◌∙◌, append_assoc, append-nil, arith, length-append, take-take}
use Rattle.std.proofs.Math.Seq.{take-append_seam}
use Rattle.laws.specs.Lists.{padded}
use Rattle.laws.specs.Padded.{padded_none, padded_more, length-padded}
use Rattle.decimal.specs.Decimal.{digits_of}
use Rattle.listing_lines.specs.declared.Line.{Line}
use Rattle.listing_lines.specs.Lines.{figure_of, line_bytes, held, HoldsLine}
use Rattle.listing_lines.specs.Appended.{followed, appended}

pub length-appended : (x : Line) (l : List ℕ) → (appended x l).length ≡ x.length + length l
unfolding appended
length-appended x [] = omega arith
length-appended x (c ∷ l) = omega (arith, length-appended (followed x c) l)

pub appended_none : (x : Line) → appended x [] ≡ x
unfolding appended
appended_none x = refl

pub appended_twice : (x : Line) (l m : List ℕ) → appended (appended x l) m ≡ appended x (l ++ m)
unfolding appended
appended_twice x [] m = refl
appended_twice x (c ∷ l) m = appended_twice (followed x c) l m

pub appended_more : (x : Line) (l : List ℕ) (c : ℕ) → followed (appended x l) c ≡ appended x (l ++ (c ∷ []))
unfolding appended
appended_more x l c = appended_twice x l (c ∷ [])

pub held_none : held [] ≡ record { bytes = replicate line_bytes 0; length = 0 }
unfolding held
held_none = ap {B = Line} (λ b. record { bytes = b; length = 0 }) (padded_none {A = ℕ} line_bytes 0)

held_more : (l : List ℕ) (c : ℕ) → followed (held l) c ≡ held (l ++ (c ∷ []))
unfolding held
held_more l c = rw (length-append l (c ∷ []), padded_more line_bytes 0 l c)

pub held-appended : (l m : List ℕ) → appended (held l) m ≡ held (l ++ m)
unfolding appended
held-appended l [] = ap held (sym (append-nil l))
held-appended l (c ∷ m) = ap (λ x. appended x m) (held_more l c) ∙ held-appended (l ++ (c ∷ [])) m ∙ ap held (append_assoc l (c ∷ []) m)

pub take-padded : (n : ℕ) (l : List ℕ) → length l ≤ n → take (length l) (padded n 0 l) ≡ l
unfolding padded
take-padded n l h = take-take (length l) n (l ++ replicate n 0) h ∙ take-append_seam l (replicate n 0)

pub held_then : (l m : List ℕ) {x y : Line} → x ≡ held l → y ≡ appended x m → y ≡ held (l ++ m)
held_then l m e q = q ∙ ap (λ x. appended x m) e ∙ held-appended l m

module _ (l : List ℕ) {x : Line} where
  pub holds : x ≡ held l → x.length ≤ line_bytes → HoldsLine l x
  unfolding held
  holds e h = record { line = e; room = rw e at h }

  pub holds_length : HoldsLine l x → x.length ≤ length x.bytes
  unfolding held
  holds_length h = rw (h.line, length-padded line_bytes 0 l) h.room

pub figure_natural : (x : ℤ) → pos 0 ≤ℤ x → figure_of x ≡ digits_of (nat_abs x)
unfolding figure_of
figure_natural (pos n) h = refl
figure_natural (negsuc n) h = absurd h.le
