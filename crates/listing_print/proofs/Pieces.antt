-- What is left to print of a listing, entry by entry.
use Rattle.std.proofs.Common.{◌≡◌, refl, sym, ap, subst, ◌∙◌, ℕ, suc, ◌+◌, ◌-◌, ◌<◌, add-one, List, ◌++◌, [], append-nil, append_assoc, arith}
use Rattle.std.specs.Prelude.{Option, Some, None}
use Rattle.std.specs.Io.KnownBytes.{Appends}
use Rattle.record.specs.declared.Record.{Record}
use Rattle.listing.specs.declared.Piece.{Piece}
use Rattle.listing.specs.Listing.{listing_of, opening_of, next_of, bytes_of, printed_from, printed}
use Rattle.listing.specs.Printed.{after_entry, after_last, listing_printed}

-- ---- bytes after bytes

pub appends_none : (a : Option (List ℕ)) → Appends a a []
appends_none None = tt
appends_none (Some xs) = sym (append-nil xs)

pub appends_more : (a b c : Option (List ℕ)) (x y : List ℕ) → Appends a b x → Appends b c y → Appends a c (x ++ y)
appends_more None b c x y h k = tt
appends_more (Some xs) None c x y h k = absurd h
appends_more (Some xs) (Some ys) None x y h k = absurd k
appends_more (Some xs) (Some ys) (Some zs) x y h k = k ∙ ap (λ l. l ++ y) h ∙ append_assoc xs x y

pub appends_same : (a b : Option (List ℕ)) {x y : List ℕ} → x ≡ y → Appends a b x → Appends a b y
appends_same a b e h = subst (λ (z : List ℕ). Appends a b z) e h

-- ---- pieces after pieces

module _ (text : List ℕ) where
  -- what is left after the first `done` entries, which left record r
  abbrev pub left : ℕ → Record → List ℕ
  left done r = printed_from (500 - done) text done r

  pub opening_ended : (opening_of text).start ≡ None → bytes_of (opening_of text).line ≡ listing_of text
  unfolding printed
  opening_ended e = sym (append-nil _) ∙ (rw e at (listing_printed text))

  pub opening_going : {r : Record} → (opening_of text).start ≡ Some r → bytes_of (opening_of text).line ++ left 0 r ≡ listing_of text
  unfolding printed
  opening_going e = rw e at (listing_printed text)

  module _ (r : Record) (done : ℕ) where
    pub next_ended : next_of text r done ≡ None → left done r ≡ []
    next_ended = after_last text r done (500 - done)

    pub next_going : done < 500 → {p : Piece} → next_of text r done ≡ Some p → left done r ≡ bytes_of p.line ++ left (done + 1) p.«record»
    next_going h e =
        let one_less : 500 - done ≡ suc (500 - suc done) = omega arith in
        rw (add-one done) (ap (λ n. printed_from n text done r) one_less ∙ after_entry text r done (500 - suc done) e)

  pub none_left : (r : Record) → left 500 r ≡ []
  unfolding printed_from
  none_left r = refl
