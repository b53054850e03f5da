-- A test of two lists, element by element.
--     Comparing           what a loop that compares them knows: comparing_start, comparing_more, comparing_fails, comparing_done
--     unequal_lengths     it fails where the lengths differ
--     pairwise_equal      lists of which it holds are equal, if elements of which it holds are; pairwise_itself: it holds of a list and itself
use Rattle.std.specs.Prelude.{◌≡◌, Bool, true, false, ◌&&◌, get_or, drop}
use Rattle.std.proofs.Math.Path.{refl, ap, ap₂}
use Rattle.std.proofs.Common.{◌∙◌, add-one, arith}
use Rattle.std.proofs.Math.Bool.{and-false}
use Rattle.std.proofs.lemmas.Bool.{false≢true}
use mathlib.Core.List.{List, [], ◌∷◌}
use Prim.Native.Nat.{ℕ, suc, ◌+◌, ◌≤◌, ◌<◌}
use Rattle.std.proofs.Math.ListN.{length, drop_of_length-le}
use Rattle.std.proofs.Math.Seq.{drop-cons}
use Rattle.laws.specs.All.{and_left, and_right}
use Rattle.laws.specs.Lists.{pairwise}

-- what a loop over two lists knows at place k: they have one length, and what stands from k on decides
pub record Comparing {A : Type 0} (t : A → A → Bool) (l m : List A) (k : ℕ) : Type 0 where
  pub long : length l ≡ length m
  pub rest : pairwise t l m ≡ pairwise t (drop k l) (drop k m)

module _ {A : Type 0} {t : A → A → Bool} {l m : List A} where
  pub comparing_start : length l ≡ length m → Comparing t l m 0
  comparing_start e = record { long = e; rest = refl }

  module _ {k : ℕ} (c : Comparing t l m k) where
    turn : (d : A) → k < length l → pairwise t l m ≡ (t (get_or l k d) (get_or m k d) && pairwise t (drop (k + 1) l) (drop (k + 1) m))
    unfolding pairwise
    turn d h = let i : k < length m = omega (arith, c.long) in c.rest ∙ rw (add-one k, drop-cons l k d, drop-cons m k d)

    pub comparing_more : (d : A) → k < length l → t (get_or l k d) (get_or m k d) ≡ true → Comparing t l m (k + 1)
    comparing_more d h e = record { long = c.long; rest = turn d h ∙ rw e }

    pub comparing_fails : (d : A) → k < length l → t (get_or l k d) (get_or m k d) ≡ false → pairwise t l m ≡ false
    comparing_fails d h e = turn d h ∙ rw e

    pub comparing_done : length l ≤ k → pairwise t l m ≡ true
    unfolding pairwise
    comparing_done h = let i : length m ≤ k = omega (arith, c.long) in c.rest ∙ rw (drop_of_length-le l h, drop_of_length-le m i)

module _ {A : Type 0} (t : A → A → Bool) where
  pub unequal_lengths : (l m : List A) → (length l ≡ length m → ⊥) → pairwise t l m ≡ false
  unfolding pairwise
  unequal_lengths [] [] f = absurd (f refl)
  unequal_lengths [] (b ∷ m) f = refl
  unequal_lengths (a ∷ l) [] f = refl
  unequal_lengths (a ∷ l) (b ∷ m) f = ap (t a b &&◌) (unequal_lengths l m (λ e. f (ap suc e))) ∙ and-false (t a b)

  pub pairwise_equal : ((a b : A) → t a b ≡ true → a ≡ b) → (l m : List A) → pairwise t l m ≡ true → l ≡ m
  unfolding pairwise
  pairwise_equal same [] [] e = refl
  pairwise_equal same [] (b ∷ m) e = absurd (false≢true e)
  pairwise_equal same (a ∷ l) [] e = absurd (false≢true e)
  pairwise_equal same (a ∷ l) (b ∷ m) e =
      ap₂ ◌∷◌ (same a b (and_left (t a b) (pairwise t l m) e)) (pairwise_equal same l m (and_right (t a b) (pairwise t l m) e))

  pub pairwise_itself : ((a : A) → t a a ≡ true) → (l : List A) → pairwise t l l ≡ true
  unfolding pairwise
  pairwise_itself same [] = refl
  pairwise_itself same (a ∷ l) = rw (same a, pairwise_itself same l)
