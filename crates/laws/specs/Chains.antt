-- Laws of tests made by an iterator's `all`, for the proofs of this and other crates: nothing here is to be believed.
--     every_is       std's test of each element is that of the definitions
--     all_counted    of each number below n
--     all_listed     of each element of a list with its place
use Rattle.std.specs.Prelude.{◌≡◌, refl, Bool, ◌&&◌, List, [], ◌∷◌, ℕ, ◌<◌, length, get_or}
use Rattle.std.proofs.Common.{ap, ◌∙◌, arith, zero-add}
use Rattle.std.specs.List.{list_all, enumerate_from, range_with_len}
use Rattle.std.proofs.lemmas.List.FromFn.{length-enumerate_from, get_or-enumerate_from, length-range_with_len, get_or-range_with_len}
use Rattle.laws.specs.All.{all_at}
use Rattle.laws.specs.Every.{every_at}
use Rattle.laws.specs.Lists.{all_below, every}
use Rattle.laws.specs.Pointwise.{every_from}
use Rattle.laws.specs.Rows.{same_test, all_from}

pub every_is : {A : Type 0} (p : A → Bool) (l : List A) → list_all p l ≡ every p l
unfolding every
every_is p [] = refl
every_is p (a ∷ l) = ap (p a &&◌) (every_is p l)

pub all_counted : (t : ℕ → Bool) (n : ℕ) {r : Bool} → r ≡ list_all t (range_with_len 0 n) → r ≡ all_below n t
all_counted t n e =
    let l = range_with_len 0 n in
    e ∙ every_is t l
    ∙ same_test (every t l) (all_below n t)
    (λ q. all_from t n (λ k h. rw (at k h) at (every_at t l k 0 q (omega (arith, length-range_with_len 0 n)))))
    (λ q. every_from t l 0 (λ k h. let lt : k < n = omega (arith, length-range_with_len 0 n) in rw (at k lt) (all_at t n k q lt)))
  where
    at : (k : ℕ) → k < n → get_or (range_with_len 0 n) k 0 ≡ k
    at k h = get_or-range_with_len 0 n k 0 h ∙ zero-add k

module _ {A : Type 0} (d : A) (t : ℕ → A → Bool) where
  pub all_listed : (l : List A) (n : ℕ) → length l ≡ n → list_all (λ p. t p.0 p.1) (enumerate_from 0 l) ≡ all_below n (λ k. t k (get_or l k d))
  all_listed l n e =
      every_is (λ p. t p.0 p.1) (enumerate_from 0 l)
      ∙ same_test _ _
      (λ q. all_from (λ k. t k (get_or l k d)) n (λ k h. rw (at k (omega arith)) at (every_at (λ p. t p.0 p.1) (enumerate_from 0 l) k (0, d) q (omega (arith, length-enumerate_from 0 l)))))
      (λ q. every_from (λ p. t p.0 p.1) (enumerate_from 0 l) (0, d)
      (λ k h. let lt : k < length l = omega (arith, length-enumerate_from 0 l) in rw (at k lt) (all_at (λ k. t k (get_or l k d)) n k q (omega arith))))
    where
      at : (k : ℕ) → k < length l → get_or (enumerate_from 0 l) k (0, d) ≡ (k, get_or l k d)
      at k h = get_or-enumerate_from 0 l k (0, d) h ∙ ap (λ m. (m, get_or l k d)) (zero-add k)
