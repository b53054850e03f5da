-- Laws that this crate's proofs share.
use Rattle.std.proofs.Common.{◌≡◌, refl, sym, ap, ◌∙◌, ℕ, ◌+◌, ◌-◌, ◌≤◌, ◌<◌, Bool, true, ◌&&◌, List, [], ◌∷◌, length, arith, pos, ℤ, nat_abs, get_or, zero-add, to_z-of_z, negsuc, le-leb, zero-le, eqb, of_z, w64}
use Rattle.std.proofs.lemmas.Bool.{false≢true}
use Rattle.std.specs.Int.Signed.{le_z, non_neg}
use Rattle.laws.specs.Lists.{sumℕ, range}
use Rattle.laws.specs.RowSums.{sum_more, sum_parts}
use Rattle.validity_totals.specs.Totals.{loss_sum}

-- ---- a loss in its slot
pub sign_is : (v : ℤ) → le_z (pos 0) v ≡ non_neg v
sign_is (pos n) = le-leb 0 n zero-le
sign_is (negsuc n) = refl

pub zero_is : (v : ℤ) → non_neg v ≡ true → eqb (of_z w64 v) 0 ≡ eqb (nat_abs v) 0
zero_is (pos n) e = refl
zero_is (negsuc n) e = absurd (false≢true e)

pub ruleset signs = (sign_is, zero_is, to_z-of_z)

-- ---- the first k slots' losses
pub loss_none : (l : List ℤ) → loss_sum 0 l ≡ 0
unfolding loss_sum sumℕ range
loss_none l = refl

pub loss_more : (l : List ℤ) (k : ℕ) → loss_sum (k + 1) l ≡ loss_sum k l + nat_abs (get_or l k (pos 0))
unfolding loss_sum
loss_more l k = sum_more (λ k. nat_abs (get_or l k (pos 0))) k

pub loss_most : (l : List ℤ) (k n : ℕ) → k ≤ n → loss_sum k l ≤ loss_sum n l
unfolding loss_sum
loss_most l k n h = let e : n ≡ k + (n - k) = omega arith in rw e (omega (arith, sum_parts (λ k. nat_abs (get_or l k (pos 0))) 0 k (n - k)))

pub ruleset losses = (loss_none, loss_more, loss_most, to_z-of_z)
