-- The first of the numbers k to k + n that no other comes before.
--     Foremost          what there is to say of it; one_foremost: of no other number
--     Order             what an order has to be for that; foremost_is: then `foremost` gives it
--     foremost_none               one number; replaced_by, stays_at: one number more, by its test
use Rattle.std.proofs.Common.{◌≡◌, refl, sym, ap, ◌∙◌, Bool, true, false, cond, true≢false, ℕ, zero, suc, ◌+◌, ◌-◌, ◌≤◌, ◌<◌, arith}
use native.Mathlib.Decide.{ℕ_discrete}
use Rattle.laws.specs.Number.{neither_below}
use Rattle.read_limiting.specs.Limiting.{foremost}

pub record Foremost (before : ℕ → ℕ → Bool) (k n p : ℕ) : Type 0 where
  pub least : k ≤ p
  pub most : p ≤ k + n
  pub none : (q : ℕ) → k ≤ q → q ≤ k + n → before q p ≡ false
  pub first : (q : ℕ) → k ≤ q → q < p → before p q ≡ true

pub one_foremost : {before : ℕ → ℕ → Bool} {k n p q : ℕ} → Foremost before k n p → Foremost before k n q → p ≡ q
one_foremost {before} {k} {n} {p} {q} f g = neither_below p q
    (λ lt. true≢false (sym (g.first p f.least lt) ∙ f.none q g.least g.most))
    (λ lt. true≢false (sym (f.first q g.least lt) ∙ g.none p f.least f.most))

pub record Order (before : ℕ → ℕ → Bool) : Type 0 where
  pub turned : (p q : ℕ) → before p q ≡ true → before q p ≡ false
  pub between : (p q c : ℕ) → before p c ≡ true → before q c ≡ false → before p q ≡ true

module _ {before : ℕ → ℕ → Bool} (o : Order before) where
  -- nothing comes before itself
  itself : (p : ℕ) → before p p ≡ false
  itself p = by_test (before p p) refl
    where
      by_test : (t : Bool) → before p p ≡ t → before p p ≡ false
      by_test true e = o.turned p p e
      by_test false e = e

  -- the first of some and one number more
  module _ {k n p : ℕ} (f : Foremost before k n p) where
    replaced : before (k + suc n) p ≡ true → Foremost before k (suc n) (k + suc n)
    replaced e = record {
      least = omega arith;
      most = omega arith;
      none = none;
      first = λ q least lt. o.between (k + suc n) q p e (f.none q least (omega arith));
    }
      where
        -- q before the new one would be before p too
        earlier : (q : ℕ) → k ≤ q → q ≤ k + n → (t : Bool) → before q (k + suc n) ≡ t → before q (k + suc n) ≡ false
        earlier q least most true g = absurd (true≢false (sym (o.between q p (k + suc n) g (o.turned (k + suc n) p e)) ∙ f.none q least most))
        earlier q least most false g = g

        none : (q : ℕ) → k ≤ q → q ≤ k + suc n → before q (k + suc n) ≡ false
        none q least most = elim (ℕ_discrete q (k + suc n)) [
          | yes same ↦ rw same (itself (k + suc n))
          | no other ↦ earlier q least (omega arith) (before q (k + suc n)) refl
        ]

    stays : before (k + suc n) p ≡ false → Foremost before k (suc n) p
    stays e = record {
      least = f.least;
      most = omega (arith, f.most);
      none = λ q least most. elim (ℕ_discrete q (k + suc n)) [
        | yes same ↦ rw same e
        | no other ↦ f.none q least (omega arith)
      ];
      first = f.first;
    }

    with_next : (t : Bool) → before (k + suc n) p ≡ t → Foremost before k (suc n) (cond t (k + suc n) p)
    with_next true e = replaced e
    with_next false e = stays e

  pub foremost_is : (k n : ℕ) → Foremost before k n (foremost before k n)
  unfolding foremost
  foremost_is k zero = record {
    least = omega arith;
    most = omega arith;
    none = λ q least most. let same : q ≡ k = omega arith in rw same (itself k);
    first = λ q least lt. absurd (omega arith);
  }
  foremost_is k (suc n) = with_next (foremost_is k n) (before (k + suc n) (foremost before k n)) refl

-- ---- the turns of a loop

pub foremost_none : (before : ℕ → ℕ → Bool) (k : ℕ) → foremost before k 0 ≡ k
unfolding foremost
foremost_none before k = refl

foremost_more : (before : ℕ → ℕ → Bool) (k : ℕ) → 0 < k → cond (before k (foremost before 0 (k - 1))) k (foremost before 0 (k - 1)) ≡ foremost before 0 k
unfolding foremost
foremost_more before zero h = absurd (omega arith)
foremost_more before (suc n) h =
    let same : suc n - 1 ≡ n = omega arith in
    let number : suc n ≡ 0 + suc n = omega arith in
    rw same (ap (λ m. cond (before m (foremost before 0 n)) m (foremost before 0 n)) number)

-- one number more, by the test of it against the first of those before
module _ (before : ℕ → ℕ → Bool) {k p : ℕ} (h : 0 < k) (s : p ≡ foremost before 0 (k - 1)) where
  one_more : {t : Bool} → before k p ≡ t → cond t k p ≡ foremost before 0 k
  one_more e = rw (← e) (ap (λ q. cond (before k q) k q) s ∙ foremost_more before k h)

  pub replaced_by : before k p ≡ true → k ≡ foremost before 0 (k + 1 - 1)
  replaced_by e = let same : k + 1 - 1 ≡ k = omega arith in rw same (one_more e)

  pub stays_at : before k p ≡ false → p ≡ foremost before 0 (k + 1 - 1)
  stays_at e = let same : k + 1 - 1 ≡ k = omega arith in rw same (one_more e)
