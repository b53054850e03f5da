-- Laws of refusals and their numbers, for the proofs of this and other crates: nothing here is to be believed.
--     number_is      a number up to 14 is that of its refusal
--     same_number    two numbers of which one is such, and whose refusals are the same, are the same
--     value_given    an answer that is a value has the number 0
--     refusal_given  one that is a refusal has another, and this is its refusal
--     given_refused  a number above 0 gives its refusal
use Rattle.std.specs.Prelude.{◌≡◌, refl, ℕ, zero, suc, ◌<◌, ◌≤◌, Result, Ok, Err}
use Rattle.std.proofs.Common.{sym, ◌∙◌, ap, arith}
use Rattle.refusals.specs.declared.Refusal.{Refusal}
use Rattle.refusals.specs.Refusals.{refusal_number, refusal, given}

pub number_is : (m : ℕ) → 0 < m → m ≤ 14 → refusal_number (refusal m) ≡ m
unfolding refusal_number refusal
number_is m h g = grind arith

past : (m : ℕ) → 14 < m → refusal_number (refusal m) ≡ 20
unfolding refusal_number refusal
past m h = grind arith

pub same_number : (m k : ℕ) → 0 < m → 0 < k → k ≤ 14 → refusal m ≡ refusal k → m ≡ k
same_number m k h g l e =
    let n : refusal_number (refusal m) ≡ k = ap refusal_number e ∙ number_is k g l in
    let near : m ≤ 14 → refusal_number (refusal m) ≡ m = number_is m h in
    let far : 14 < m → refusal_number (refusal m) ≡ 20 = past m in
    grind (arith, n, near, far, l)

module _ {A : Type 0} where
  apart : {x : A} {k : Refusal} → ◌≡◌ {A = Result A Refusal} (Ok x) (Err k) → ⊥
  apart e = grind arith

  pub value_given : (n : ℕ) (x : A) {y : A} → given n x ≡ Ok y → (n ≡ 0) × (x ≡ y)
  unfolding given
  value_given zero x e = (refl, same e)
    where
      same : {y : A} → ◌≡◌ {A = Result A Refusal} (Ok x) (Ok y) → x ≡ y
      same p = cc
  value_given (suc n) x e = absurd (apart (sym e))

  pub refusal_given : (n : ℕ) (x : A) {k : Refusal} → given n x ≡ Err k → (refusal n ≡ k) × (n ≡ 0 → ⊥)
  unfolding given
  refusal_given zero x e = absurd (apart e)
  refusal_given (suc n) x e = (same e, λ z. omega arith)
    where
      same : {k : Refusal} → ◌≡◌ {A = Result A Refusal} (Err (refusal (suc n))) (Err k) → refusal (suc n) ≡ k
      same p = cc

  pub given_refused : (n : ℕ) (x : A) → 0 < n → Err (refusal n) ≡ given n x
  unfolding given
  given_refused zero x h = absurd (omega arith)
  given_refused (suc n) x h = refl
