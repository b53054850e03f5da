-- Laws of the definitions in Decimal.antt, for proofs; nothing here is to be believed.
--     digit_from         a digit is at least the byte of 0
--     value_snoc         one digit more at the end
--     value-below        k digits stand for a number below 10^k
--     number_read        where a text reads as a number; malformed_read: where it does not
--     digits_small, digits_large   the digits of a number below ten, and of one from ten on
--     value_digits       the digits of n stand for n
--     all_digits         they are digits; some_digits: there is one; few_digits: how many there are; no_zero: none leads idly
--     read_digits        reading them gives n again
use Rattle.std.specs.Prelude.{◌≡◌, refl, Some, None, Bool, true, false, cond, List, [], ◌∷◌, ◌++◌, ℕ, zero, suc, ◌+◌, ◌-◌, ◌*◌, ◌/◌, ◌%◌, ◌^◌, ◌<◌, ◌≤◌, leb, length, get_or}
use Rattle.std.proofs.Common.{sym, ap, ◌∙◌, ⊎_elim, pow-suc, mul-le-mul_right, arith, length-append, lt-ltb, le-ltb, le-leb, leb-true, ne_eqb}
use Rattle.std.proofs.Math.Bool.{or-true}
use Rattle.std.proofs.Math.Nat.{pow-zero}
use Rattle.std.proofs.Math.ListN.{get_or-append}
use Rattle.laws.specs.All.{and_left, and_right}
use Rattle.laws.specs.Lists.{every}
use Rattle.laws.specs.Every.{every_append}
use Rattle.laws.specs.Number.{below_or_not}
use Rattle.limits.specs.Limits.{digit_limit}
use Rattle.decimal.specs.Decimal.{zero_byte, is_digit, value, no_leading_zero, numeral, decimal_of, digits_in, digits_of}

pub digit_from : (c : ℕ) → is_digit c ≡ true → zero_byte ≤ c
unfolding is_digit
digit_from c e = leb-true zero_byte c (and_left (leb zero_byte c) (leb c (zero_byte + 9)) e)

digit_to : (c : ℕ) → is_digit c ≡ true → c ≤ zero_byte + 9
unfolding is_digit
digit_to c e = leb-true c (zero_byte + 9) (and_right (leb zero_byte c) (leb c (zero_byte + 9)) e)

is_digit_lem : (n : ℕ) → n < 10 → is_digit (zero_byte + n) ≡ true
unfolding is_digit
is_digit_lem n h = rw (le-leb zero_byte (zero_byte + n) (omega arith), le-leb (zero_byte + n) (zero_byte + 9) (omega arith))

pub value_snoc : (s : List ℕ) (c : ℕ) → value (s ++ (c ∷ [])) ≡ value s * 10 + (c - zero_byte)
unfolding value
value_snoc [] c = rw (pow-zero 10) (omega arith)
value_snoc (a ∷ s) c =
    let n : length (s ++ (c ∷ [])) ≡ suc (length s) = omega (arith, length-append s (c ∷ [])) in
    rw (n, pow-suc 10 (length s), value_snoc s c) (omega arith)

pub value-below : (s : List ℕ) → every is_digit s ≡ true → value s < 10 ^ length s
unfolding value every
value-below [] e = rw (pow-zero 10) (omega arith)
value-below (c ∷ s) e =
    let d : c - zero_byte ≤ 9 = omega (arith, digit_to c (and_left (is_digit c) (every is_digit s) e)) in
    let rest = value-below s (and_right (is_digit c) (every is_digit s) e) in
    rw (pow-suc 10 (length s)) (omega (arith, mul-le-mul_right (10 ^ length s) d))

by_test : (b : Bool) (s : List ℕ) (v : ℕ) → cond b (Some (value s)) None ≡ Some v → (b ≡ true) × (value s ≡ v)
by_test true s v e = (refl, cc)
by_test false s v e = absurd cc

pub number_read : (s : List ℕ) (v : ℕ) → decimal_of s ≡ Some v → (numeral s ≡ true) × (value s ≡ v)
unfolding decimal_of
number_read s v e = by_test (numeral s) s v e

other_test : (b : Bool) (s : List ℕ) → cond b (Some (value s)) None ≡ None → b ≡ false
other_test true s e = absurd cc
other_test false s e = refl

pub malformed_read : (s : List ℕ) → decimal_of s ≡ None → numeral s ≡ false
unfolding decimal_of
malformed_read s e = other_test (numeral s) s e

one_place : (k n : ℕ) → n < 10 → digits_in k n ≡ (zero_byte + n) ∷ []
unfolding digits_in
one_place zero n h = refl
one_place (suc k) n h = rw (lt-ltb n 10 h, digits_in)

next_place : (k n : ℕ) → 10 ≤ n → digits_in (suc k) n ≡ digits_in k (n / 10) ++ ((zero_byte + n % 10) ∷ [])
unfolding digits_in
next_place k n h = rw (le-ltb n 10 h, digits_in)

-- n places are enough, and so are more
places : (j k n : ℕ) → n ≤ j → n ≤ k → digits_in j n ≡ digits_in k n
places zero k n h m = one_place zero n (omega arith) ∙ sym (one_place k n (omega arith))
places (suc j) zero n h m = one_place (suc j) n (omega arith) ∙ sym (one_place zero n (omega arith))
places (suc j) (suc k) n h m =
    ⊎_elim (λ lt. one_place (suc j) n lt ∙ sym (one_place (suc k) n lt))
    (λ le. next_place j n le ∙ ap (◌++ ((zero_byte + n % 10) ∷ [])) (places j k (n / 10) (omega arith) (omega arith)) ∙ sym (next_place k n le))
    (below_or_not n 10)

pub digits_small : (n : ℕ) → n < 10 → digits_of n ≡ (zero_byte + n) ∷ []
unfolding digits_of
digits_small n h = one_place n n h

pub digits_large : (n : ℕ) → 10 ≤ n → digits_of n ≡ digits_of (n / 10) ++ ((zero_byte + n % 10) ∷ [])
unfolding digits_of
digits_large n h =
    places n (suc n) n (omega arith) (omega arith)
    ∙ next_place n n h
    ∙ ap (◌++ ((zero_byte + n % 10) ∷ [])) (places n (n / 10) (n / 10) (omega arith) (omega arith))

-- what holds of the numbers below ten, and of each other number if it holds of its tenth, holds of all
by_tenths : (P : ℕ → Type 0) → ((n : ℕ) → n < 10 → P n) → ((n : ℕ) → 10 ≤ n → P (n / 10) → P n) → (k n : ℕ) → n ≤ k → P n
by_tenths P small large zero n h = small n (omega arith)
by_tenths P small large (suc k) n h =
    ⊎_elim (λ lt. small n lt) (λ le. large n le (by_tenths P small large k (n / 10) (omega arith))) (below_or_not n 10)

-- the value of one digit
value_one : (n : ℕ) → value ((zero_byte + n) ∷ []) ≡ n
unfolding value
value_one n = rw (pow-zero 10) (omega arith)

value_digits : (n : ℕ) → value (digits_of n) ≡ n
value_digits n = by_tenths (λ m. value (digits_of m) ≡ m) small large n n (omega arith)
  where
    small : (m : ℕ) → m < 10 → value (digits_of m) ≡ m
    small m h = rw (digits_small m h) (value_one m)

    large : (m : ℕ) → 10 ≤ m → value (digits_of (m / 10)) ≡ m / 10 → value (digits_of m) ≡ m
    large m h e = rw (digits_large m h, value_snoc (digits_of (m / 10)) (zero_byte + m % 10), e) (omega arith)

digit_alone : (n : ℕ) → n < 10 → every is_digit ((zero_byte + n) ∷ []) ≡ true
unfolding every
digit_alone n h = rw (is_digit_lem n h)

all_digits : (n : ℕ) → every is_digit (digits_of n) ≡ true
all_digits n = by_tenths (λ m. every is_digit (digits_of m) ≡ true) small large n n (omega arith)
  where
    small : (m : ℕ) → m < 10 → every is_digit (digits_of m) ≡ true
    small m h = rw (digits_small m h) (digit_alone m h)

    large : (m : ℕ) → 10 ≤ m → every is_digit (digits_of (m / 10)) ≡ true → every is_digit (digits_of m) ≡ true
    large m h e =
        rw (digits_large m h, every_append is_digit (digits_of (m / 10)) ((zero_byte + m % 10) ∷ []), e) (digit_alone (m % 10) (omega arith))

some_digits : (n : ℕ) → 1 ≤ length (digits_of n)
some_digits n =
    ⊎_elim (λ lt. rw (digits_small n lt) (omega arith))
    (λ le. rw (digits_large n le, length-append (digits_of (n / 10)) ((zero_byte + n % 10) ∷ [])) (omega arith))
    (below_or_not n 10)

pub few_digits : (k n : ℕ) → 1 ≤ k → n < 10 ^ k → length (digits_of n) ≤ k
few_digits zero n h m = absurd (omega arith)
few_digits (suc zero) n h m = rw (digits_small n m) (omega arith)
few_digits (suc (suc k)) n h m =
    ⊎_elim (λ lt. rw (digits_small n lt) (omega arith))
    (λ le.
    let some : 1 ≤ suc k = omega arith in
    let tenth : n / 10 < 10 ^ suc k = omega (arith, rw (pow-suc 10 (suc k)) at m) in
    let rest : length (digits_of (n / 10)) ≤ suc k = few_digits (suc k) (n / 10) some tenth in
    rw (digits_large n le, length-append (digits_of (n / 10)) ((zero_byte + n % 10) ∷ [])) (omega arith))
    (below_or_not n 10)

-- a number above zero does not begin with the digit 0
first_digit : (n : ℕ) → 1 ≤ n → get_or (digits_of n) 0 0 ≡ zero_byte → ⊥
first_digit n = by_tenths (λ m. 1 ≤ m → get_or (digits_of m) 0 0 ≡ zero_byte → ⊥) small large n n (omega arith)
  where
    small : (m : ℕ) → m < 10 → 1 ≤ m → get_or (digits_of m) 0 0 ≡ zero_byte → ⊥
    small m h p e = omega (arith, rw (digits_small m h) at e)

    large : (m : ℕ) → 10 ≤ m → (1 ≤ m / 10 → get_or (digits_of (m / 10)) 0 0 ≡ zero_byte → ⊥) → 1 ≤ m → get_or (digits_of m) 0 0 ≡ zero_byte → ⊥
    large m h before p e =
        before (omega arith)
        (sym (get_or-append (digits_of (m / 10)) ((zero_byte + m % 10) ∷ []) 0 0 (some_digits (m / 10))) ∙ rw (digits_large m h) at e)

no_zero : (n : ℕ) → no_leading_zero (digits_of n) ≡ true
unfolding no_leading_zero
no_zero n =
    ⊎_elim (λ lt. rw (digits_small n lt))
    (λ le. rw (ne_eqb (get_or (digits_of n) 0 0) zero_byte (first_digit n (omega arith))) (or-true (leb (length (digits_of n)) 1)))
    (below_or_not n 10)

pub read_digits : (n : ℕ) → n < 10 ^ digit_limit → decimal_of (digits_of n) ≡ Some n
unfolding decimal_of numeral
read_digits n h =
    rw (
      le-leb 1 (length (digits_of n)) (some_digits n),
      le-leb (length (digits_of n)) digit_limit (few_digits digit_limit n (omega arith) h),
      no_zero n,
      all_digits n,
      value_digits n,
    )
