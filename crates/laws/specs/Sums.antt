-- Sums of a function over a list, of natural numbers and of integers, and a test of its elements.
--     Room limit v ts        ts can be added to v one by one, each sum between 0 and the limit
-- A law that asks something of the terms asks it of the elements of l only.
use Rattle.std.specs.Prelude.{◌≡◌, Bool, ◌||◌, eqb, ℤ, neg_ℤ, nat_abs, ◌-ℤ◌, ◌≤ℤ◌, length, get_or}
use Rattle.std.proofs.Math.Path.{refl, sym, ap, ap₂}
use Rattle.std.proofs.Common.{subst, ◌∙◌, true≢false, add-zero, eq-eqb, ne_eqb}
use Rattle.std.proofs.Math.Bool.{true, false}
use Rattle.std.proofs.Math.Logic.{⊎_elim}
use mathlib.Core.List.Memᴰ
use mathlib.Core.List.{List, [], ◌∷◌, ◌++◌, map, flat_map, Memᴰ}
use Prim.Native.Nat.{ℕ, zero, suc, ◌+◌, ◌*◌, ◌-◌, ◌≤◌, ◌<◌, zero-le}
use Rattle.std.proofs.Math.Decide.{ℕ_discrete}
use Rattle.std.proofs.Math.Nat.{le_refl}
use native.Mathlib.Omega.{arith}
use Rattle.std.proofs.Math.Arith.{lt_of_le-ne}
use Rattle.std.proofs.Math.IntN.{pos, ◌+ℤ◌}
use Rattle.std.specs.Int.Signed.{≤ℤ_refl}
use Rattle.laws.specs.Integer.{+ℤ_swap, +ℤ_natural, diff_add, diff_neg, add_diff, plus, minus, parts, natural, pos_≤ℤ}
use Rattle.laws.specs.Lists.{ifℕ, ifℤ, sumℕ, sumℤ, range, some}

-- ---- tests

module _ (t : Bool) where
  pub ifℕ_zero : ifℕ t 0 ≡ 0
  unfolding ifℕ
  ifℕ_zero = elim t as (λ t. ifℕ t 0 ≡ 0) [ true ↦ refl | false ↦ refl ]

  pub ifℕ_le : (x : ℕ) → ifℕ t x ≤ x
  unfolding ifℕ
  ifℕ_le x = elim t as (λ t. ifℕ t x ≤ x) [ true ↦ le_refl x | false ↦ zero-le ]

  pub ifℕ_add : (x y : ℕ) → ifℕ t (x + y) ≡ ifℕ t x + ifℕ t y
  unfolding ifℕ
  ifℕ_add x y = elim t as (λ t. ifℕ t (x + y) ≡ ifℕ t x + ifℕ t y) [ true ↦ refl | false ↦ refl ]

  pub ifℕ-swap : (u : Bool) (x : ℕ) → ifℕ t (ifℕ u x) ≡ ifℕ u (ifℕ t x)
  unfolding ifℕ
  ifℕ-swap u x = elim t as (λ t. ifℕ t (ifℕ u x) ≡ ifℕ u (ifℕ t x)) [ true ↦ refl | false ↦ elim u as (λ u. 0 ≡ ifℕ u 0) [ true ↦ refl | false ↦ refl ] ]

  pub ifℤ_add : (x y : ℤ) → ifℤ t (x +ℤ y) ≡ ifℤ t x +ℤ ifℤ t y
  unfolding ifℤ
  ifℤ_add x y = elim t as (λ t. ifℤ t (x +ℤ y) ≡ ifℤ t x +ℤ ifℤ t y) [ true ↦ refl | false ↦ refl ]

  pub plus_if : (z : ℤ) → plus (ifℤ t z) ≡ ifℕ t (plus z)
  unfolding ifℤ ifℕ
  plus_if z = elim t as (λ t. plus (ifℤ t z) ≡ ifℕ t (plus z)) [ true ↦ refl | false ↦ refl ]

  pub minus_if : (z : ℤ) → minus (ifℤ t z) ≡ ifℕ t (minus z)
  unfolding ifℤ ifℕ
  minus_if z = elim t as (λ t. minus (ifℤ t z) ≡ ifℕ t (minus z)) [ true ↦ refl | false ↦ refl ]

  pub ifℤ_pos : (x : ℕ) → ifℤ t (pos x) ≡ pos (ifℕ t x)
  unfolding ifℤ ifℕ
  ifℤ_pos x = elim t as (λ t. ifℤ t (pos x) ≡ pos (ifℕ t x)) [ true ↦ refl | false ↦ refl ]

  pub ifℤ_diff : (z : ℤ) (h k : ℕ) → z ≡ pos h -ℤ pos k → ifℤ t z ≡ pos (ifℕ t h) -ℤ pos (ifℕ t k)
  unfolding ifℤ ifℕ
  ifℤ_diff z h k e = elim t as (λ t. ifℤ t z ≡ pos (ifℕ t h) -ℤ pos (ifℕ t k)) [ true ↦ e | false ↦ refl ]

  pub ifℤ_less : (z : ℤ) (h k : ℕ) → z ≡ pos h -ℤ pos k → neg_ℤ (ifℤ t z) ≡ pos (ifℕ t k) -ℤ pos (ifℕ t h)
  ifℤ_less z h k e = ap neg_ℤ (ifℤ_diff z h k e) ∙ diff_neg (ifℕ t h) (ifℕ t k)

-- ---- lists made from the elements of another

pub map_ext : {A B : Type 0} (l : List A) {f g : A → B} → ((a : A) → Memᴰ a l → f a ≡ g a) → map f l ≡ map g l
map_ext [] h = refl
map_ext (a ∷ l) h = ap₂ ◌∷◌ (h a (Memᴰ.head refl)) (map_ext l (λ b m. h b (Memᴰ.tail m)))

-- ---- sums of natural numbers

module _ {A : Type 0} where
  pub sumℕ_le : (l : List A) {g h : A → ℕ} → ((a : A) → Memᴰ a l → g a ≤ h a) → sumℕ l g ≤ sumℕ l h
  unfolding sumℕ
  sumℕ_le [] t = le_refl 0
  sumℕ_le (a ∷ l) t = omega (arith, t a (Memᴰ.head refl), sumℕ_le l (λ b m. t b (Memᴰ.tail m)))

  pub sumℕ_ext : (l : List A) {g h : A → ℕ} → ((a : A) → Memᴰ a l → g a ≡ h a) → sumℕ l g ≡ sumℕ l h
  unfolding sumℕ
  sumℕ_ext [] t = refl
  sumℕ_ext (a ∷ l) t = ap₂ ◌+◌ (t a (Memᴰ.head refl)) (sumℕ_ext l (λ b m. t b (Memᴰ.tail m)))

  pub sumℕ_zero : (l : List A) {g : A → ℕ} → ((a : A) → Memᴰ a l → g a ≡ 0) → sumℕ l g ≡ 0
  unfolding sumℕ
  sumℕ_zero [] t = refl
  sumℕ_zero (a ∷ l) t = omega (arith, t a (Memᴰ.head refl), sumℕ_zero l (λ b m. t b (Memᴰ.tail m)))

  pub sumℕ_add : (l : List A) (g h : A → ℕ) → sumℕ l (λ a. g a + h a) ≡ sumℕ l g + sumℕ l h
  unfolding sumℕ
  sumℕ_add [] g h = refl
  sumℕ_add (a ∷ l) g h = omega (arith, sumℕ_add l g h)

  -- a bound on each term, with factors, is one on the sum
  pub sumℕ_scale : (l : List A) (g h : A → ℕ) (K B : ℕ) → ((a : A) → Memᴰ a l → g a * K ≤ h a * B) → sumℕ l g * K ≤ sumℕ l h * B
  unfolding sumℕ
  sumℕ_scale [] g h K B t = omega arith
  sumℕ_scale (a ∷ l) g h K B t = omega (arith, t a (Memᴰ.head refl), sumℕ_scale l g h K B (λ b m. t b (Memᴰ.tail m)))

  pub sumℕ_append : (l m : List A) (g : A → ℕ) → sumℕ (l ++ m) g ≡ sumℕ l g + sumℕ m g
  unfolding sumℕ
  sumℕ_append [] m g = omega arith
  sumℕ_append (a ∷ l) m g = omega (arith, sumℕ_append l m g)

  pub ifℕ-sum : (t : Bool) (l : List A) (g : A → ℕ) → ifℕ t (sumℕ l g) ≡ sumℕ l (λ a. ifℕ t (g a))
  unfolding ifℕ
  ifℕ-sum true l g = refl
  ifℕ-sum false l g = sym (sumℕ_zero l (λ a m. refl))

  -- one term is at most the sum
  pub sumℕ_one : {a : A} {l : List A} (g : A → ℕ) → Memᴰ a l → g a ≤ sumℕ l g
  unfolding sumℕ
  sumℕ_one g (Memᴰ.head e) = rw e (omega arith)
  sumℕ_one g (Memᴰ.tail m) = omega (arith, sumℕ_one g m)

module _ {A B : Type 0} where
  pub sumℕ-swap : (l : List A) (m : List B) (g : A → B → ℕ) → sumℕ l (λ a. sumℕ m (g a)) ≡ sumℕ m (λ b. sumℕ l (λ a. g a b))
  unfolding sumℕ
  sumℕ-swap [] m g = sym (sumℕ_zero m (λ b i. refl))
  sumℕ-swap (a ∷ l) m g = ap (λ n. sumℕ m (g a) + n) (sumℕ-swap l m g) ∙ sym (sumℕ_add m (g a) (λ b. sumℕ l (λ a. g a b)))

  pub sumℕ-map : (k : A → B) (l : List A) (g : B → ℕ) → sumℕ (map k l) g ≡ sumℕ l (λ a. g (k a))
  unfolding sumℕ
  sumℕ-map k [] g = refl
  sumℕ-map k (a ∷ l) g = ap (λ n. g (k a) + n) (sumℕ-map k l g)

  pub sumℕ-flat_map : (k : A → List B) (l : List A) (g : B → ℕ) → sumℕ (flat_map k l) g ≡ sumℕ l (λ a. sumℕ (k a) g)
  unfolding sumℕ flat_map
  sumℕ-flat_map k [] g = refl
  sumℕ-flat_map k (a ∷ l) g = sumℕ_append (k a) (flat_map k l) g ∙ ap (λ n. sumℕ (k a) g + n) (sumℕ-flat_map k l g)

  pub mem_flat_map : {a : A} {b : B} (k : A → List B) {l : List A} → Memᴰ a l → Memᴰ b (k a) → Memᴰ b (flat_map k l)
  unfolding flat_map
  mem_flat_map {b = b} k (Memᴰ.head {xs = l} e) h = Memᴰ.append_left (flat_map k l) (subst (λ x. Memᴰ b (k x)) e h)
  mem_flat_map k (Memᴰ.tail {x = x} m) h = Memᴰ.append_right (k x) (mem_flat_map k m h)

  pub flat_map_mem : {b : B} (k : A → List B) (l : List A) → Memᴰ b (flat_map k l) → (a : A) × Memᴰ a l × Memᴰ b (k a)
  unfolding flat_map
  flat_map_mem k [] m = absurd (Memᴰ.not-nil m)
  flat_map_mem k (x ∷ l) m = ⊎_elim (λ h. (x, Memᴰ.head refl, h)) (λ h. let r = flat_map_mem k l h in (r.0, Memᴰ.tail r.1, r.2)) (Memᴰ.append_cases (k x) m)

-- ---- sums of integers

module _ {A : Type 0} where
  pub sumℤ_ext : (l : List A) {g h : A → ℤ} → ((a : A) → Memᴰ a l → g a ≡ h a) → sumℤ l g ≡ sumℤ l h
  unfolding sumℤ
  sumℤ_ext [] t = refl
  sumℤ_ext (a ∷ l) t = ap₂ ◌+ℤ◌ (t a (Memᴰ.head refl)) (sumℤ_ext l (λ b m. t b (Memᴰ.tail m)))

  pub sumℤ_add : (l : List A) (g h : A → ℤ) → sumℤ l (λ a. g a +ℤ h a) ≡ sumℤ l g +ℤ sumℤ l h
  unfolding sumℤ
  sumℤ_add [] g h = refl
  sumℤ_add (a ∷ l) g h = ap (λ z. g a +ℤ h a +ℤ z) (sumℤ_add l g h) ∙ +ℤ_swap (g a) (h a) (sumℤ l g) (sumℤ l h)

  pub sumℤ_pos : (l : List A) (g : A → ℕ) → sumℤ l (λ a. pos (g a)) ≡ pos (sumℕ l g)
  unfolding sumℤ sumℕ
  sumℤ_pos [] g = refl
  sumℤ_pos (a ∷ l) g = ap (λ z. pos (g a) +ℤ z) (sumℤ_pos l g)

  pub sumℤ_natural : (l : List A) {g : A → ℤ} → ((a : A) → Memᴰ a l → pos 0 ≤ℤ g a) → pos 0 ≤ℤ sumℤ l g
  unfolding sumℤ
  sumℤ_natural [] t = ≤ℤ_refl (pos 0)
  sumℤ_natural (a ∷ l) t = +ℤ_natural (t a (Memᴰ.head refl)) (sumℤ_natural l (λ b m. t b (Memᴰ.tail m)))

  -- a sum of differences, from the sums of what is added and of what is subtracted
  pub sumℤ_diff : (l : List A) (g : A → ℤ) (h k : A → ℕ) → ((a : A) → g a ≡ pos (h a) -ℤ pos (k a)) → sumℤ l g ≡ pos (sumℕ l h) -ℤ pos (sumℕ l k)
  unfolding sumℤ sumℕ
  sumℤ_diff [] g h k t = refl
  sumℤ_diff (a ∷ l) g h k t = ap₂ ◌+ℤ◌ (t a) (sumℤ_diff l g h k t) ∙ diff_add (h a) (k a) (sumℕ l h) (sumℕ l k)

-- ---- ranges

pub mem_range : {k p : ℕ} (n : ℕ) → k ≤ p → p < k + n → Memᴰ p (range k n)
unfolding range
mem_range zero a b = absurd (omega arith)
mem_range {k} {p} (suc n) a b = elim (ℕ_discrete p k) [
  | yes e ↦ Memᴰ.head e
  | no f ↦ Memᴰ.tail (mem_range {k = suc k} n (omega arith) (omega arith))
]

pub range_mem : {p : ℕ} (k n : ℕ) → Memᴰ p (range k n) → (k ≤ p) × (p < k + n)
unfolding range
range_mem k zero m = absurd (Memᴰ.not-nil m)
range_mem k (suc n) m = ⊎_elim (λ e. omega arith) (λ r. omega (arith, range_mem (suc k) n r)) (Memᴰ.cases_cons m)

pub range-below : {p : ℕ} (n : ℕ) → Memᴰ p (range 0 n) → p < n
range-below n m = omega (arith, range_mem 0 n m)

-- a sum over a range with one term
pub sumℕ_pick : (g : ℕ → ℕ) (k n a : ℕ) → k ≤ a → a < k + n → sumℕ (range k n) (λ p. ifℕ (eqb a p) (g p)) ≡ g a
unfolding sumℕ range ifℕ
sumℕ_pick g k zero a u v = omega arith
sumℕ_pick g k (suc n) a u v = elim (ℕ_discrete k a) [
  | yes e ↦ rw (eq-eqb a k (sym e)) (omega (arith, ap g e, sumℕ_zero (range (suc k) n) (λ p m. past p e (range_mem (suc k) n m))))
  | no f ↦ rw (ne_eqb a k (λ e. f (sym e))) (omega (arith, sumℕ_pick g (suc k) n a (lt_of_le-ne u f) (omega arith)))
]
  where
    past : (p : ℕ) → k ≡ a → (suc k ≤ p) × (p < suc k + n) → ifℕ (eqb a p) (g p) ≡ 0
    past p e b = rw (ne_eqb a p (omega arith))

pub get_or-map-range : {A : Type 0} (g : ℕ → A) (z : A) (k n i : ℕ) → i < n → get_or (map g (range k n)) i z ≡ g (k + i)
unfolding range
get_or-map-range g z k zero i h = absurd (omega arith)
get_or-map-range g z k (suc n) zero h = ap g (sym (add-zero k))
get_or-map-range g z k (suc n) (suc i) h = get_or-map-range g z (suc k) n i (omega arith) ∙ ap g (omega arith)

pub length-range : (k n : ℕ) → length (range k n) ≡ n
unfolding range
length-range k zero = refl
length-range k (suc n) = ap suc (length-range (suc k) n)

-- ---- sums that stay in bounds

-- The numbers ts can be added to v one by one: no sum on the way is below 0 or above the limit.
pub record Room (limit : ℕ) (v : ℤ) (ts : List ℤ) : Type 0 where
  pub natural : pos 0 ≤ℤ v
  pub falls : sumℕ ts minus ≤ nat_abs v
  pub rises : nat_abs v + sumℕ ts plus ≤ limit

pub room_more : {limit : ℕ} {v t : ℤ} {ts : List ℤ} → Room limit v (t ∷ ts) → Room limit (v +ℤ t) ts
unfolding sumℕ
room_more {limit} {v} {t} {ts} r = rw sum (record { natural = pos_≤ℤ zero-le; falls = omega (arith, r.falls); rises = omega (arith, r.falls, r.rises) })
  where
    sum : v +ℤ t ≡ pos (nat_abs v + plus t - minus t)
    sum = ap₂ ◌+ℤ◌ (natural r.natural) (parts t) ∙ add_diff (nat_abs v) (plus t) (minus t) (omega (arith, r.falls))

-- ---- a test of the elements

pub or_no : (t u : Bool) → (t || u) ≡ false → (t ≡ false) × (u ≡ false)
or_no true u e = absurd (true≢false e)
or_no false u e = (refl, e)

module _ {A : Type 0} (t : A → Bool) where
  -- where it holds of none, it does not hold of one
  pub none_at : {a : A} {l : List A} → some l t ≡ false → Memᴰ a l → t a ≡ false
  unfolding some
  none_at e (Memᴰ.head {x = x} {xs = l} q) = rw q (or_no (t x) (some l t) e).0
  none_at e (Memᴰ.tail {x = x} {xs = l} m) = none_at (or_no (t x) (some l t) e).1 m

  pub none : (l : List A) → ((a : A) → Memᴰ a l → t a ≡ false) → some l t ≡ false
  unfolding some
  none [] h = refl
  none (a ∷ l) h = rw (h a (Memᴰ.head refl)) (none l (λ b m. h b (Memᴰ.tail m)))
