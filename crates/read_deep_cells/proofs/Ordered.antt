-- Lists in which each element may stand before every later one: laws only, nothing to believe.
--     unique                     two lists in one order, with each element as often, are the same
--     order_flat_map              a list made of lists, each in order, the one before the other
--     order_map, order_from      of a list mapped; from another order
--     order_range, order_falling numbers that rise, and that fall; order_rising: a list that read_order has arranged
use mathlib.Core.Path.{◌≡◌, refl, sym, ap, ap₂, ◌∙◌}
use mathlib.Core.Bool.{Bool, true, false}
use mathlib.Core.Logic.{⊎_elim}
use mathlib.Core.List.Memᴰ
use mathlib.Core.List.{List, [], ◌∷◌, ◌++◌, map, flat_map, Memᴰ}
use Prim.Native.Nat.{ℕ, zero, suc, ◌+◌, ◌≤◌, ◌<◌}
use native.Mathlib.Decide.{ℕ_discrete}
use native.Mathlib.Nat.{le_trans}
use native.Mathlib.Omega.{arith}
use lib.Dec.{eqb, leb, ltb}
use lib.ListN.{length}
use borrow.Author.Tests.{eq-eqb, ne_eqb, eqb-true, le-leb, lt-ltb}
use Rattle.laws.specs.All.{and_left, and_right}
use Rattle.laws.specs.Every.{every_append}
use Rattle.laws.specs.Lists.{range, falling, ifℕ, sumℕ, every}
use Rattle.laws.specs.Rows.{both_hold, range_from}
use Rattle.laws.specs.Sums.{flat_map_mem}
use Rattle.read_order.specs.Sorted.{Rising}
use Rattle.read_deep_cells.specs.Order.{times, in_order}

-- ---- a test of every element

module _ {A : Type 0} (p : A → Bool) where
  every_mem : {a : A} {l : List A} → every p l ≡ true → Memᴰ a l → p a ≡ true
  unfolding every
  every_mem e (Memᴰ.head {x = x} {xs = l} q) = rw q (and_left (p x) (every p l) e)
  every_mem e (Memᴰ.tail {x = x} {xs = l} m) = every_mem (and_right (p x) (every p l) e) m

  mem_every : (l : List A) → ((a : A) → Memᴰ a l → p a ≡ true) → every p l ≡ true
  unfolding every
  mem_every [] h = refl
  mem_every (a ∷ l) h = both_hold (h a (Memᴰ.head refl)) (mem_every l (λ b m. h b (Memᴰ.tail m)))

-- ---- how often an element stands in a list

times_mem : (c : ℕ) (l : List ℕ) → 1 ≤ times c l → Memᴰ c l
unfolding times sumℕ ifℕ
times_mem c [] h = absurd (omega arith)
times_mem c (a ∷ l) h = by_test (eqb a c) refl (times_mem c l)
  where
    by_test : (t : Bool) → eqb a c ≡ t → (1 ≤ times c l → Memᴰ c l) → Memᴰ c (a ∷ l)
    by_test true e later = Memᴰ.head (sym (eqb-true a c e))
    by_test false e later = Memᴰ.tail (later (omega (arith, rw e at h)))

times-first : (a : ℕ) (l : List ℕ) → 1 ≤ times a (a ∷ l)
unfolding times sumℕ ifℕ
times-first a l = rw (eq-eqb a a refl) (omega arith)

times_other : (a b : ℕ) (l : List ℕ) → (a ≡ b → ⊥) → times b (a ∷ l) ≡ times b l
unfolding times sumℕ ifℕ
times_other a b l h = rw (ne_eqb a b h) (omega arith)

times_tail : (a c : ℕ) (l m : List ℕ) → times c (a ∷ l) ≡ times c (a ∷ m) → times c l ≡ times c m
unfolding times sumℕ
times_tail a c l m e = omega (arith, e)

-- ---- order

module _ (t : ℕ → ℕ → Bool) where
  order_head : (a : ℕ) (l : List ℕ) → in_order t (a ∷ l) ≡ true → every (t a) l ≡ true
  unfolding in_order
  order_head a l e = and_left (every (t a) l) (in_order t l) e

  order_tail : (a : ℕ) (l : List ℕ) → in_order t (a ∷ l) ≡ true → in_order t l ≡ true
  unfolding in_order
  order_tail a l e = and_right (every (t a) l) (in_order t l) e

  pub order_none : in_order t [] ≡ true
  unfolding in_order
  order_none = refl

  pub order_one : (a : ℕ) → in_order t (a ∷ []) ≡ true
  unfolding in_order every
  order_one a = refl

  module _ (anti : (a b : ℕ) → t a b ≡ true → t b a ≡ true → a ≡ b) where
    same_first : (a b : ℕ) (l m : List ℕ) → in_order t (a ∷ l) ≡ true → in_order t (b ∷ m) ≡ true → ((c : ℕ) → times c (a ∷ l) ≡ times c (b ∷ m)) → a ≡ b
    same_first a b l m p q e = elim (ℕ_discrete a b) [
      | yes h ↦ h
      | no h ↦ anti a b
          (every_mem (t a) (order_head a l p) (times_mem b l (omega (arith, times_other a b l h, e b, times-first b m))))
          (every_mem (t b) (order_head b m q) (times_mem a m (omega (arith, times_other b a m (λ (k : b ≡ a). h (sym k)), e a, times-first a l))))
    ]

    pub unique : (l m : List ℕ) → in_order t l ≡ true → in_order t m ≡ true → ((c : ℕ) → times c l ≡ times c m) → l ≡ m
    unfolding times sumℕ
    unique [] [] p q e = refl
    unique [] (b ∷ m) p q e = absurd (omega (arith, e b, times-first b m))
    unique (a ∷ l) [] p q e = absurd (omega (arith, e a, times-first a l))
    unique (a ∷ l) (b ∷ m) p q e =
        let h = same_first a b l m p q e in
        ap₂ ◌∷◌ h (unique l m (order_tail a l p) (order_tail b m q) (λ c. times_tail a c l m (e c ∙ ap (λ x. times c (x ∷ m)) (sym h))))

  order_append : (l m : List ℕ) → in_order t l ≡ true → in_order t m ≡ true → ((a b : ℕ) → Memᴰ a l → Memᴰ b m → t a b ≡ true) → in_order t (l ++ m) ≡ true
  unfolding in_order
  order_append [] m p q h = q
  order_append (a ∷ l) m p q h =
      both_hold
      (every_append (t a) l m ∙ both_hold (order_head a l p) (mem_every (t a) m (λ b k. h a b (Memᴰ.head refl) k)))
      (order_append l m (order_tail a l p) q (λ x b k j. h x b (Memᴰ.tail k) j))

  -- the lists come one before the other, as the elements that they are made of do by s
  pub order_flat_map : (s : ℕ → ℕ → Bool) (k : ℕ → List ℕ) (l : List ℕ) → in_order s l ≡ true → ((x : ℕ) → Memᴰ x l → in_order t (k x) ≡ true)
      → ((x y a b : ℕ) → Memᴰ x l → Memᴰ y l → s x y ≡ true → Memᴰ a (k x) → Memᴰ b (k y) → t a b ≡ true) → in_order t (flat_map k l) ≡ true
  unfolding in_order flat_map
  order_flat_map s k [] p each across = refl
  order_flat_map s k (x ∷ l) p each across =
      order_append (k x) (flat_map k l)
      (each x (Memᴰ.head refl))
      (order_flat_map s k l (and_right (every (s x) l) (in_order s l) p) (λ y m. each y (Memᴰ.tail m)) (λ y z a b m n. across y z a b (Memᴰ.tail m) (Memᴰ.tail n)))
      (λ a b m n. let w = flat_map_mem k l n in
      across x w.0 a b (Memᴰ.head refl) (Memᴰ.tail w.1) (every_mem (s x) (and_left (every (s x) l) (in_order s l) p) w.1) m w.2)

  pub order_map : (f : ℕ → ℕ) (l : List ℕ) → in_order (λ x y. t (f x) (f y)) l ≡ true → in_order t (map f l) ≡ true
  unfolding in_order every
  order_map f [] p = refl
  order_map f (a ∷ l) p =
      both_hold (all l (and_left (every (λ y. t (f a) (f y)) l) (in_order (λ x y. t (f x) (f y)) l) p)) (order_map f l (and_right (every (λ y. t (f a) (f y)) l) (in_order (λ x y. t (f x) (f y)) l) p))
    where
      all : (m : List ℕ) → every (λ y. t (f a) (f y)) m ≡ true → every (t (f a)) (map f m) ≡ true
      all [] e = refl
      all (b ∷ m) e = both_hold (and_left (t (f a) (f b)) (every (λ y. t (f a) (f y)) m) e) (all m (and_right (t (f a) (f b)) (every (λ y. t (f a) (f y)) m) e))

  pub order_from : (s : ℕ → ℕ → Bool) (l : List ℕ) → in_order s l ≡ true → ((x y : ℕ) → Memᴰ x l → Memᴰ y l → s x y ≡ true → t x y ≡ true) → in_order t l ≡ true
  unfolding in_order
  order_from s [] p h = refl
  order_from s (a ∷ l) p h =
      both_hold
      (mem_every (t a) l (λ b m. h a b (Memᴰ.head refl) (Memᴰ.tail m) (every_mem (s a) (and_left (every (s a) l) (in_order s l) p) m)))
      (order_from s l (and_right (every (s a) l) (in_order s l) p) (λ x y m n. h x y (Memᴰ.tail m) (Memᴰ.tail n)))

-- ---- numbers in order

pub order_range : (k n : ℕ) → in_order ltb (range k n) ≡ true
unfolding in_order range
order_range k zero = refl
order_range k (suc n) = both_hold (range_from (ltb k) (suc k) n (λ i h b. lt-ltb k i (omega arith))) (order_range (suc k) n)

falling_mem : {p : ℕ} (k n : ℕ) → Memᴰ p (falling k n) → (k < p) × (p ≤ k + n)
unfolding falling
falling_mem k zero m = absurd (Memᴰ.not-nil m)
falling_mem k (suc n) m = ⊎_elim (λ e. omega arith) (λ r. omega (arith, falling_mem k n r)) (Memᴰ.cases_cons m)

pub order_falling : (k n : ℕ) → in_order (λ x y. ltb y x) (falling k n) ≡ true
unfolding in_order falling
order_falling k zero = refl
order_falling k (suc n) = both_hold (mem_every (λ y. ltb y (k + suc n)) (falling k n) (λ y m. lt-ltb y (k + suc n) (omega (arith, falling_mem k n m)))) (order_falling k n)

rising_tail : (a : ℕ) (l : List ℕ) → Rising 1 (length (a ∷ l)) (a ∷ l) → Rising 1 (length l) l
rising_tail a l h k b = rw one_more at (h (suc k) (omega arith))
  where
    one_more : suc k + 1 ≡ suc (k + 1)
    one_more = omega arith

rising_least : (b a : ℕ) (l : List ℕ) → Rising 1 (length (a ∷ l)) (a ∷ l) → Memᴰ b l → a ≤ b
rising_least b a l h (Memᴰ.head {xs = m} e) = rw e (h 0 (omega arith))
rising_least b a l h (Memᴰ.tail {x = x} {xs = m} q) = le_trans (h 0 (omega arith)) (rising_least b x m (rising_tail a (x ∷ m) h) q)

pub order_rising : (l : List ℕ) → Rising 1 (length l) l → in_order leb l ≡ true
unfolding in_order
order_rising [] h = refl
order_rising (a ∷ l) h = both_hold (mem_every (leb a) l (λ b m. le-leb a b (rising_least b a l h m))) (order_rising l (rising_tail a l h))
