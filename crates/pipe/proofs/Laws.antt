-- Laws that this crate's proofs share: the lists of screened layers, centres and what lies above a layer.
use Rattle.std.proofs.Common.{◌≡◌, refl, sym, ap, ◌∙◌, Bool, true, false, cond, not, true≢false, ⊎_elim, List, [], ◌∷◌, ℕ, zero, suc, ◌+◌, ◌*◌, ◌≤◌, ◌<◌, add-one, arith, ltb-true, le-leb, eq-eqb, ne_eqb, get_or, take, ltb, Float, get_or-take, Option, Some, None, MatchOption, unwrap_or}
use borrow.Author.Tests.{lt-leb}
use Rattle.laws.specs.Number.{below_or_not}
use Rattle.laws.specs.Rows.{three_hold}
use Rattle.site.specs.declared.Site.{Site}
use Rattle.site.specs.Site.{is_screened, layer_top, topmost_screened, screen_layer, screen_top, screen_holds}
use Rattle.hydraulics.specs.Hydraulics.{◌⊕◌}
use Rattle.pipe.specs.Pipe.{screened_up_to, added_to, added, twice_centre, velocity_at, upward_from, velocity_above}
use Rattle.pipe.specs.Asked.{Screened}

-- ---- the screened layers from the deepest upward
module _ (s : ℕ → Bool) (i : ℕ) where
  up_to_more : (n : ℕ) → i ≤ n → screened_up_to s i (n + 1) ≡ cond (s n) (n ∷ screened_up_to s i n) (screened_up_to s i n)
  unfolding screened_up_to
  up_to_more n h = rw (add-one n, le-leb i n h)

  pub up_to_none : (n : ℕ) → n ≤ i → screened_up_to s i n ≡ []
  unfolding screened_up_to
  up_to_none zero h = refl
  up_to_none (suc n) h = rw (lt-leb i n (omega arith)) (up_to_none n (omega arith))

-- a layer passed on the way up: its e is added where it is screened
pub added_more : (e : ℕ → Float) (s : ℕ → Bool) (i n : ℕ) (sum : Float) → i ≤ n → added_to e sum (screened_up_to s i (n + 1)) ≡ added_to e (cond (s n) (sum ⊕ e n) sum) (screened_up_to s i n)
unfolding added_to
added_more e s i n sum h = ap (added_to e sum) (up_to_more s i n h) ∙ go (s n)
  where
    go : (t : Bool) → added_to e sum (cond t (n ∷ screened_up_to s i n) (screened_up_to s i n)) ≡ added_to e (cond t (sum ⊕ e n) sum) (screened_up_to s i n)
    go true = refl
    go false = refl

-- E from the list with its deepest layer first
pub added_from : (e : ℕ → Float) (k : ℕ) {l ks : List ℕ} → l ≡ k ∷ ks → added e l ≡ added_to e (e k) ks
unfolding added
added_from e k q = rw q

-- ---- centres
top_le : (thickness : List ℕ) (k i : ℕ) → k ≤ i → layer_top thickness k ≤ layer_top thickness i
unfolding layer_top
top_le thickness k zero h = let e : k ≡ 0 = omega arith in rw e (omega arith)
top_le thickness k (suc i) h = ⊎_elim
    (λ lt. omega (arith, top_le thickness k i (omega arith)))
    (λ (le : suc i ≤ k). let e : k ≡ suc i = omega arith in rw e (omega arith))
    (below_or_not k (suc i))

centre_rises : (thickness : List ℕ) (k i : ℕ) → k < i → twice_centre thickness k ≤ twice_centre thickness i
unfolding twice_centre layer_top
centre_rises thickness k i h = omega (arith, top_le thickness (suc k) i h)

-- ---- what lies above a layer
upward_layer : (s : ℕ → Bool) (i k : ℕ) → upward_from s i ≡ Some k → (k < i) × (s k ≡ true)
unfolding upward_from
upward_layer s zero k q = let z : ◌≡◌ {A = ℕ} 0 1 = cc in absurd (omega arith)
upward_layer s (suc i) k q = go (s i) refl q (upward_layer s i k)
  where
    go : (t : Bool) → s i ≡ t → cond t (Some i) (upward_from s i) ≡ Some k → (upward_from s i ≡ Some k → (k < i) × (s k ≡ true)) → (k < suc i) × (s k ≡ true)
    go true e q further = let same : i ≡ k = cc in (omega arith, ap s (sym same) ∙ e)
    go false e q further = let r = further q in (omega arith, r.1)

last_is : (s : ℕ → Bool) (n : ℕ) (r : Option ℕ) → MatchOption r ((j : ℕ) → j < n → s j ≡ false) (λ k. (k < n) × (s k ≡ true) × ((j : ℕ) → k < j → j < n → s j ≡ false)) → r ≡ upward_from s n
unfolding upward_from
last_is s zero None h = refl
last_is s zero (Some k) h = absurd (omega (arith, h.0))
last_is s (suc n) None h = rw (h n (omega arith)) (last_is s n None (λ j g. h j (omega arith)))
last_is s (suc n) (Some k) h =
    ⊎_elim
    (λ lt. rw (h.2 n lt (omega arith)) (last_is s n (Some k) (lt, h.1, λ j f g. h.2 j f (omega arith))))
    (λ (le : n ≤ k). let e : k ≡ n = omega (arith, h.0) in rw (← e, h.1))
    (below_or_not k n)

-- the last screened layer before layer n, or none: as a search of the first n layers from their end gives it
pub upward_is : (l : List ℕ) (n : ℕ) (r : Option ℕ)
    → MatchOption r ((j : ℕ) → j < n → get_or (take n l) j 0 ≡ 1 → ⊥) (λ k. (k < n) × (get_or (take n l) k 0 ≡ 1) × ((j : ℕ) → k < j → j < n → get_or (take n l) j 0 ≡ 1 → ⊥))
    → r ≡ upward_from (is_screened l) n
unfolding is_screened
upward_is l n r h = last_is (is_screened l) n r (by_list r h)
  where
    -- the same in terms of the whole list
    here : (j : ℕ) → j < n → get_or (take n l) j 0 ≡ get_or l j 0
    here j g = get_or-take n l j 0 g

    by_list : (r : Option ℕ)
        → MatchOption r ((j : ℕ) → j < n → get_or (take n l) j 0 ≡ 1 → ⊥) (λ k. (k < n) × (get_or (take n l) k 0 ≡ 1) × ((j : ℕ) → k < j → j < n → get_or (take n l) j 0 ≡ 1 → ⊥))
        → MatchOption r ((j : ℕ) → j < n → is_screened l j ≡ false) (λ k. (k < n) × (is_screened l k ≡ true) × ((j : ℕ) → k < j → j < n → is_screened l j ≡ false))
    by_list None h = λ j g. ne_eqb _ _ (λ e. h j g (here j g ∙ e))
    by_list (Some k) h = (h.0, eq-eqb _ _ (sym (here k h.0) ∙ h.1), λ j f g. ne_eqb _ _ (λ e. h.2 j f g (here j g ∙ e)))

-- the deepest of n layers of which layer i is screened: E begins with it
pub record Deepest (s : ℕ → Bool) (i n k : ℕ) : Type 0 where
  pub least : i ≤ k
  pub most : k < n
  pub front : screened_up_to s i n ≡ k ∷ screened_up_to s i k

deepest_of : (s : ℕ → Bool) (i n k : ℕ) → i < n → s i ≡ true → k ≡ unwrap_or (upward_from s n) i → Deepest s i n k
unfolding upward_from screened_up_to
deepest_of s i zero k h e f = absurd (omega arith)
deepest_of s i (suc n) k h e f = go (s n) refl (λ g. deepest_of s i n k g e)
  where
    go : (t : Bool) → s n ≡ t → (i < n → k ≡ unwrap_or (upward_from s n) i → Deepest s i n k) → Deepest s i (suc n) k
    go true q further =
        let top : k ≡ n = f ∙ rw q in
        record { least = omega arith; most = omega arith; front = rw (top, q, le-leb i n (omega arith)) }
    go false q further =
        let other : i ≡ n → ⊥ = λ p. true≢false (sym e ∙ ap s p ∙ q) in
        let d = further (omega (arith, other)) (f ∙ rw q) in
        record { least = d.least; most = omega (arith, d.most); front = rw (q, le-leb i n (omega arith)) d.front }

-- the same of what the code found
pub deepest : {s : ℕ → Bool} {i n k : ℕ} {r : Option ℕ} → i < n → s i ≡ true → r ≡ upward_from s n → k ≡ unwrap_or r i → Deepest s i n k
deepest {s} {i} {n} {k} h e found f = deepest_of s i n k h e (f ∙ ap (λ r. unwrap_or r i) found)

-- the topmost screened layer is not below a screened one
topmost_le : (screened : List ℕ) (n j i : ℕ) → j ≤ i → i < n + j → is_screened screened i ≡ true → topmost_screened screened n j ≤ i
unfolding topmost_screened
topmost_le screened zero j i h k e = absurd (omega arith)
topmost_le screened (suc n) j i h k e = go (is_screened screened j) refl (λ lt. topmost_le screened n (suc j) i lt (omega arith) e)
  where
    go : (t : Bool) → is_screened screened j ≡ t → (suc j ≤ i → topmost_screened screened n (suc j) ≤ i) → cond t j (topmost_screened screened n (suc j)) ≤ i
    go true q further = h
    go false q further =
        let other : j ≡ i → ⊥ = λ p. true≢false (sym e ∙ ap (is_screened screened) (sym p) ∙ q) in
        further (omega arith)

module _ (s : Site) (i : ℕ) (h : Screened s i) where
  -- the intake is above the centre
  pub intake_above : 2 * s.intake ≤ twice_centre s.thickness i
  unfolding screen_holds twice_centre
  intake_above =
      let above : s.intake < screen_top s = ltb-true _ _ (three_hold (ltb (screen_layer s) s.layers) (not (is_screened s.screened 0)) (ltb s.intake (screen_top s)) h.screen).2 in
      omega (arith, above, top_le s.thickness (screen_layer s) i (topmost_le s.screened s.layers 0 i (omega arith) (omega (arith, h.layer)) h.screened))

  pub layer_above : (k : ℕ) → upward_from (is_screened s.screened) i ≡ Some k → Screened s k × (twice_centre s.thickness k ≤ twice_centre s.thickness i)
  layer_above k q =
      let r = upward_layer (is_screened s.screened) i k q in
      (record { counts = h.counts; numbers = h.numbers; screen = h.screen; layer = omega (arith, h.layer, r.0); screened = r.1 }, centre_rises s.thickness k i r.0)

  -- and so is the layer whose velocity is v'
  pub above_screened : {k : ℕ} {up : Option ℕ} → up ≡ upward_from (is_screened s.screened) i → k ≡ unwrap_or up i → Screened s k
  above_screened {k} {up} e f = go up (sym e) f
    where
      go : (u : Option ℕ) → upward_from (is_screened s.screened) i ≡ u → k ≡ unwrap_or u i → Screened s k
      go None e f = rw f h
      go (Some j) e f = rw f (layer_above j e).0

-- v' is v of that layer
pub velocity_of_above : (s : Site) (e : ℕ → Float) (i : ℕ) (u : Option ℕ) → velocity_at s e (unwrap_or u i) ≡ velocity_above s e i u
unfolding velocity_above
velocity_of_above s e i None = refl
velocity_of_above s e i (Some k) = refl
