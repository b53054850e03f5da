-- Laws that this crate's proofs share.
use Rattle.std.proofs.Common.{◌≡◌, refl, sym, ◌∙◌, ap, Bool, true, false, cond, ◌&&◌, Some, None, List, ℕ, zero, suc, ◌+◌, ◌-◌, ◌*◌, ◌≤◌, ◌<◌, leb, ltb, length, get_or, take, sum, add-one, ⊎_elim, arith}
use Rattle.std.specs.List.{list_all}
use Rattle.std.proofs.lemmas.List.Folds.{list_all_more}
use Rattle.std.proofs.lemmas.List.Sums.{sum_by_more}
use Rattle.std.proofs.lemmas.List.{take_all, get_or_past}
use Rattle.std.proofs.Math.Bool.{and-true}
use Rattle.laws.specs.Lists.{all_below}
use Rattle.limits.specs.Limits.{yield_limits, specific_storage_limits, midsection_factor}
use Rattle.laws.specs.Number.{below_or_not}
use Rattle.site.specs.Site.{is_screened, midsection, layer_top, topmost_screened, storage_holds, column_rises}

-- what a test that a loop makes says of the test that its callee's contract names
pub fails : {t p : Bool} → t ≡ p → t ≡ false → p ≡ false
fails e h = sym e ∙ h

pub holds : {t p : Bool} → t ≡ p → t ≡ true → p ≡ true
holds e h = sym e ∙ h

-- storage of the first layer, and of one below it
pub storage_first : (i x : ℕ) → i ≡ 0 → storage_holds i x ≡ yield_limits x
unfolding storage_holds
storage_first i x e = rw e

pub storage_below : (i x : ℕ) → (i ≡ 0 → ⊥) → storage_holds i x ≡ specific_storage_limits x
unfolding storage_holds
storage_below zero x ne = absurd (ne refl)
storage_below (suc i) x ne = refl

-- rule 4 at column j, as the loop has its radii
pub rises_at : (rs : List ℕ) (j previous radius : ℕ) →
    radius ≡ get_or rs j 0 →
    previous + radius ≡ midsection rs j →
    (ltb radius (get_or rs (suc j) 0) && leb (radius + get_or rs (suc j) 0) (midsection_factor * (previous + radius))) ≡ column_rises rs j
unfolding column_rises midsection
rises_at rs j previous radius e u = rw (u, e)

-- a test of each of the first n numbers is a test of each number below n: past the last, 0 passes
pub all_in : (p : ℕ → Bool) (xs : List ℕ) (n : ℕ) → p 0 ≡ true → list_all p (take n xs) ≡ all_below n (λ k. p (get_or xs k 0))
unfolding all_below
all_in p xs zero z = refl
all_in p xs (suc n) z =
    let rest = all_in p xs n z in
    ⊎_elim (λ (lt : n < length xs). (rw (add-one n) at (list_all_more p xs n 0 lt)) ∙ ap (λ b. b && p (get_or xs n 0)) rest)
    (λ (le : length xs ≤ n).
    let same : take (suc n) xs ≡ take n xs = take_all (suc n) xs (omega arith) ∙ sym (take_all n xs le) in
    rw (same, get_or_past xs n 0 le, z, rest) (sym (and-true (all_below n (λ k. p (get_or xs k 0))))))
    (below_or_not n (length xs))

-- the depth of a layer's top is the sum of the layers above it
pub top_sum : (xs : List ℕ) (n : ℕ) → sum (take n xs) ≡ layer_top xs n
unfolding layer_top
top_sum xs zero = refl
top_sum xs (suc n) =
    ⊎_elim (λ (lt : n < length xs). (rw (add-one n) at (sum_by_more (λ x. x) xs n 0 lt)) ∙ ap (λ d. d + get_or xs n 0) (top_sum xs n))
    (λ (le : length xs ≤ n).
    let same : take (suc n) xs ≡ take n xs = take_all (suc n) xs (omega arith) ∙ sym (take_all n xs le) in
    rw (same, get_or_past xs n 0 le, top_sum xs n) (omega arith))
    (below_or_not n (length xs))

-- at most 10^6 mm a layer
pub top_most : (xs : List ℕ) (n : ℕ) → ((i : ℕ) → i < n → get_or xs i 0 ≤ 1000000) → layer_top xs n ≤ 1000000 * n
unfolding layer_top
top_most xs zero h = omega arith
top_most xs (suc n) h = omega (arith, top_most xs n (λ i lt. h i (omega arith)), h n (omega arith))

-- one layer further down in the search for the screen
pub topmost_turn : (screened : List ℕ) (n i : ℕ) → i < n →
    topmost_screened screened (n - i) i ≡ cond (is_screened screened i) i (topmost_screened screened (n - (i + 1)) (i + 1))
unfolding topmost_screened
topmost_turn screened n i h = let e : n - i ≡ suc (n - (i + 1)) = omega arith in rw (e, add-one i)

-- what the search found
pub some_found : (t : Bool) (l i : ℕ) → Some i ≡ cond t (Some l) None → (t ≡ true) × (l ≡ i)
some_found true l i e = (refl, cc)
some_found false l i e = absurd cc

pub none_found : (t : Bool) (l : ℕ) → None ≡ cond t (Some l) None → t ≡ false
none_found true l e = absurd cc
none_found false l e = refl
