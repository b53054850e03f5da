-- The faces of a layer's slots as the layer's sweep names them and as all layers' do, spans by functions that agree on them, and what stands
-- after spans.
use Rattle.std.proofs.Common.{◌≡◌, refl, ap, ◌∙◌, cond, List, [], ◌∷◌, ℕ, zero, suc, ◌+◌, ◌*◌, ◌-◌, ◌/◌, ◌%◌, ◌≤◌, ◌<◌, arith, ℤ, pos, neg_ℤ, ◌+ℤ◌, ◌-ℤ◌, get_or, get_or-set_other, eq-eqb, ne_eqb}
use Rattle.laws.specs.Span.{span, spans}
use Rattle.laws.specs.Sums.{Room}
use Rattle.limits.specs.Limits.{total_limit}
use Rattle.step_losses.specs.Losses.{Water, left, upper, changed, Within}

module _ (w : Water) (start : ℕ) (even : start % 50 ≡ 0) where
  -- the first face of a layer is the well's
  pub row_first : left w (start + 0) ≡ w.screen ((start + 0) / 50)
  unfolding left
  row_first = ap (λ t. cond t (w.screen ((start + 0) / 50)) (w.right (start + 0 - 1))) (eq-eqb ((start + 0) % 50) 0 (omega arith))

  -- each of the others is that of the slot before
  pub row_next : (n : ℕ) → n + 1 < 50 → left w (start + (n + 1)) ≡ w.right (start + n)
  unfolding left
  row_next n h =
      ap (λ t. cond t (w.screen ((start + (n + 1)) / 50)) (w.right (start + (n + 1) - 1))) (ne_eqb ((start + (n + 1)) % 50) 0 (λ e. absurd (omega (arith, e))))
      ∙ ap w.right (omega arith)

  -- that with the last column is of the last of `width` slots
  pub row_last : (width : ℕ) → 1 ≤ width → width < 50 → left w (start + width) ≡ w.right (start + (width - 1))
  row_last width h most = let e : width ≡ width - 1 + 1 = omega arith in ap (λ n. left w (start + n)) e ∙ row_next (width - 1) (omega arith)

-- layer i of all, to which `first` comes from the well
module _ (right lower screen : ℕ → ℤ) (i n : ℕ) (h : n < 50) {first : ℤ} (well : first ≡ screen i) where
  abbrev row : Water
  row = record { right = right; lower = lower; screen = λ j. first }

  abbrev all : Water
  all = record { right = right; lower = lower; screen = screen }

  row-left : left row (50 * i + n) ≡ left all (50 * i + n)
  unfolding left
  row-left = let layer : (50 * i + n) / 50 ≡ i = omega arith in rw (layer, well)

  -- from losses vs' that agree with vs on its slots
  module _ (vs vs' : List ℤ) (e : get_or vs' (50 * i + n) (pos 0) ≡ get_or vs (50 * i + n) (pos 0)) where
    pub row-loss : changed row vs' (50 * i + n) ≡ changed all vs (50 * i + n)
    unfolding changed upper
    row-loss = rw (e, row-left)

    pub row_within : Within all vs (50 * i + n) → Within row vs' (50 * i + n)
    unfolding upper
    row_within q = record { water = q.water; room = rw (e, row-left) q.room }

-- a sum of parts that are these is this sum, and stays within what this one stays within
module _ {v right lower left upper v' right' lower' left' upper' : ℤ} (p : v ≡ v') (q : right ≡ right') (d : lower ≡ lower') (e : left ≡ left') (u : upper ≡ upper') where
  pub parts_room : Room total_limit v' (right' ∷ lower' ∷ neg_ℤ left' ∷ neg_ℤ upper' ∷ []) → Room total_limit v (right ∷ lower ∷ neg_ℤ left ∷ neg_ℤ upper ∷ [])
  parts_room h = rw (p, q, d, e, u) h

  pub parts_sum : v +ℤ right +ℤ lower -ℤ left -ℤ upper ≡ v' +ℤ right' +ℤ lower' -ℤ left' -ℤ upper'
  parts_sum = rw (p, q, d, e, u)

-- what stands after the spans stays
module _ {A : Type 0} (f : ℕ → A) (l : List A) (k : ℕ) (d : A) where
  pub span_rest : (s n : ℕ) → s + n ≤ k → get_or (span s n f l) k d ≡ get_or l k d
  unfolding span
  span_rest s zero h = refl
  span_rest s (suc n) h = get_or-set_other (span s n f l) (s + n) k (f (s + n)) d (λ e. absurd (omega (arith, e))) ∙ span_rest s n (omega arith)

pub spans_rest : {A : Type 0} (f : ℕ → A) (l : List A) (k : ℕ) (d : A) (w n : ℕ) → w ≤ 50 → 50 * n ≤ k → get_or (spans w n f l) k d ≡ get_or l k d
unfolding spans
spans_rest f l k d w zero h u = refl
spans_rest f l k d w (suc n) h u = span_rest f (spans w n f l) k d (50 * n) w (omega arith) ∙ spans_rest f l k d w n h (omega arith)
