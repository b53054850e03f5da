-- `words::divide::by_word` meets its contract: the leading zeros of the divisor bring it to full width, and the dividend shifted alike has
-- the same quotient.
use Rattle.std.proofs.Common.{◌≡◌, ℕ, suc, ◌+◌, ◌-◌, ◌*◌, ◌/◌, ◌%◌, ◌^◌, ◌<◌, ◌≤◌, sym, ap, ◌∙◌, subst, ap₂, le_trans, lt_trans, le_of_eq, mul-le-mul_right, mod-eq_of_lt, div-lt_iff_lt-mul, mul-lt-mul_of_pos_right, arith, pow_pos, pow-add, shl_lt}
use Rattle.std.proofs.Math.Nat.{div-div-eq-div-mul, mul-div-mul_right}
use Rattle.std.proofs.Math.Arith.{digits_lt}
use Rattle.std.specs.Int.Count.{count_leading_zeros}
use Rattle.std.proofs.lemmas.Nat.{leading_top}
use Rattle.laws.specs.Divide.{shifted}
use Rattle.words.proofs.divide.by_word.Goals as goal

module _ (high low d : ℕ) (below : high < d) (low_fits : low < 2 ^ 64) (d_fits : d < 2 ^ 64) where
  abbrev zeros : ℕ
  zeros = count_leading_zeros 64 d

  -- what the divisor is multiplied by, and what the lower word is then divided by for the upper
  abbrev up : ℕ
  up = 2 ^ zeros

  abbrev down : ℕ
  down = 2 * 2 ^ (63 - zeros)

  -- the dividend's upper word, as the code works it
  abbrev top : ℕ
  top = high * up % 2 ^ 64 + low / 2 / 2 ^ (63 - zeros)

  short : zeros < 64
  short =
      let place = leading_top 64 d (omega arith) d_fits in
      omega (arith, place.1)

  full : (2 ^ 63 ≤ d * up) × (d * up < 2 ^ 64)
  full =
      let place = leading_top 64 d (omega arith) d_fits in
      let from : place.0 + zeros ≡ 63 = omega (arith, place.1) in
      let to : suc place.0 + zeros ≡ 64 = omega (arith, place.1) in (
        le_trans (le_of_eq (ap (λ (x : ℕ). 2 ^ x) (sym from) ∙ pow-add 2 place.0 zeros)) (mul-le-mul_right up place.2),
        subst (λ (x : ℕ). d * up < 2 ^ x) to (shl_lt (suc place.0) zeros place.3),
      )

  -- the two shifts make a word's
  both : up * down ≡ 2 ^ 64
  both =
      let all : zeros + (1 + (63 - zeros)) ≡ 64 = omega (arith, short) in
      ap (λ (x : ℕ). up * x) (sym (pow-add 2 1 (63 - zeros))) ∙ sym (pow-add 2 zeros (1 + (63 - zeros))) ∙ ap (λ (x : ℕ). 2 ^ x) all

  -- the divisor and the upper word lose nothing
  divisor : d * up % 2 ^ 64 ≡ d * up
  divisor = mod-eq_of_lt full.1

  whole : top ≡ high * up + low / down
  whole = ap₂ (λ (x y : ℕ). x + y) (mod-eq_of_lt (lt_trans (mul-lt-mul_of_pos_right below (pow_pos zeros)) full.1)) (div-div-eq-div-mul low 2 (2 ^ (63 - zeros)))

  top_below : top < d * up
  top_below = rw whole (digits_lt below ((div-lt_iff_lt-mul {k = down} {x = low} {y = up} (omega (arith, pow_pos (63 - zeros)))).1 (rw both low_fits)))

  same : (top * 2 ^ 64 + low * up % 2 ^ 64) / (d * up % 2 ^ 64) ≡ (high * 2 ^ 64 + low) / d
  same =
      rw (whole, divisor)
      (ap (λ (x : ℕ). x / (d * up)) (subst (λ (w : ℕ). (high * up + low / down) * w + low * up % w ≡ (high * w + low) * up) both (shifted high low up down (pow_pos zeros)))
      ∙ mul-div-mul_right (high * 2 ^ 64 + low) d (pow_pos zeros))

pub overflow_add-top : goal.overflow_add-top
overflow_add-top c = record {
  fits =
      lt_trans
      (top_below c.args.high c.args.low c.args.d c.requires c.ranges.low.fits c.ranges.d.fits)
      (full c.args.high c.args.low c.args.d c.requires c.ranges.low.fits c.ranges.d.fits).1;
}

pub by_full_width-requires : goal.by_full_width-requires
by_full_width-requires c =
    rw (divisor c.args.high c.args.low c.args.d c.requires c.ranges.low.fits c.ranges.d.fits)
    ((full c.args.high c.args.low c.args.d c.requires c.ranges.low.fits c.ranges.d.fits).0, top_below c.args.high c.args.low c.args.d c.requires c.ranges.low.fits c.ranges.d.fits)

pub returns : goal.returns
returns c = c.by_full_width.ensures ∙ same c.args.high c.args.low c.args.d c.requires c.ranges.low.fits c.ranges.d.fits
