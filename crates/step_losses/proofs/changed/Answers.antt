-- `step_losses::changed` meets its contract: each sum on the way is in the limits that its `requires` gives.
use Rattle.std.proofs.Common.{ℤ, [], ◌∷◌, arith, neg_ℤ, ◌+ℤ◌, ◌-ℤ◌, w64, SFits, to_z-of_z}
use Rattle.laws.specs.Sums.{Room, room_more}
use Rattle.laws.specs.Signed.{room_fits}
use Rattle.limits.specs.Limits.{total_limit}
use Rattle.step_losses.proofs.changed.Goals as goal

module _ (v right lower left upper : ℤ) (h : Room total_limit v (right ∷ lower ∷ neg_ℤ left ∷ neg_ℤ upper ∷ [])) where
  after-right : Room total_limit (v +ℤ right) (lower ∷ neg_ℤ left ∷ neg_ℤ upper ∷ [])
  after-right = room_more h

  sum-right : SFits w64 (v +ℤ right)
  sum-right = room_fits after-right (omega arith)

  after_lower : Room total_limit (v +ℤ right +ℤ lower) (neg_ℤ left ∷ neg_ℤ upper ∷ [])
  after_lower = room_more after-right

  sum-lower : SFits w64 (v +ℤ right +ℤ lower)
  sum-lower = room_fits after_lower (omega arith)

  after-left : Room total_limit (v +ℤ right +ℤ lower -ℤ left) (neg_ℤ upper ∷ [])
  after-left = room_more after_lower

  sum_left : SFits w64 (v +ℤ right +ℤ lower -ℤ left)
  sum_left = room_fits after-left (omega arith)

  sum-upper : SFits w64 (v +ℤ right +ℤ lower -ℤ left -ℤ upper)
  sum-upper = room_fits (room_more after-left) (omega arith)

pub overflow_add-result : goal.overflow_add-result
overflow_add-result c = rw (to_z-of_z c.ranges.v, to_z-of_z c.ranges.right) (sum-right c.args.v c.args.right c.args.lower c.args.left c.args.upper c.requires)

pub overflow_add-result-2 : goal.overflow_add-result-2
overflow_add-result-2 c = rw (to_z-of_z c.ranges.v, to_z-of_z c.ranges.right, to_z-of_z c.ranges.lower, to_z-of_z (sum-right c.args.v c.args.right c.args.lower c.args.left c.args.upper c.requires)) (sum-lower c.args.v c.args.right c.args.lower c.args.left c.args.upper c.requires)

pub overflow_sub-result : goal.overflow_sub-result
overflow_sub-result c = rw (to_z-of_z c.ranges.v, to_z-of_z c.ranges.right, to_z-of_z c.ranges.lower, to_z-of_z c.ranges.left, to_z-of_z (sum-right c.args.v c.args.right c.args.lower c.args.left c.args.upper c.requires), to_z-of_z (sum-lower c.args.v c.args.right c.args.lower c.args.left c.args.upper c.requires)) (sum_left c.args.v c.args.right c.args.lower c.args.left c.args.upper c.requires)

pub overflow_sub-result-2 : goal.overflow_sub-result-2
overflow_sub-result-2 c =
    rw (
      to_z-of_z c.ranges.v,
      to_z-of_z c.ranges.right,
      to_z-of_z c.ranges.lower,
      to_z-of_z c.ranges.left,
      to_z-of_z c.ranges.upper,
      to_z-of_z (sum-right c.args.v c.args.right c.args.lower c.args.left c.args.upper c.requires),
      to_z-of_z (sum-lower c.args.v c.args.right c.args.lower c.args.left c.args.upper c.requires),
      to_z-of_z (sum_left c.args.v c.args.right c.args.lower c.args.left c.args.upper c.requires),
    ) (sum-upper c.args.v c.args.right c.args.lower c.args.left c.args.upper c.requires)

pub returns : goal.returns
returns c =
    rw (
      to_z-of_z c.ranges.v,
      to_z-of_z c.ranges.right,
      to_z-of_z c.ranges.lower,
      to_z-of_z c.ranges.left,
      to_z-of_z c.ranges.upper,
      to_z-of_z (sum-right c.args.v c.args.right c.args.lower c.args.left c.args.upper c.requires),
      to_z-of_z (sum-lower c.args.v c.args.right c.args.lower c.args.left c.args.upper c.requires),
      to_z-of_z (sum_left c.args.v c.args.right c.args.lower c.args.left c.args.upper c.requires),
      to_z-of_z (sum-upper c.args.v c.args.right c.args.lower c.args.left c.args.upper c.requires),
    )
