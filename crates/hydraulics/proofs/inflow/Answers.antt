-- `hydraulics::inflow` meets its contract: |F| is at most 4×10^18, so that F/1000 is at most 4×10^15, which is below 2^53.
use Rattle.std.proofs.Common.{◌≤◌, arith, ℤ, pos, neg_ℤ, nat_abs, w64, SFits, to_z-of_z}
use lib.IntN.{+ℤ_idl}
use lib.Signed.{quot_z}
use Rattle.laws.specs.Signed.{small_fits, abs_neg}
use Rattle.limits.specs.Limits.{total_limit}
use Rattle.hydraulics.specs.Hydraulics.{inflow_of}
use Rattle.hydraulics.proofs.Laws.{quot_size}
use Rattle.hydraulics.proofs.inflow.Goals as goal

module _ (w : ℤ) (h : nat_abs w ≤ total_limit) where
  opposite-fits : SFits w64 (neg_ℤ w)
  opposite-fits = small_fits (neg_ℤ w) {n = total_limit} (omega (arith, abs_neg w)) (omega arith)

  thousands : nat_abs (quot_z (neg_ℤ w) (pos 1000)) ≤ 4000000000000000
  thousands = omega (arith, quot_size (neg_ℤ w) 1000, abs_neg w)

  thousands-fit : SFits w64 (quot_z (neg_ℤ w) (pos 1000))
  thousands-fit = small_fits (quot_z (neg_ℤ w) (pos 1000)) {n = 4000000000000000} thousands (omega arith)

pub returns : goal.returns
unfolding inflow_of
returns c =
    let read_back = rw (to_z-of_z c.ranges.from_well, +ℤ_idl, to_z-of_z (opposite-fits c.args.from_well c.requires.0), to_z-of_z (thousands-fit c.args.from_well c.requires.0)) at c.signed.ensures.0 in
    rw (read_back, c.whole.ensures.0)
