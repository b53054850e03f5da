-- What the tests of losses and totals say of each, for the proofs of this and other crates: laws only, nothing to believe.
--     slot_natural     no loss of a slot is negative
--     Totals           what the totals are that agree; totals_agree_lem: from the test
use Rattle.std.specs.Prelude.{◌≡◌, true, ◌&&◌, List, ℕ, ◌+◌, ◌≤◌, ◌<◌, leb, eqb, ℤ, pos, nat_abs, get_or}
use Rattle.std.proofs.Common.{leb-true, eqb-true}
use Rattle.std.specs.Int.Signed.{non_neg}
use Rattle.laws.specs.All.{all_at, and_left, and_right}
use Rattle.laws.specs.Rows.{four_hold}
use Rattle.limits.specs.Limits.{total_limit}
use Rattle.validity_totals.specs.Totals.{loss_slot_holds, loss_slots_hold, loss_sum, totals_agree}

pub slot_natural : (layers columns : ℕ) (l : List ℤ) → loss_slots_hold layers columns l ≡ true → (k : ℕ) → k < 1000 → non_neg (get_or l k (pos 0)) ≡ true
unfolding loss_slots_hold loss_slot_holds
slot_natural layers columns l e k h = and_left (non_neg (get_or l k (pos 0))) _ (all_at _ 1000 k e h)

pub record Totals (l : List ℤ) (v w : ℤ) (n t : ℕ) : Type 0 where
  pub well : non_neg v ≡ true
  pub inflow : non_neg w ≡ true
  pub pumped : n ≤ total_limit
  pub time : t ≤ total_limit
  pub sum : loss_sum 1000 l + (nat_abs v + nat_abs w) ≡ n

pub totals_agree_lem : (l : List ℤ) (v w : ℤ) (n t : ℕ) → totals_agree l v w n t ≡ true → Totals l v w n t
unfolding totals_agree
totals_agree_lem l v w n t e =
    let all = four_hold (non_neg v && non_neg w) (leb n total_limit) (leb t total_limit) (eqb (loss_sum 1000 l + (nat_abs v + nat_abs w)) n) e in
    record {
      well = and_left (non_neg v) (non_neg w) all.0;
      inflow = and_right (non_neg v) (non_neg w) all.0;
      pumped = leb-true _ _ all.1;
      time = leb-true _ _ all.2;
      sum = eqb-true _ _ all.3;
    }
