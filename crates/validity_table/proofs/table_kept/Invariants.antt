-- `validity_table::table_kept`: every C before the loop's place is the value at s = 0.
use Rattle.std.proofs.Common.{◌≡◌, true, suc, eqb, get_or}
use Rattle.laws.specs.Lists.{all_below}
use Rattle.coefficient_cells.specs.Cells.{down_of}
use Rattle.validity_table.proofs.table_kept.Given as goal

abbrev pub invariant-loop-k : goal.invariant-loop-k
invariant-loop-k l = all_below l.k (λ k. eqb (get_or l.rec.vertical k 0) (down_of l.rec.site 0 (suc k))) ≡ true
