-- `validity_totals::loss_slots_hold`: every slot before the loop's place holds what it may.
use Rattle.std.proofs.Common.{◌≡◌, true, pos, get_or}
use Rattle.laws.specs.Lists.{all_below}
use Rattle.validity_totals.specs.Totals.{loss_slot_holds}
use Rattle.validity_totals.proofs.loss_slots_hold.Given as goal

abbrev pub invariant-loop-k : goal.invariant-loop-k
invariant-loop-k l = all_below l.k (λ n. loss_slot_holds l.layers l.columns n (get_or l.rec.losses n (pos 0))) ≡ true
