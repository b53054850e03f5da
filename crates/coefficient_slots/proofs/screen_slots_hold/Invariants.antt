-- `coefficient_slots::screen_slots_hold`: every slot before the loop's place holds what it may.
use Rattle.std.proofs.Common.{◌≡◌, true, get_or}
use Rattle.laws.specs.Lists.{all_below}
use Rattle.coefficient_slots.specs.Held.{screen_slot_holds}
use Rattle.coefficient_slots.proofs.screen_slots_hold.Given as goal

abbrev pub invariant-loop-i : goal.invariant-loop-i
invariant-loop-i l = all_below l.i (λ n. screen_slot_holds l.layers n (get_or l.rec.site.screened n 0) (get_or l.rec.screen n 0)) ≡ true
