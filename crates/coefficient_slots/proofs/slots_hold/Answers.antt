-- `coefficient_slots::slots_hold`: what a chain's `all` gives is the test of every slot.
use Rattle.std.proofs.Common.{◌∙◌, rules, tests}
use Rattle.std.proofs.lemmas.Iterator.{YieldsList-from_slice}
use Rattle.std.proofs.lemmas.Iterator.Consumers.{YieldsList-from_enumerate}
use Rattle.std.proofs.lemmas.Iterator.Search.{all_from_yields_List}
use Rattle.coefficient_slots.specs.Held.{slot_holds, array_holds}
use Rattle.laws.specs.Chains.{all_listed}
use Rattle.coefficient_slots.proofs.slots_hold.Goals as goal

pub returns : goal.returns
unfolding array_holds
returns c =
    let a = c.args in
    all_from_yields_List (λ p. slot_holds a.layers a.columns a.lo a.hi p.0 p.1) _ _ c.all.result c.all.ensures.ran
    (YieldsList-from_enumerate (YieldsList-from_slice a.values.now cc) cc) (λ x b q k. search (rules, tests))
    ∙ all_listed 0 (slot_holds a.layers a.columns a.lo a.hi) a.values.now 1000 (search rules)
