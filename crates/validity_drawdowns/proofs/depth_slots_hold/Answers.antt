-- `validity_drawdowns::depth_slots_hold`: what a chain's `all` gives is the test of every slot.
use Rattle.std.proofs.Common.{ℕ, Bool, refl, get_or, pos, rules, tests}
use Rattle.std.proofs.lemmas.Iterator.{YieldsList-from_range}
use Rattle.std.proofs.lemmas.Iterator.Search.{all_from_yields_List}
use Rattle.validity_drawdowns.specs.Drawdowns.{depth_slot_holds, depth_slots_hold}
use Rattle.laws.specs.Chains.{all_counted}
use Rattle.validity_drawdowns.proofs.depth_slots_hold.Goals as goal

pub returns : goal.returns
unfolding depth_slots_hold
returns c =
    let r = c.args.rec.now in
    let holds : ℕ → Bool = λ k. depth_slot_holds r.site.layers r.site.columns c.args.table c.args.mark k (get_or r.storages k 0) (get_or r.losses k (pos 0)) in
    all_counted holds 1000 (all_from_yields_List holds _ _ c.all.result c.all.ensures.ran (YieldsList-from_range 0 1000 1000 refl refl) (λ x b q k. search (rules, tests)))
