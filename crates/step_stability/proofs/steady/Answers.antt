-- `step_stability::steady`: 8 at the well, then at every slot of the layers.
use Rattle.std.proofs.Common.{sym, ◌∙◌, ℕ, Bool, ◌*◌, refl, arith, rules, tests}
use Rattle.std.proofs.lemmas.Iterator.{YieldsList-from_range}
use Rattle.std.proofs.lemmas.Iterator.Search.{all_from_yields_List}
use Rattle.laws.specs.Chains.{all_counted}
use Rattle.step_stability.specs.Stability.{cell_steady, slots_steady}
use Rattle.step_stability.proofs.steady.Goals as goal

pub returns-then-product_le : goal.returns-then-product_le
unfolding slots_steady
returns-then-product_le c =
    let r = c.args.rec.now in
    let n = r.site.layers * 50 in
    let holds : ℕ → Bool = cell_steady r.site.columns r.screen r.horizontal r.vertical r.storages c.args.dt in
    rw (sym (rw c.well_sum.ensures at c.product_le.ensures) ∙ c.if-product_le.true)
    (all_counted holds n (all_from_yields_List holds _ _ c.all.result c.all.ensures.ran (YieldsList-from_range 0 n n refl (omega arith)) (λ x b q k. search (rules, tests))))

pub returns-else-product_le : goal.returns-else-product_le
unfolding slots_steady
returns-else-product_le c = rw (sym (rw c.well_sum.ensures at c.product_le.ensures) ∙ c.if-product_le.false) c.if-product_le.false
