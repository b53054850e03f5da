-- `site::storage_holds` meets its contract in the first layer and below it.
use Rattle.std.proofs.Common.{◌≡◌, sym, ◌∙◌}
use Rattle.limits.specs.Limits.{yield_limits, specific_storage_limits}
use Rattle.site.proofs.Laws.{storage_first, storage_below}
use Rattle.site.proofs.storage_holds.Goals as goal

pub returns-then-i-eq0 : goal.returns-then-i-eq0
returns-then-i-eq0 c =
    let within : c.between.result ≡ yield_limits c.args.storage = c.between.ensures in
    within ∙ sym (storage_first _ _ c.if-i-eq0.true)

pub returns-else-i-eq0 : goal.returns-else-i-eq0
returns-else-i-eq0 c =
    let within : c.between-else-i-eq0.result ≡ specific_storage_limits c.args.storage = c.between-else-i-eq0.ensures in
    within ∙ sym (storage_below _ _ c.if-i-eq0.false)
