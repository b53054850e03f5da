-- `validity::valid`: the tests one after the other are those of 14.
use Rattle.std.proofs.Common.{◌≡◌, ◌∙◌, arith, rules}
use Rattle.std.proofs.lemmas.Grind.{common_steps}
use Rattle.validity.proofs.Checked.{checked, checked-valid}
use Rattle.validity.proofs.valid.Goals as goal

pub returns-then-totals_hold : goal.returns-then-totals_hold
unfolding checked
returns-then-totals_hold c = let e : c.drawdowns_hold.result ≡ checked c.args.«record» = search rules in e ∙ checked-valid c.args.«record»

pub returns-else-totals_hold : goal.returns-else-totals_hold
unfolding checked
returns-else-totals_hold c = let e : c.if-table_kept.value ≡ checked c.args.«record» = grind (arith, common_steps) in e ∙ checked-valid c.args.«record»
