-- `read_budget::counted`: nonzero means in.
use Rattle.std.proofs.Common.{sym, ap, ◌∙◌, not, eq-eqb, ne_eqb, to_z-of_z}
use Rattle.laws.specs.Lists.{ifℤ}
use Rattle.read_budget.proofs.counted.Goals as goal

pub returns-then-byte-eq0 : goal.returns-then-byte-eq0
unfolding ifℤ
returns-then-byte-eq0 c = sym (ap (λ out. ifℤ (not out) c.args.loss) (eq-eqb c.args.byte 0 c.if-byte-eq0.true))

pub returns-else-byte-eq0 : goal.returns-else-byte-eq0
unfolding ifℤ
returns-else-byte-eq0 c = to_z-of_z c.ranges.loss ∙ sym (ap (λ out. ifℤ (not out) c.args.loss) (ne_eqb c.args.byte 0 c.if-byte-eq0.false))
