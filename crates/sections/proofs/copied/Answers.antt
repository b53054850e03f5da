-- `sections::copied` meets its contract: after i turns the first i places hold their numbers.
use Rattle.std.proofs.Common.{refl, sym}
use Rattle.laws.specs.Fill.{fill_none, fill_more}
use Rattle.sections.proofs.copied.Goals as goal

pub loop-i-init : goal.loop-i-init
loop-i-init g c = sym (fill_none _ _)

pub loop-i-preserved : goal.loop-i-preserved
loop-i-preserved g c = fill_more _ _ _ c.loop-i.invariant refl
