-- `sections::copied` meets its contract: after i turns the first i places hold their numbers.
use Rattle.std.proofs.Common.{◌≡◌, replicate}
use Rattle.sections.specs.Reading.{field_copy}
use Rattle.sections.proofs.copied.Given as goal

abbrev pub invariant-loop-i : goal.invariant-loop-i
invariant-loop-i g l = l.out ≡ field_copy l.values l.from l.width l.i (replicate g.row.N 0)
