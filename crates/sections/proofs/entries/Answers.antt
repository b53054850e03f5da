-- `sections::entries` meets its contract.
use Rattle.std.proofs.Common.{arith}
use Rattle.sections.proofs.Places.{places, entries_read}
use Rattle.sections.proofs.entries.Goals as goal

pub offset_bounds-values-layout : goal.offset_bounds-values-layout
offset_bounds-values-layout c = omega (arith, places c.requires.1)

pub bounds-values-layout : goal.bounds-values-layout
bounds-values-layout c = omega (arith, places c.requires.1)

pub returns : goal.returns
returns c ns r = entries_read r
